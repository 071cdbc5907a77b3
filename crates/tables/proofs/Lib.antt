pub mod CheckLaws
pub mod FileLaws
pub mod AcceptedLaws
pub mod BodyLaws
pub mod TableLaws
pub mod RowLaws
