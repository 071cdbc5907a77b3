pub mod RowLaws
pub mod WalkLaws
