pub mod NamedLaws
pub mod PairLaws
pub mod StartLaws
pub mod ModeLaws
pub mod SizeLaws
pub mod TableLaws
pub mod QuestionLaws
