pub mod OrderLaws
pub mod InsertLaws
pub mod JoinLaws
pub mod WriteLaws
