pub mod Sets
pub mod Answers
pub mod Rounds
