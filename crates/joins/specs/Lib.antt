pub mod Rising
pub mod Inserts
pub mod Joins
