pub mod Starts
pub mod Walks
