pub mod Named
pub mod Pairs
pub mod Modes
pub mod Sizes
pub mod Starts
pub mod Questions
