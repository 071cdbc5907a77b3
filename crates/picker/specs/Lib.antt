pub mod Pick
pub mod Demands
pub mod Examples
