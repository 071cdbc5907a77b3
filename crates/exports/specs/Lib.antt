pub mod Bytes
pub mod Calls
pub mod Lent
pub mod Examples
