pub mod Report
pub mod Pages
