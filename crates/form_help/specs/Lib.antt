pub mod Rows
pub mod Help
