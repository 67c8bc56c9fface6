pub mod Actions
pub mod Rows
pub mod Characters
pub mod Values
