pub mod Explain
pub mod Call
pub mod Course
