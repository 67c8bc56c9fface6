pub mod Hearing
pub mod Serving
pub mod Steps
