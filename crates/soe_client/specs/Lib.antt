pub mod Talk
pub mod Hear
