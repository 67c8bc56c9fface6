pub mod Near
pub mod Hint
