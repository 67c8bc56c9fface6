pub mod Spelled
pub mod Whole
pub mod Blocks
