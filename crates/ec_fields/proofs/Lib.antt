pub mod Cells
pub mod Puts
