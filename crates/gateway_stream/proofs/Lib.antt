pub mod Whole
pub mod Cuts
mod Asked
pub mod Heard
pub mod Sent
