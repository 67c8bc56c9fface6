pub mod Packed
pub mod Copied
pub mod Places
