pub mod Lawful
pub mod Exchanged
