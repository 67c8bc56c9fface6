pub mod Stored
pub mod HeardItems
