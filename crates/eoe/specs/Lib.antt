pub mod Cutting
pub mod Joining
pub mod Message
pub mod Address
pub mod View
