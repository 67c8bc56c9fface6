pub mod Message
pub mod View
