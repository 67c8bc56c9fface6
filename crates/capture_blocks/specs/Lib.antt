pub mod Block
pub mod Order
