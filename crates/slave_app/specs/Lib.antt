pub mod Meaning
pub mod New
pub mod Exchange
pub mod States
pub mod Toys
