pub mod Put
pub mod Numbers
pub mod Words
pub mod Loads
