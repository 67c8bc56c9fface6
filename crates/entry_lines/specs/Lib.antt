pub use Rattle.value_texts.specs as of_value_texts
pub mod Usage
pub mod Slaves
pub mod Values
