pub use Rattle.fault_texts.specs as of_fault_texts
pub mod Shapes
pub mod Told
