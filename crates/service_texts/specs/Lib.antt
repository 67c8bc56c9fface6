pub use Rattle.value_texts.specs as of_value_texts
pub mod States
pub mod Packets
pub mod Services
pub mod Results
pub mod Emergencies
