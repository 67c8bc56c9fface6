pub use Rattle.eoe.specs as of_eoe
pub mod Addresses
pub mod Ports
pub mod Switch
