pub use Rattle.ec_fields.specs as of_ec_fields
pub mod Coe
pub mod Faults
pub mod Fields
pub mod Reading
pub mod Writing
pub mod View
