pub use Rattle.ec_fields.specs as of_ec_fields
pub mod Entries
pub mod Dictionary
pub mod Whole
pub mod Information
pub mod Sound
