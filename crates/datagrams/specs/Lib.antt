pub use Rattle.ec_fields.specs as of_ec_fields
pub mod Command
pub mod Datagram
pub mod Draft
pub mod Frame
pub mod Meeting
