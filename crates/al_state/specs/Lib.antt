pub use Rattle.datagrams.specs as of_datagrams
pub use Rattle.datagrams.specs.of_ec_fields as of_ec_fields
pub mod BringUp
pub mod Climb
pub mod Request
