pub use Rattle.ec_links.specs as of_ec_links
pub use Rattle.ec_links.specs.of_ec_outside as of_ec_outside
pub mod Cutting
pub mod Hearing
pub mod Sending
