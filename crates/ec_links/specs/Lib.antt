pub use Rattle.ec_outside.specs as of_ec_outside
pub mod Link
