pub use Rattle.ec_fields.specs as of_ec_fields
pub mod Area
pub mod Bodies
pub mod Counter
pub mod Head
pub mod Kind
pub mod Mail
pub mod Replies
pub mod View
