pub use Rattle.segment_model.specs.of_exchange_model as of_exchange_model
pub use Rattle.segment_model.specs.of_link_model as of_link_model
pub use Rattle.segment_model.specs as of_segment_model
pub mod States
pub mod Promises
pub mod Order
pub mod Met
pub mod Stated
pub mod Families
pub mod Toys
pub mod Accounts
pub mod Tasks
pub mod Promise
pub mod Books
pub mod Steady
