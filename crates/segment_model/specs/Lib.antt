pub use Rattle.exchange_model.specs as of_exchange_model
pub use Rattle.link_model.specs as of_link_model
pub mod Slaves
pub mod Record
pub mod Returned
pub mod Ends
pub mod Seats
pub mod Laws
pub mod Split
pub mod GiveUps
pub mod Visits
pub mod Books
pub mod Trial
