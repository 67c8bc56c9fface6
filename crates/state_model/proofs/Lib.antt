pub use Rattle.segment_model.proofs.of_exchange_model as of_exchange_model
pub use Rattle.segment_model.proofs.of_link_model as of_link_model
pub use Rattle.segment_model.proofs as of_segment_model
pub mod Words
pub mod Kept
mod Orders
mod Drains
mod Servings
mod ToyRun
mod Mets
pub mod News
pub mod Acts
pub mod StatedLaw
pub mod Takens
pub mod FamilyLaw
pub mod ToyLaw
pub mod Rings
pub mod Served
pub mod Carries
pub mod TaskOrders
pub mod Stately
pub mod Walks
pub mod Turns
pub mod Ghosts
pub mod Begins
pub mod Moves
pub mod Stepped
pub mod Splits
pub mod Completed
pub mod Replies
pub mod Dones
pub mod Newest
pub mod Promised
pub mod Resting
pub mod Booked
pub mod Steadies
pub mod Sessions
mod TaskToyRun
pub mod Owned
