pub use Rattle.exchange_model.proofs as of_exchange_model
pub use Rattle.link_model.proofs as of_link_model
pub mod Overs
pub mod News
pub mod Answers
pub mod Links
pub mod Views
pub mod Sounds
pub mod Fitted
pub mod Rising
pub mod Kept
pub mod Replays
pub mod Rests
mod ToyRun
mod GivenUps
mod Definitions
pub mod Written
pub mod Posts
pub mod Handed
pub mod Hands
pub mod Ended
pub mod Bounds
pub mod Tours
mod Trials
mod Table
mod Paces
pub mod Openings
pub mod Returning
