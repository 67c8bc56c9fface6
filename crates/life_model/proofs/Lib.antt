pub use Rattle.state_model.proofs.of_link_model as of_link_model
pub use Rattle.state_model.proofs.of_segment_model as of_segment_model
pub use Rattle.state_model.proofs as of_state_model
pub mod Owns
pub mod Rings
pub mod Eras
pub mod Gives
pub mod Lasts
pub mod Books
mod Worked
pub mod Rests
mod Around
pub mod Gaining
pub mod Halving
pub mod Mending
pub mod Openings
pub mod Paying
mod Turns
mod Twice
mod LifeWorked
pub mod Lists
pub mod Told
pub mod Shown
pub mod Answered
pub mod Doubts
pub mod Stood
pub mod Walks
pub mod Opens
pub mod Endings
pub mod Grows
pub mod Moving
pub mod Scripts
