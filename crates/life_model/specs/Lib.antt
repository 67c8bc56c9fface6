pub use Rattle.state_model.specs.of_exchange_model as of_exchange_model
pub use Rattle.state_model.specs.of_segment_model as of_segment_model
pub use Rattle.state_model.specs as of_state_model
pub mod Own
pub mod Alone
pub mod Lives
pub mod Eras
pub mod Tours
pub mod Gave
pub mod Book
pub mod Deadlines
pub mod Gains
pub mod Repairs
pub mod Rounds
pub mod Tally
pub mod Visits
pub mod Answers
pub mod Chain
pub mod Open
pub mod Ending
pub mod Steps
pub mod Script
