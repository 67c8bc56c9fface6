pub use Rattle.master_tour.proofs.of_frame_view as of_frame_view
pub use Rattle.master_tour.proofs.of_life_model as of_life_model
pub use Rattle.master_hand.proofs as of_master_hand
pub use Rattle.master_tour.proofs.of_master_side as of_master_side
pub use Rattle.master_tour.proofs as of_master_tour
pub use Rattle.master_hand.proofs.of_state_model as of_state_model
pub mod First
pub mod Spans
pub mod Causes
pub mod Opened
pub mod Quiet
pub mod Rows
pub mod Tells
pub mod Telling
pub mod Came
pub mod ServedOpened
pub mod Lives
