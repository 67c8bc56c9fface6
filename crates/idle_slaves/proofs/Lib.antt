pub use Rattle.plan_ring.proofs.of_exchange_model as of_exchange_model
pub use Rattle.plan_ring.proofs.of_frame_view as of_frame_view
pub use Rattle.plan_ring.proofs.of_master_tour as of_master_tour
pub use Rattle.plan_ring.proofs as of_plan_ring
pub use Rattle.plan_ring.proofs.of_run_frames as of_run_frames
pub use Rattle.plan_ring.proofs.of_slave_model as of_slave_model
pub use Rattle.plan_ring.proofs.of_slave_parts as of_slave_parts
pub use Rattle.plan_ring.proofs.of_state_model as of_state_model
pub mod Begins
pub mod Behind
pub mod Choices
pub mod Choosing
pub mod Comes
pub mod Ends
mod Entering
pub mod Events
pub mod Facts
pub mod Fits
mod Framed
pub mod Frames
mod Fresh
pub mod Going
pub mod Goings
pub mod Held
pub mod Links
pub mod Lists
pub mod One
pub mod Opened
pub mod Phases
pub mod Ready
pub mod Rests
pub mod Returning
pub mod Rings
pub mod Rowless
pub mod Rows
pub mod Runs
pub mod Sent
pub mod Settled
pub mod Slaves
pub mod Spent
pub mod StatesSteps
pub mod Steps
pub mod Taken
mod Took
pub mod Visited
pub mod Visiting
mod WaitHeld
pub mod Waiting
pub mod Walk
pub mod Worked
