pub use Rattle.life_runs.proofs.of_frame_view as of_frame_view
pub use Rattle.life_runs.proofs as of_life_runs
pub use Rattle.life_runs.proofs.of_master_tour as of_master_tour
pub use Rattle.life_runs.proofs.of_state_model as of_state_model
pub mod Access
pub mod Answering
mod Back
mod Bringing
mod Clocking
mod Counting
mod Deciding
pub mod Fated
pub mod Leading
mod Losing
mod Lost
mod Meeting
mod Most
mod Reopening
mod Returning
mod Running
mod Same
pub mod Stating
pub mod Tallying
pub mod Toured
pub mod Touring
pub mod Visiting
mod Waiting
mod Walking
pub mod Within
mod Worked
pub mod Anew
pub mod Backs
pub mod Befores
pub mod Came
mod Firsts
pub mod Frames
pub mod Lists
pub mod Losses
pub mod Passes
pub mod Shared
pub mod Sides
pub mod Turns
