pub use Rattle.idle_slaves.proofs as of_idle_slaves
pub use Rattle.idle_slaves.proofs.of_master_tour as of_master_tour
pub use Rattle.idle_slaves.proofs.of_plan_ring as of_plan_ring
pub use Rattle.idle_slaves.proofs.of_run_frames as of_run_frames
pub use Rattle.served_rings.proofs.of_served_places as of_served_places
pub use Rattle.served_rings.proofs as of_served_rings
pub mod Alone
mod Answered
mod Clocks
pub mod Comes
mod Counted
mod Dues
pub mod Fits
pub mod Heard
pub mod Hears
mod Known
pub mod Last
pub mod Led
pub mod Left
pub mod Links
mod Lives
mod Meets
pub mod Never
mod Ready
pub mod Returned
pub mod Rows
pub mod Said
mod Seats
pub mod Seen
pub mod SeenRows
pub mod SeenSpent
pub mod SeenStands
pub mod SeenTold
pub mod Sending
pub mod Served
pub mod ServedSaid
pub mod ServedTold
pub mod Speaks
mod Spent
pub mod Stands
mod Stations
mod Stays
mod Tells
mod Ties
pub mod Told
pub mod Turns
mod Unread
mod Walk
pub mod WholeHears
mod Choices
mod Numbers
mod OfCoe
mod OfEoe
mod OfFoe
mod OfSoe
mod CountedRows
mod Steps
