pub use Rattle.few_replies.proofs as of_few_replies
pub use Rattle.few_replies.proofs.of_serving_model as of_serving_model
pub mod Answered
pub mod Backs
pub mod Begins
pub mod Clients
pub mod Epoch
pub mod Eras
pub mod Frames
mod Lasts
pub mod Leads
pub mod Led
pub mod Marks
pub mod News
pub mod Opened
pub mod Overs
pub mod Rights
pub mod Seen
pub mod Sessions
pub mod Stated
pub mod Steps
mod Sums
pub mod TaggedWhole
pub mod Turns
pub mod Unopened
pub mod Ways
pub mod Whole
pub mod Worked
mod Entries
mod Filed
mod OfPlan
