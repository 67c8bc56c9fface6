pub use Rattle.few_replies.proofs.of_exchange_model as of_exchange_model
pub use Rattle.few_replies.proofs as of_few_replies
pub use Rattle.few_replies.proofs.of_life_model as of_life_model
pub use Rattle.run_frames.proofs.of_life_runs as of_life_runs
pub use Rattle.few_replies.proofs.of_link_model as of_link_model
pub use Rattle.few_replies.proofs.of_protocol_models as of_protocol_models
pub use Rattle.run_frames.proofs as of_run_frames
pub use Rattle.few_replies.proofs.of_segment_model as of_segment_model
pub use Rattle.few_replies.proofs.of_state_model as of_state_model
pub mod All
pub mod Behind
pub mod Each
pub mod Hears
pub mod Held
pub mod News
pub mod Next
pub mod Places
pub mod Runs
pub mod Slaves
pub mod Stay
mod Toured
pub mod Unread
pub mod Waits
