pub use Rattle.life_runs.specs.of_datagrams as of_datagrams
pub use Rattle.life_runs.specs.of_exchange_model as of_exchange_model
pub use Rattle.life_runs.specs.of_frame_view as of_frame_view
pub use Rattle.life_runs.specs.of_life_model as of_life_model
pub use Rattle.life_runs.specs as of_life_runs
pub use Rattle.life_runs.specs.of_mailbox_mail as of_mailbox_mail
pub use Rattle.life_runs.specs.of_master_duty as of_master_duty
pub use Rattle.life_runs.specs.of_master_hand as of_master_hand
pub use Rattle.life_runs.specs.of_master_side as of_master_side
pub use Rattle.life_runs.specs.of_master_tour as of_master_tour
pub use Rattle.life_runs.specs.of_segment_model as of_segment_model
pub use Rattle.life_runs.specs.of_segment_plan as of_segment_plan
pub use Rattle.life_runs.specs.of_segment_ring as of_segment_ring
pub use Rattle.life_runs.specs.of_state_model as of_state_model
pub mod Answers
pub mod Begins
pub mod Brings
pub mod Clocks
pub mod Fates
pub mod Goes
pub mod Led
pub mod Losses
pub mod Orders
pub mod Runs
pub mod States
pub mod Toured
pub mod Tours
pub mod Waits
pub mod ScriptAnswers
pub mod Begun
pub mod Came
pub mod Slaves
pub mod Steps
