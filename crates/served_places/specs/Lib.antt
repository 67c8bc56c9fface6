pub use Rattle.few_replies.specs.of_coe_codec as of_coe_codec
pub use Rattle.run_frames.specs.of_datagrams as of_datagrams
pub use Rattle.few_replies.specs.of_exchange_model as of_exchange_model
pub use Rattle.few_replies.specs.of_life_model as of_life_model
pub use Rattle.run_frames.specs.of_life_runs as of_life_runs
pub use Rattle.few_replies.specs.of_link_mails as of_link_mails
pub use Rattle.few_replies.specs.of_link_model as of_link_model
pub use Rattle.run_frames.specs.of_master_duty as of_master_duty
pub use Rattle.run_frames.specs.of_master_hand as of_master_hand
pub use Rattle.run_frames.specs.of_master_side as of_master_side
pub use Rattle.run_frames.specs.of_master_tour as of_master_tour
pub use Rattle.run_frames.specs as of_run_frames
pub use Rattle.few_replies.specs.of_segment_model as of_segment_model
pub use Rattle.run_frames.specs.of_segment_ring as of_segment_ring
pub use Rattle.few_replies.specs.of_serving_model as of_serving_model
pub use Rattle.few_replies.specs.of_soe_codec as of_soe_codec
pub use Rattle.few_replies.specs.of_state_model as of_state_model
pub mod Answered
pub mod Places
pub mod Rows
pub mod Toured
