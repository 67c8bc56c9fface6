pub use Rattle.master_hand.specs.of_eoe as of_eoe
pub use Rattle.master_hand.specs.of_exchange_model as of_exchange_model
pub use Rattle.few_replies.specs as of_few_replies
pub use Rattle.few_replies.specs.of_life_model as of_life_model
pub use Rattle.few_replies.specs.of_link_mails as of_link_mails
pub use Rattle.master_hand.specs as of_master_hand
pub use Rattle.master_hand.specs.of_protocol_models as of_protocol_models
pub use Rattle.master_hand.specs.of_segment_model as of_segment_model
pub use Rattle.master_hand.specs.of_segment_plan as of_segment_plan
pub use Rattle.master_hand.specs.of_serving_model as of_serving_model
pub use Rattle.whole_ring.specs.of_slave_lives as of_slave_lives
pub use Rattle.few_replies.specs.of_slave_model as of_slave_model
pub use Rattle.slave_server.specs.of_slave_node as of_slave_node
pub use Rattle.slave_server.specs as of_slave_server
pub use Rattle.master_hand.specs.of_state_model as of_state_model
pub use Rattle.whole_ring.specs as of_whole_ring
pub mod Begun
pub mod Epochs
pub mod Foreseen
pub mod Seen
pub mod Served
pub mod Spoken
pub mod Worked
pub mod Asked
pub mod Split
