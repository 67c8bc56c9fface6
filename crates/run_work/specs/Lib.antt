pub use Rattle.gateway_core.specs.of_ec_fields as of_ec_fields
pub use Rattle.life_counts.specs.of_eoe as of_eoe
pub use Rattle.life_counts.specs.of_few_replies as of_few_replies
pub use Rattle.plan_ring.specs.of_frame_view as of_frame_view
pub use Rattle.plan_ring.specs.of_frames_seen as of_frames_seen
pub use Rattle.life_counts.specs as of_life_counts
pub use Rattle.gateway_core.specs.of_mailbox_mail as of_mailbox_mail
pub use Rattle.plan_ring.specs.of_mailbox_slave as of_mailbox_slave
pub use Rattle.plan_ring.specs.of_master_duty as of_master_duty
pub use Rattle.life_counts.specs.of_master_hand as of_master_hand
pub use Rattle.plan_ring.specs.of_master_side as of_master_side
pub use Rattle.plan_ring.specs as of_plan_ring
pub use Rattle.life_counts.specs.of_protocol_models as of_protocol_models
pub use Rattle.plan_ring.specs.of_scenario as of_scenario
pub use Rattle.plan_ring.specs.of_scenario_services as of_scenario_services
pub use Rattle.life_counts.specs.of_segment_plan as of_segment_plan
pub use Rattle.life_counts.specs.of_slave_lives as of_slave_lives
pub use Rattle.life_counts.specs.of_slave_model as of_slave_model
pub use Rattle.life_counts.specs.of_slave_node as of_slave_node
pub use Rattle.plan_ring.specs.of_slave_parts as of_slave_parts
pub use Rattle.life_counts.specs.of_slave_server as of_slave_server
pub use Rattle.life_counts.specs.of_whole_ring as of_whole_ring
pub mod Bounds
pub mod Fair
pub mod Flows
pub mod Gained
pub mod Lives
pub mod Packets
pub mod ServedGained
pub mod Sessions
pub mod Switched
pub mod Together
