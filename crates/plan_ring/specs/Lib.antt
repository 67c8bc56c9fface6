pub use Rattle.run_frames.specs.of_datagrams as of_datagrams
pub use Rattle.slave_server.specs.of_exchange_model as of_exchange_model
pub use Rattle.whole_ring.specs.of_frame_view as of_frame_view
pub use Rattle.whole_ring.specs.of_frames_seen as of_frames_seen
pub use Rattle.whole_ring.specs.of_life_model as of_life_model
pub use Rattle.run_frames.specs.of_life_runs as of_life_runs
pub use Rattle.slave_server.specs.of_link_mails as of_link_mails
pub use Rattle.whole_ring.specs.of_link_model as of_link_model
pub use Rattle.slave_server.specs.of_mailbox_mail as of_mailbox_mail
pub use Rattle.whole_ring.specs.of_mailbox_slave as of_mailbox_slave
pub use Rattle.run_frames.specs.of_master_duty as of_master_duty
pub use Rattle.run_frames.specs.of_master_hand as of_master_hand
pub use Rattle.run_frames.specs.of_master_side as of_master_side
pub use Rattle.slave_server.specs.of_protocol_models as of_protocol_models
pub use Rattle.run_frames.specs as of_run_frames
pub use Rattle.scenario.specs as of_scenario
pub use Rattle.scenario.specs.of_scenario_services as of_scenario_services
pub use Rattle.slave_server.specs.of_segment_model as of_segment_model
pub use Rattle.slave_server.specs.of_segment_plan as of_segment_plan
pub use Rattle.run_frames.specs.of_segment_ring as of_segment_ring
pub use Rattle.whole_ring.specs.of_slave_lives as of_slave_lives
pub use Rattle.slave_server.specs.of_slave_model as of_slave_model
pub use Rattle.slave_server.specs.of_slave_node as of_slave_node
pub use Rattle.slave_server.specs.of_slave_parts as of_slave_parts
pub use Rattle.slave_server.specs as of_slave_server
pub use Rattle.slave_server.specs.of_state_model as of_state_model
pub mod Alike
pub mod Asked
pub mod Brings
pub mod Clocks
pub mod Dues
pub mod Epochs
pub mod First
pub mod Hands
pub mod KeptFirst
pub mod Lives
pub mod Master
pub mod Met
pub mod Named
pub mod Plan
pub mod PlanMet
pub mod PlanRooms
pub mod Real
pub mod Rooms
pub mod Round
pub mod Rows
pub mod SlaveAsked
pub mod Stands
