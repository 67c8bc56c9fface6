pub use Rattle.plan_ring.specs.of_datagrams as of_datagrams
pub use Rattle.plan_ring.specs.of_exchange_model as of_exchange_model
pub use Rattle.plan_ring.specs.of_frame_view as of_frame_view
pub use Rattle.plan_ring.specs.of_life_model as of_life_model
pub use Rattle.plan_ring.specs.of_life_runs as of_life_runs
pub use Rattle.plan_ring.specs.of_link_mails as of_link_mails
pub use Rattle.plan_ring.specs.of_link_model as of_link_model
pub use Rattle.plan_ring.specs as of_plan_ring
pub use Rattle.plan_ring.specs.of_protocol_models as of_protocol_models
pub use Rattle.plan_ring.specs.of_run_frames as of_run_frames
pub use Rattle.plan_ring.specs.of_segment_model as of_segment_model
pub use Rattle.plan_ring.specs.of_segment_plan as of_segment_plan
pub use Rattle.plan_ring.specs.of_segment_ring as of_segment_ring
pub use Rattle.plan_ring.specs.of_slave_lives as of_slave_lives
pub use Rattle.plan_ring.specs.of_slave_model as of_slave_model
pub use Rattle.plan_ring.specs.of_slave_node as of_slave_node
pub use Rattle.plan_ring.specs.of_slave_parts as of_slave_parts
pub use Rattle.plan_ring.specs.of_slave_server as of_slave_server
pub use Rattle.plan_ring.specs.of_state_model as of_state_model
pub mod Eager
pub mod EagerFrames
pub mod Entered
pub mod Frames
pub mod Going
pub mod Held
pub mod Links
pub mod Phases
pub mod Rings
pub mod Rows
pub mod Runs
pub mod Standing
pub mod Steps
pub mod Visited
pub mod WaitEager
pub mod Waiting
