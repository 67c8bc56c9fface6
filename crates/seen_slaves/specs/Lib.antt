pub use Rattle.served_rings.specs.of_few_replies as of_few_replies
pub use Rattle.idle_slaves.specs.of_frame_view as of_frame_view
pub use Rattle.idle_slaves.specs as of_idle_slaves
pub use Rattle.served_rings.specs.of_master_duty as of_master_duty
pub use Rattle.served_rings.specs.of_master_hand as of_master_hand
pub use Rattle.served_rings.specs.of_master_side as of_master_side
pub use Rattle.idle_slaves.specs.of_plan_ring as of_plan_ring
pub use Rattle.idle_slaves.specs.of_run_frames as of_run_frames
pub use Rattle.served_rings.specs.of_served_places as of_served_places
pub use Rattle.served_rings.specs as of_served_rings
pub use Rattle.idle_slaves.specs.of_slave_lives as of_slave_lives
pub use Rattle.served_rings.specs.of_whole_ring as of_whole_ring
pub mod Brings
pub mod Dues
pub mod Eager
pub mod Fits
pub mod Last
pub mod Rows
pub mod Spent
pub mod Steps
pub mod Told
pub mod Counted
