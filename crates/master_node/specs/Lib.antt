pub use Rattle.life_runs.specs.of_al_state as of_al_state
pub use Rattle.life_runs.specs.of_coe_client as of_coe_client
pub use Rattle.life_runs.specs.of_datagrams as of_datagrams
pub use Rattle.eoe_switch.specs.of_eoe as of_eoe
pub use Rattle.eoe_switch.specs as of_eoe_switch
pub use Rattle.life_runs.specs.of_frame_view as of_frame_view
pub use Rattle.life_runs.specs.of_life_model as of_life_model
pub use Rattle.life_runs.specs as of_life_runs
pub use Rattle.life_runs.specs.of_link_model as of_link_model
pub use Rattle.life_runs.specs.of_master_duty as of_master_duty
pub use Rattle.life_runs.specs.of_master_hand as of_master_hand
pub use Rattle.life_runs.specs.of_master_side as of_master_side
pub use Rattle.life_runs.specs.of_master_tour as of_master_tour
pub use Rattle.life_runs.specs.of_segment_ring as of_segment_ring
pub mod Listed
pub mod Numbered
pub mod Lives
pub mod Ported
pub mod Scripts
pub mod Shows
pub mod Wants
pub mod Told
pub mod Changed
pub mod Brought
pub mod Standing
pub mod Kept
pub mod Coming
pub mod First
pub mod Filling
pub mod Joined
pub mod Toured
pub mod Asks
pub mod Appends
pub mod Forwards
pub mod Rooms
pub mod Ports
pub mod Happened
pub mod Downs
pub mod Made
pub mod Begins
pub mod Origins
pub mod Listing
pub mod Answered
pub mod Besides
pub mod Gateways
pub mod Lifetold
pub mod Arrivals
pub mod Eager
pub mod Resting
pub mod Named
pub mod Inhand
pub mod ServedEager
pub mod Serving
pub mod Touring
pub mod Events
pub mod Passes
pub mod Handed
pub mod Dropped
pub mod Entering
pub mod Starts
pub mod Recalled
pub mod Backtold
