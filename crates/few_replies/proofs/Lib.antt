pub use Rattle.slave_parts.proofs.of_exchange_model as of_exchange_model
pub use Rattle.slave_parts.proofs.of_life_model as of_life_model
pub use Rattle.slave_parts.proofs.of_link_model as of_link_model
pub use Rattle.slave_parts.proofs.of_protocol_models as of_protocol_models
pub use Rattle.slave_parts.proofs.of_segment_model as of_segment_model
pub use Rattle.slave_parts.proofs.of_serving_model as of_serving_model
pub use Rattle.slave_parts.proofs.of_state_model as of_state_model
pub mod Alone
mod Both
pub mod Calms
pub mod Few
pub mod Filed
mod Layers
pub mod OfCoe
pub mod OfEoe
pub mod OfFoe
pub mod OfRows
pub mod OfShape
mod OfSlave
pub mod OfSoe
pub mod OfTasks
mod Seating
pub mod Shaped
pub mod Sizes
pub mod Slave
pub mod Stays
mod Sums
pub mod Thirds
pub mod Whole
pub mod Awaits
pub mod Clears
pub mod Clients
pub mod Drains
pub mod Founds
pub mod Heard
pub mod Hears
pub mod Naturals
pub mod PassingSteps
pub mod Passings
pub mod Picks
pub mod Rows
pub mod Silences
pub mod Steps
pub mod Turns
pub mod Ways
pub mod Wholes
pub mod Withdrawn
