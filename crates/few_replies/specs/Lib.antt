pub use Rattle.slave_parts.specs.of_coe_codec as of_coe_codec
pub use Rattle.slave_parts.specs.of_exchange_model as of_exchange_model
pub use Rattle.slave_parts.specs.of_life_model as of_life_model
pub use Rattle.slave_parts.specs.of_link_mails as of_link_mails
pub use Rattle.slave_parts.specs.of_link_model as of_link_model
pub use Rattle.slave_parts.specs.of_segment_model as of_segment_model
pub use Rattle.slave_parts.specs.of_serving_model as of_serving_model
pub use Rattle.slave_parts.specs.of_slave_model as of_slave_model
pub use Rattle.slave_parts.specs.of_soe_codec as of_soe_codec
pub use Rattle.slave_parts.specs.of_state_model as of_state_model
pub mod Calm
pub mod Counts
pub mod Most
pub mod Packets
pub mod RowCounts
pub mod Services
pub mod Shapes
pub mod Slave
pub mod Clearing
pub mod Client
pub mod Drained
pub mod Erased
pub mod Frames
pub mod Heard
pub mod Led
pub mod Newest
pub mod Silent
pub mod Steps
