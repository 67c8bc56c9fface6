pub use Rattle.slave_parts.proofs.of_coe_server as of_coe_server
pub use Rattle.slave_parts.proofs.of_exchange_model as of_exchange_model
pub use Rattle.soe_server.proofs.of_idn_table as of_idn_table
pub use Rattle.slave_node.proofs.of_link_model as of_link_model
pub use Rattle.segment_plan.proofs.of_object_dictionary as of_object_dictionary
pub use Rattle.slave_parts.proofs.of_protocol_models as of_protocol_models
pub use Rattle.slave_parts.proofs.of_segment_model as of_segment_model
pub use Rattle.slave_parts.proofs.of_slave_model as of_slave_model
pub use Rattle.slave_parts.proofs as of_slave_parts
pub use Rattle.slave_parts.proofs.of_state_model as of_state_model
pub mod Takes
pub mod Next
pub mod SeenLaw
pub mod Objects
pub mod Files
pub mod Idns
