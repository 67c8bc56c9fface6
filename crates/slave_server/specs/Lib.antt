pub use Rattle.slave_node.specs.of_al_state as of_al_state
pub use Rattle.segment_plan.specs.of_block_pool as of_block_pool
pub use Rattle.slave_parts.specs.of_coe_server as of_coe_server
pub use Rattle.segment_plan.specs.of_eoe as of_eoe
pub use Rattle.soe_server.specs.of_exchange_model as of_exchange_model
pub use Rattle.segment_plan.specs.of_file_store as of_file_store
pub use Rattle.soe_server.specs.of_foe_codec as of_foe_codec
pub use Rattle.soe_server.specs.of_idn_table as of_idn_table
pub use Rattle.slave_node.specs.of_link_mails as of_link_mails
pub use Rattle.slave_node.specs.of_mailbox_mail as of_mailbox_mail
pub use Rattle.segment_plan.specs.of_object_dictionary as of_object_dictionary
pub use Rattle.soe_server.specs.of_protocol_models as of_protocol_models
pub use Rattle.slave_parts.specs.of_segment_model as of_segment_model
pub use Rattle.segment_plan.specs as of_segment_plan
pub use Rattle.slave_parts.specs.of_slave_model as of_slave_model
pub use Rattle.slave_node.specs as of_slave_node
pub use Rattle.slave_parts.specs as of_slave_parts
pub use Rattle.slave_parts.specs.of_state_model as of_state_model
pub mod Serving
pub mod Seen
pub mod Spec
pub mod Counting
