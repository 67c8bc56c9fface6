pub use Rattle.master_node.specs.of_coe_client as of_coe_client
pub use Rattle.slave_server.specs.of_coe_server as of_coe_server
pub use Rattle.master_node.specs.of_datagrams as of_datagrams
pub use Rattle.master_node.specs.of_eoe as of_eoe
pub use Rattle.master_node.specs.of_eoe_switch as of_eoe_switch
pub use Rattle.slave_server.specs.of_exchange_model as of_exchange_model
pub use Rattle.master_node.specs.of_frame_view as of_frame_view
pub use Rattle.slave_server.specs.of_idn_table as of_idn_table
pub use Rattle.master_node.specs.of_life_model as of_life_model
pub use Rattle.master_node.specs.of_life_runs as of_life_runs
pub use Rattle.slave_server.specs.of_link_mails as of_link_mails
pub use Rattle.master_node.specs.of_link_model as of_link_model
pub use Rattle.master_node.specs.of_master_duty as of_master_duty
pub use Rattle.master_node.specs.of_master_hand as of_master_hand
pub use Rattle.master_node.specs as of_master_node
pub use Rattle.master_node.specs.of_master_side as of_master_side
pub use Rattle.master_node.specs.of_master_tour as of_master_tour
pub use Rattle.slave_server.specs.of_object_dictionary as of_object_dictionary
pub use Rattle.slave_server.specs.of_protocol_models as of_protocol_models
pub use Rattle.slave_server.specs.of_segment_model as of_segment_model
pub use Rattle.slave_server.specs.of_segment_plan as of_segment_plan
pub use Rattle.master_node.specs.of_segment_ring as of_segment_ring
pub use Rattle.slave_server.specs.of_slave_node as of_slave_node
pub use Rattle.slave_server.specs as of_slave_server
pub use Rattle.slave_server.specs.of_state_model as of_state_model
pub mod Heard
pub mod Listed
pub mod Numbers
pub mod Over
pub mod Recalled
pub mod ServedRecalled
pub mod Servings
pub mod Toured
pub mod Served
pub mod Visits
pub mod Packets
pub mod Events
pub mod Turns
