pub use Rattle.master_node.specs.of_eoe_switch as of_eoe_switch
pub use Rattle.slave_server.specs.of_link_mails as of_link_mails
pub use Rattle.master_node.specs as of_master_node
pub use Rattle.slave_server.specs.of_segment_plan as of_segment_plan
pub use Rattle.master_node.specs.of_segment_ring as of_segment_ring
pub use Rattle.slave_server.specs.of_slave_node as of_slave_node
pub use Rattle.slave_server.specs as of_slave_server
pub mod Book
pub mod Ports
pub mod Heard
