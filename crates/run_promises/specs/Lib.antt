pub use Rattle.packets_heard.specs.of_datagrams as of_datagrams
pub use Rattle.packets_heard.specs.of_eoe_switch as of_eoe_switch
pub use Rattle.packets_heard.specs.of_exchange_model as of_exchange_model
pub use Rattle.packets_heard.specs.of_life_model as of_life_model
pub use Rattle.packets_heard.specs.of_life_runs as of_life_runs
pub use Rattle.packets_heard.specs.of_link_mails as of_link_mails
pub use Rattle.packets_heard.specs.of_link_model as of_link_model
pub use Rattle.served_rings.specs.of_mailbox_slave as of_mailbox_slave
pub use Rattle.packets_heard.specs.of_master_node as of_master_node
pub use Rattle.packets_heard.specs.of_master_tour as of_master_tour
pub use Rattle.packets_heard.specs as of_packets_heard
pub use Rattle.packets_heard.specs.of_protocol_models as of_protocol_models
pub use Rattle.served_rings.specs.of_run_work as of_run_work
pub use Rattle.served_rings.specs.of_scenario as of_scenario
pub use Rattle.packets_heard.specs.of_segment_model as of_segment_model
pub use Rattle.packets_heard.specs.of_segment_plan as of_segment_plan
pub use Rattle.packets_heard.specs.of_segment_ring as of_segment_ring
pub use Rattle.packets_heard.specs.of_slave_node as of_slave_node
pub use Rattle.packets_heard.specs.of_slave_server as of_slave_server
pub use Rattle.packets_heard.specs.of_state_model as of_state_model
pub use Rattle.served_rings.specs.of_plan_ring.Plan
pub use Rattle.served_rings.specs.of_plan_ring.Round
pub mod Slaves
pub mod Books
pub mod Rests
pub mod Promise
pub mod Rest
pub mod Laws
pub mod Quiet
pub mod Sends
pub mod Sent
pub mod Whole
