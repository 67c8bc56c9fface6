pub use Rattle.served_places.specs.of_datagrams as of_datagrams
pub use Rattle.packets_heard.specs.of_eoe_switch as of_eoe_switch
pub use Rattle.served_places.specs.of_exchange_model as of_exchange_model
pub use Rattle.plan_ring.specs.of_frame_view as of_frame_view
pub use Rattle.served_places.specs.of_life_model as of_life_model
pub use Rattle.served_places.specs.of_life_runs as of_life_runs
pub use Rattle.served_places.specs.of_link_mails as of_link_mails
pub use Rattle.served_places.specs.of_master_duty as of_master_duty
pub use Rattle.served_places.specs.of_master_hand as of_master_hand
pub use Rattle.packets_heard.specs.of_master_node as of_master_node
pub use Rattle.served_places.specs.of_master_side as of_master_side
pub use Rattle.served_places.specs.of_master_tour as of_master_tour
pub use Rattle.packets_heard.specs as of_packets_heard
pub use Rattle.run_notes.specs.of_run_book as of_run_book
pub use Rattle.run_notes.specs as of_run_notes
pub use Rattle.served_places.specs.of_segment_model as of_segment_model
pub use Rattle.packets_heard.specs.of_segment_plan as of_segment_plan
pub use Rattle.served_places.specs.of_segment_ring as of_segment_ring
pub use Rattle.served_places.specs as of_served_places
pub use Rattle.packets_heard.specs.of_slave_node as of_slave_node
pub use Rattle.packets_heard.specs.of_slave_server as of_slave_server
pub use Rattle.served_places.specs.of_state_model as of_state_model
pub mod Replay
pub mod Led
pub mod Session
pub mod Ran
pub use Rattle.run_notes.specs.of_run_book.Heard as AcceptedMails
pub mod Forwarded
pub mod Mails
pub mod Recalling
pub mod Served
pub mod ServedLed
pub mod Written
pub mod Telling
