pub use Rattle.run_work.specs.of_ec_fields as of_ec_fields
pub use Rattle.run_work.specs.of_eoe as of_eoe
pub use Rattle.run_work.specs.of_few_replies as of_few_replies
pub use Rattle.run_work.specs.of_life_counts as of_life_counts
pub use Rattle.run_work.specs.of_mailbox_mail as of_mailbox_mail
pub use Rattle.run_work.specs.of_mailbox_slave as of_mailbox_slave
pub use Rattle.run_work.specs.of_master_duty as of_master_duty
pub use Rattle.run_work.specs.of_master_hand as of_master_hand
pub use Rattle.run_work.specs.of_master_side as of_master_side
pub use Rattle.served_places.specs.of_master_tour as of_master_tour
pub use Rattle.run_work.specs.of_plan_ring as of_plan_ring
pub use Rattle.served_places.specs.of_run_frames as of_run_frames
pub use Rattle.run_work.specs as of_run_work
pub use Rattle.run_work.specs.of_scenario as of_scenario
pub use Rattle.run_work.specs.of_scenario_services as of_scenario_services
pub use Rattle.served_places.specs as of_served_places
pub use Rattle.served_places.specs.of_serving_model as of_serving_model
pub use Rattle.run_work.specs.of_slave_lives as of_slave_lives
pub use Rattle.run_work.specs.of_slave_model as of_slave_model
pub use Rattle.run_work.specs.of_slave_parts as of_slave_parts
pub use Rattle.run_work.specs.of_whole_ring as of_whole_ring
pub mod Clearing
pub mod Counters
pub mod Given
pub mod Led
pub mod LedRings
pub mod Lives
pub mod Rests
pub mod Rings
pub mod SeenLed
pub mod Served
pub mod Serves
pub mod Servings
pub mod Speakers
pub mod Stood
pub mod StoodLives
pub mod Told
pub mod ToldEras
