pub use Rattle.coe_client.specs as of_coe_client
pub use Rattle.gateway_core.specs.of_ec_outside as of_ec_outside
pub use Rattle.gateway_core.specs as of_gateway_core
pub use Rattle.link_model.specs as of_link_model
pub use Rattle.coe_client.specs.of_object_dictionary as of_object_dictionary
pub use Rattle.segment_plan.specs as of_segment_plan
pub mod Rule
pub mod Told
pub mod Client
pub mod Talk
pub mod Ended
