pub use Rattle.protocol_models.proofs.of_exchange_model as of_exchange_model
pub use Rattle.life_model.proofs as of_life_model
pub use Rattle.life_model.proofs.of_link_model as of_link_model
pub use Rattle.protocol_models.proofs as of_protocol_models
pub use Rattle.life_model.proofs.of_segment_model as of_segment_model
pub mod Stations
pub mod CoeLast
pub mod Sides
pub mod Joint
pub mod Own
pub mod Refused
pub mod ProductLaw
pub mod LastLaw
pub mod EoeLast
pub mod StatedLaw
pub mod Answers
pub mod Dialogues
pub mod Eras
pub mod Forms
pub mod HearsDialogues
pub mod HearsForms
pub mod HearsProtocols
pub mod HearsSlaves
pub mod HearsStates
pub mod Laws
pub mod Protocols
pub mod Ready
pub mod Seats
pub mod Slaves
pub mod States
pub mod Unsent
mod WorkedRows
