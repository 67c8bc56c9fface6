pub use Rattle.coe_codec.proofs as of_coe_codec
pub use Rattle.eoe.proofs as of_eoe
pub use Rattle.exchange_model.proofs as of_exchange_model
pub mod Basics
pub mod CoeCarries
pub mod DownloadLaw
pub mod UploadLaw
pub mod InformationLaw
pub mod CoeSpeaks
pub mod CoeClosing
pub mod CoeLaw
pub mod CoeWorkedRows
pub mod Spelling
pub mod CoeSpelled
pub mod Progress
pub mod CoeLasts
pub mod Counts
pub mod FoeCarries
mod WriteLaw
mod ReadLaw
pub mod FoeSpeaks
mod FoeClosing
pub mod FoeLaw
pub mod FoeSpelled
mod FoeWorkedRows
pub mod ReadCounts
pub mod FoeLasts
pub mod SoeCarries
pub mod SoeLaw
pub mod SoeSpelled
pub mod SoeWorkedRows
pub mod SoeLasts
pub mod Packets
pub mod EoeLaw
pub mod EoeSpelled
pub mod EoeWorkedRows
