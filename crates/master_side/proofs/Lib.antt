pub use Rattle.frame_view.proofs.of_datagrams as of_datagrams
pub use Rattle.frame_view.proofs as of_frame_view
pub use Rattle.frame_view.proofs.of_life_model as of_life_model
pub mod Begins
pub mod Backs
pub mod Grams
pub mod Agains
pub mod Passings
pub mod Tellings
pub mod Recalls
pub mod First
pub mod Kepts
pub mod Counts
