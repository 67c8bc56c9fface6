pub use Rattle.al_state.proofs.of_datagrams as of_datagrams
pub use Rattle.life_model.proofs as of_life_model
pub use Rattle.link_mails.proofs.of_mailbox_mail as of_mailbox_mail
pub use Rattle.life_model.proofs.of_state_model as of_state_model
pub mod Octets
pub mod Frames
pub mod Twice
