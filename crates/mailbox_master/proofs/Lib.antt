pub use Rattle.link_mails.proofs.of_link_model as of_link_model
pub mod Agreement
