pub use Rattle.datagrams.proofs as of_datagrams
