pub use Rattle.ecmbx_words.proofs as of_ecmbx_words
mod Causes
mod Words
