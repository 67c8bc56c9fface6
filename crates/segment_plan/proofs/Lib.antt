pub use Rattle.object_dictionary.proofs as of_object_dictionary
