-- What is sought in a text, and where its front comes to have it.
use Rattle.std.specs.Prelude.{◌≡◌, ℕ, ◌+◌, ◌<◌, Bool, true, false, not, List, length, take, slice_index, Option, Some, is_some, option_map}
use Rattle.toml_places.specs.declared.seeking.Sought.{Sought}
use Rattle.toml_places.specs.declared.seeking.Sought.TheVariants.{Value, Fault}
use Rattle.toml_places.specs.Cutting.{is_document}
use Rattle.toml_places.specs.Document.{document_in}
use Rattle.toml_places.specs.Path.{data_at}
use Rattle.toml_places.specs.declared.path.Step.{Step}

-- whether octets are a document that has a path; none where they are no document
abbrev pub has : List Step → List ℕ → Option Bool
has path octets = option_map (λ ms. is_some (data_at ms path)) (document_in octets)

-- whether the front of a text has what is sought
abbrev pub told : Sought → List ℕ → Option Bool
told (Value path) front = has path.now front
told Fault front = Some (not (is_document front))

-- from the front up to one place it isn't there, and up to the next it is
pub record Turns (text places : List ℕ) (sought : Sought) (i : ℕ) : Type 0 where
  pub before_last : i + 1 < length places
  pub before : told sought (take (slice_index places i) text) ≡ Some false
  pub behind : told sought (take (slice_index places (i + 1)) text) ≡ Some true
