-- A value with its type.
use Rattle.std.specs.Prelude.{ℕ, List, ◌++◌, Option, Some, None}
use Rattle.value_texts.specs.Texts.{octets_text}
use Rattle.value_texts.specs.Types.{read_as, plain, note}

-- a value of a data type, with the type where it doesn't show it
unfoldable pub typed : ℕ → List ℕ → List ℕ
typed kind octets = plain (read_as kind octets) octets ++ note (read_as kind octets) kind

-- A VALUE by its data type, or where none is known its octets
unfoldable pub value_text : Option ℕ → List ℕ → List ℕ
value_text (Some kind) octets = typed kind octets
value_text None octets = octets_text octets
