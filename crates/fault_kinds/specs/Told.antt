-- What is told of a value that is wrong.
use Rattle.std.specs.Prelude.{ℕ, ◌+◌, ◌==◌, List, [], ◌++◌, codes, decimal, Option, Some, None, if◌then◌else◌}
use Rattle.toml.specs.Data.{Data, at}
use Rattle.fault_texts.specs.Values.{value_text, found_text}
use Rattle.fault_kinds.specs.declared.told.Found.{Found}
use Rattle.fault_kinds.specs.declared.told.Found.TheVariants as founds

-- an item that may be there
abbrev pub item_text : Option Data → List ℕ
item_text None = []
item_text (Some d) = value_text d

-- so many octets
unfoldable pub octets_text : ℕ → List ℕ
octets_text count = if count == 1 then codes "1 octet" else decimal count ++ codes " octets"

-- a pair of a list with its number, counted from 1
unfoldable pub pair_text : ℕ → Data → List ℕ
pair_text number d = item_text (at number d) ++ (codes ", pair " ++ decimal (number + 1))

-- WHAT IS TOLD of the value of a key: the value, an item of its list, a pair with its number, or how many octets it is
abbrev pub told_text : Found → List ℕ → Data → List ℕ
told_text founds.Value key d = found_text key d
told_text (founds.Item number) key d = item_text (at number d)
told_text (founds.Pair number) key d = pair_text number d
told_text (founds.Octets count) key d = octets_text count
