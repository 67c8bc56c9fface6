-- Objects by complete access.
use Rattle.std.specs.Prelude.{ℕ, ◌-◌, ◌==◌, ◌&&◌, ◌||◌, not, nat_lt, nat_le, Bool, false, List, [], ◌∷◌, ◌++◌, length, take, drop, codes, Option, Some, None, if◌then◌else◌}
use Rattle.std.specs.Fmt.{decimal}
use Rattle.ec_fields.specs.Fields.{number_at}
use Rattle.object_dictionary.specs.declared.entry.EntrySpec.{EntrySpec}
use Rattle.segment_plan.specs.declared.slave.SlaveSpec.{SlaveSpec}
use Rattle.segment_plan.specs.declared.slave.ObjectSpec.{ObjectSpec}
use Rattle.value_texts.specs.Texts.{octets_text}
use Rattle.value_texts.specs.Types.{read_as, plain}
use Rattle.value_texts.specs.Names.{object_in}

-- so many octets are those of entries that all have fixed sizes
abbrev pub fits : List EntrySpec → ℕ → Bool
fits [] size = size == 0
fits (e ∷ es) size = if not (e.least == e.most) || nat_lt size e.most then false else fits es (size - e.most)

-- a value without its type, with a comma ahead
unfoldable pub item : ℕ → List ℕ → List ℕ
item kind octets = codes ", " ++ plain (read_as kind octets) octets

-- the values of entries that stand one behind the other
abbrev pub values_text : List EntrySpec → List ℕ → List ℕ
values_text [] octets = []
values_text (e ∷ es) octets = item e.kind (take e.most octets) ++ values_text es (drop e.most octets)

-- the number of entries, and their values
unfoldable pub counted : List EntrySpec → List ℕ → List ℕ
counted entries octets = codes "count " ++ (decimal (number_at 2 octets 0) ++ values_text entries (drop 2 octets))

-- the values alone
unfoldable pub items_text : List EntrySpec → List ℕ → List ℕ
items_text entries octets = drop 2 (values_text entries octets)

-- an array or record from subindex 0 or 1 on, where all its entries have fixed sizes and the octets are as many
unfoldable pub whole_in : ObjectSpec → ℕ → List ℕ → List ℕ
whole_in o from octets =
    if o.code == 7 then octets_text octets
    else if from == 0 && (nat_le 2 (length octets) && fits o.entries (length octets - 2)) then counted o.entries octets
    else if from == 1 && fits o.entries (length octets) then items_text o.entries octets
    else octets_text octets

-- the same of an object that may be there
abbrev pub whole_of : Option ObjectSpec → ℕ → List ℕ → List ℕ
whole_of (Some o) from octets = whole_in o from octets
whole_of None from octets = octets_text octets

-- THE VALUES OF AN OBJECT by complete access
unfoldable pub whole_text : SlaveSpec → ℕ → ℕ → List ℕ → List ℕ
whole_text slave index from octets = whole_of (object_in slave index) from octets
