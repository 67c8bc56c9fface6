use Rattle.std.specs.Prelude.{ℕ, List}
use Rattle.coe_values.specs.declared.values.Slot.{Slot}
use Rattle.coe_values.specs.Kept.{Kept}

-- the octets of one of the two values
abbrev pub octets_in : Slot → Kept → List ℕ
octets_in Slot.Value kept = kept.value
octets_in Slot.Told kept = kept.told

-- these octets in one of them; the other stays
abbrev pub put : Slot → List ℕ → Kept → Kept
put Slot.Value octets kept = record kept { value = octets }
put Slot.Told octets kept = record kept { told = octets }
