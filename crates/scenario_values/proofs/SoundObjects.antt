-- The entries of an object, as a dictionary wants them.
use Rattle.std.proofs.Common.{◌≡◌, ◌≤◌, true, List, [], ◌∷◌, length, All, refl, arith}
use Rattle.std.proofs.lemmas.List.Elements.{All-head, All-tail}
use Rattle.segment_plan.specs.of_object_dictionary.declared.entry.EntrySpec.{EntrySpec}
use Rattle.segment_plan.specs.of_object_dictionary.Whole.{sizes}
use Rattle.segment_plan.specs.of_object_dictionary.Sound.{are_entries, is_object}
use Rattle.segment_plan.specs.declared.slave.ObjectSpec.{ObjectSpec}
use Rattle.segment_plan.specs.Sound.{IsEntry, kept}

are_all : (es : List EntrySpec) → All IsEntry es → are_entries es ≡ true
are_all [] all = refl
are_all (e ∷ es) all = grind (arith, (All-head IsEntry e es all).entry, are_all es (All-tail IsEntry e es all))

-- an object of sound entries that are neither too many nor too long
pub object_sound : (o : ObjectSpec) → 1 ≤ length o.entries → length o.entries ≤ 254 → (o.code ≡ 7 → length o.entries ≤ 1) → sizes o.entries ≤ 16000 → length o.name ≤ 40 → All IsEntry o.entries → is_object (kept o) ≡ true
object_sound o some few one small name all = grind (arith, are_all o.entries all)
