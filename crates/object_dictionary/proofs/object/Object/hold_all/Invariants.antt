use Rattle.std.proofs.Common.{◌≡◌, ◌++◌, length, take, drop}
use Rattle.object_dictionary.specs.Whole.{sizes, with_values}
use Rattle.object_dictionary.proofs.object.Object.hold_all.Given as goal

abbrev pub invariant-loop-at : goal.invariant-loop-at
invariant-loop-at l =
    (l.self.code ≡ l.initial.self.code) × (l.self.name ≡ l.initial.self.name) × (length l.self.entries ≡ length l.initial.self.entries) × (length l.rest ≡ sizes (drop l.at l.initial.self.entries))
    × (drop l.at l.self.entries ≡ drop l.at l.initial.self.entries)
    × (with_values l.initial.self.entries l.bytes ≡ take l.at l.self.entries ++ with_values (drop l.at l.self.entries) l.rest)
