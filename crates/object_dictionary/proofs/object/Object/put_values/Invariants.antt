use Rattle.std.proofs.Common.{◌≡◌, ◌+◌, ◌≤◌, ◌++◌, length, drop}
use Rattle.object_dictionary.specs.Whole.{sizes, values_in}
use Rattle.object_dictionary.proofs.object.Object.put_values.Given as goal

abbrev pub invariant-loop-entry : goal.invariant-loop-entry
invariant-loop-entry l =
    (l.into.octets ++ values_in (drop l.entry-index l.self.entries) ≡ l.initial.into.octets ++ values_in l.self.entries)
    × (length l.into.octets + sizes (drop l.entry-index l.self.entries) ≤ l.into.limit) × (l.into.limit ≡ l.initial.into.limit)
