use Rattle.std.proofs.Common.{◌≡◌, length, drop}
use Rattle.object_dictionary.specs.Whole.{sizes, values_refusal}
use Rattle.object_dictionary.proofs.object.Object.refuses_values.Given as goal

abbrev pub invariant-loop-entry : goal.invariant-loop-entry
invariant-loop-entry l = (length l.rest ≡ sizes (drop l.entry-index l.self.entries)) × (values_refusal l.self.entries l.bytes ≡ values_refusal (drop l.entry-index l.self.entries) l.rest)
