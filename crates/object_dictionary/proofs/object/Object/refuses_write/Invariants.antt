use Rattle.std.proofs.Common.{◌≡◌, drop}
use Rattle.object_dictionary.specs.Entries.{write_refusal}
use Rattle.object_dictionary.specs.Whole.{first_refusal}
use Rattle.object_dictionary.proofs.object.Object.refuses_write.Given as goal

abbrev pub invariant-loop-entry : goal.invariant-loop-entry
invariant-loop-entry l = first_refusal (write_refusal l.al) l.self.entries ≡ first_refusal (write_refusal l.al) (drop l.entry-index l.self.entries)
