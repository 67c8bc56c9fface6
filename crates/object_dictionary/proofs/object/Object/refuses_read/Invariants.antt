use Rattle.std.proofs.Common.{◌≡◌, drop}
use Rattle.object_dictionary.specs.Entries.{read_refusal}
use Rattle.object_dictionary.specs.Whole.{first_refusal}
use Rattle.object_dictionary.proofs.object.Object.refuses_read.Given as goal

abbrev pub invariant-loop-entry : goal.invariant-loop-entry
invariant-loop-entry l = first_refusal (read_refusal l.al) l.self.entries ≡ first_refusal (read_refusal l.al) (drop l.entry-index l.self.entries)
