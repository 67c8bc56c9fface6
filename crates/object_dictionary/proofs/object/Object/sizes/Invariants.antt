use Rattle.std.proofs.Common.{◌≡◌, ◌+◌, drop}
use Rattle.object_dictionary.specs.Whole.{sizes}
use Rattle.object_dictionary.proofs.object.Object.sizes.Given as goal

abbrev pub invariant-loop-entry : goal.invariant-loop-entry
invariant-loop-entry l = l.total + sizes (drop l.entry-index l.self.entries) ≡ sizes l.self.entries
