use Rattle.std.proofs.Common.{◌≡◌, ◌+◌, ◌≤◌, drop}
use Rattle.object_dictionary.specs.Whole.{sizes}
use Rattle.object_dictionary.proofs.accepts.are_small.Given as goal

abbrev pub invariant-loop-spec : goal.invariant-loop-spec
invariant-loop-spec l = (l.left ≤ 16000) × (sizes (drop l.spec-index l.specs) + 16000 ≡ sizes l.specs + l.left)
