use Rattle.std.proofs.Common.{◌≡◌, take}
use Rattle.object_dictionary.proofs.object.copies_of.Given as goal

abbrev pub invariant-loop-spec : goal.invariant-loop-spec
invariant-loop-spec l = l.entries ≡ take l.spec-index l.specs
