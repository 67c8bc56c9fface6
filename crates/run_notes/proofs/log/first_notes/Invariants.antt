use Rattle.std.proofs.Common.{◌≡◌, ◌++◌, drop}
use Rattle.run_notes.specs.Slaves.{first_notes}
use Rattle.run_notes.proofs.log.first_notes.Given as goal

abbrev pub invariant-loop-at : goal.invariant-loop-at
invariant-loop-at l = l.notes ++ first_notes l.plan.services l.at (drop l.at l.plan.slaves) ≡ first_notes l.plan.services 0 l.plan.slaves
