use Rattle.std.proofs.Common.{◌≡◌, ◌++◌, drop, map}
use Rattle.run_notes.specs.Slaves.{home_of}
use Rattle.run_notes.proofs.log.homes_of.Given as goal

abbrev pub invariant-loop-spec : goal.invariant-loop-spec
invariant-loop-spec l = l.homes ++ map home_of (drop l.spec-index l.slaves) ≡ map home_of l.slaves
