use Rattle.std.proofs.Common.{◌≡◌, ◌++◌, drop}
use Rattle.check_summary.specs.Summary.{slave_lines_from}
use Rattle.check_summary.proofs.summary.add_slaves.Given as goal

abbrev pub invariant-loop-number : goal.invariant-loop-number
invariant-loop-number l = l.text ++ slave_lines_from l.plan l.number (drop l.number l.plan.slaves) ≡ l.fn.text ++ slave_lines_from l.plan 0 l.plan.slaves
