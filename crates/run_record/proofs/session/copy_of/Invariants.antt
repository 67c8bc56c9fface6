use Rattle.std.proofs.Common.{◌≡◌, ◌++◌, drop}
use Rattle.run_record.proofs.session.copy_of.Given as goal

abbrev pub invariant-loop-row : goal.invariant-loop-row
invariant-loop-row g l = l.copy ++ drop l.row-index l.rows ≡ l.rows
