use Rattle.std.proofs.Common.{◌≡◌, drop}
use Rattle.check_summary.specs.Losses.{rows_from}
use Rattle.check_summary.proofs.losses.longest_row.Given as goal

abbrev pub invariant-loop-frame : goal.invariant-loop-frame
invariant-loop-frame l = rows_from l.rows (drop l.frame-index l.lose) ≡ rows_from l.initial.rows l.lose
