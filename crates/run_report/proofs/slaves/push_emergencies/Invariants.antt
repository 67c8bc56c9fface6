use Rattle.std.proofs.Common.{drop}
use Rattle.run_report.specs.Report.{emergency_lines}
use Rattle.run_report.proofs.Pushed.{HasPushed}
use Rattle.run_report.proofs.slaves.push_emergencies.Given as goal

abbrev pub invariant-loop-row : goal.invariant-loop-row
invariant-loop-row l = HasPushed l.fn.into l.into (emergency_lines (drop l.row-index l.rows)) (emergency_lines l.rows)
