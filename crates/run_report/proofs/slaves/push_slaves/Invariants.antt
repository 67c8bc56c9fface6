use Rattle.std.proofs.Common.{drop}
use Rattle.run_report.specs.Report.{slave_lines}
use Rattle.run_report.proofs.Pushed.{HasPushed}
use Rattle.run_report.proofs.slaves.push_slaves.Given as goal

abbrev pub invariant-loop-number : goal.invariant-loop-number
invariant-loop-number l = HasPushed l.fn.into l.into (slave_lines l.number (drop l.number l.specs) (drop l.number l.rows)) (slave_lines 0 l.specs l.rows)
