use Rattle.std.proofs.Common.{drop}
use Rattle.run_report.specs.Report.{epoch_lines}
use Rattle.run_report.proofs.Pushed.{HasPushed}
use Rattle.run_report.proofs.slaves.push_epochs.Given as goal

abbrev pub invariant-loop-number : goal.invariant-loop-number
invariant-loop-number l = HasPushed l.fn.into l.into (epoch_lines l.number (drop l.number l.epochs)) (epoch_lines 0 l.epochs)
