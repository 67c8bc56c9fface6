use Rattle.std.proofs.Common.{drop}
use Rattle.run_report.specs.Report.{octets_lines}
use Rattle.run_report.proofs.Pushed.{HasPushed}
use Rattle.run_report.proofs.slaves.push_octets.Given as goal

abbrev pub invariant-loop-octets : goal.invariant-loop-octets
invariant-loop-octets l = HasPushed l.fn.into l.into (octets_lines l.word (drop l.octets-index l.rows)) (octets_lines l.word l.rows)
