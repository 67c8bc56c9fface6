use Rattle.std.proofs.Common.{◌≡◌, ◌≤◌, ◌+◌, drop}
use Rattle.run_report.specs.Report.{packets_from}
use Rattle.run_report.proofs.answers.packets_handed.Given as goal

abbrev pub invariant-loop-at : goal.invariant-loop-at
invariant-loop-at l = record {
  rest : l.many + packets_from l.begun l.at (drop l.at l.answers) ≡ packets_from l.begun 0 l.answers;
  few : l.many ≤ l.at;
}
