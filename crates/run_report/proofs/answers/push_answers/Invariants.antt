use Rattle.std.proofs.Common.{drop, ◌≤◌}
use Rattle.run_report.specs.Report.{answer_lines}
use Rattle.run_report.proofs.Pushed.{HasPushed}
use Rattle.run_report.proofs.answers.push_answers.Given as goal

abbrev pub invariant-loop-at : goal.invariant-loop-at
invariant-loop-at l = record {
  lines : HasPushed l.fn.into l.into (answer_lines l.begun l.at l.number (drop l.at l.answers)) (answer_lines l.begun 0 0 l.answers);
  few : l.number ≤ l.at;
}
