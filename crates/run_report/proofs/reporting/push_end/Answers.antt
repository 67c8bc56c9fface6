use Rattle.std.proofs.Common.{append_assoc}
use Rattle.run_report.proofs.reporting.push_end.Goals as goal

pub returns-clause-ok : goal.returns-clause-ok
returns-clause-ok c = rw (c.in_ok-add-2.ensures.ok, c.in_ok-push_gateway.ensures.ok, c.in_ok-add.ensures.ok, c.in_ok-line_of_ending.ensures, c.in_ok-line_of_drops.ensures) (simp append_assoc)
