use Rattle.std.proofs.Common.{◌≤◌, ℕ}
use Rattle.run_record.specs.of_segment_plan.declared.plan.Scenario.{Scenario}
use Rattle.gateway_run.specs.Desk.{SameLive, StaysBusy}
use Rattle.gateway_run.specs.Goes.{MaySend}
use Rattle.gateway_run.specs.Serving.{Told, told, IsHearing, left}
use Rattle.gateway_run.proofs.turn.Serving.poll.Given as goal

abbrev pub invariant-loop-self : goal.invariant-loop-self
invariant-loop-self g l = record {
  goes : (plan : Scenario) (count : ℕ) (first : Told) → IsHearing plan count first (told g.P.Port.heard g.P.Port.sent g.P.Port.over g.P.Port.port_faults l.fn.port) l.fn.self l.fn.book → IsHearing plan count first (told g.P.Port.heard g.P.Port.sent g.P.Port.over g.P.Port.port_faults l.port) l.self l.book;
  live : SameLive l.fn.self.session l.self.session;
  busy : StaysBusy l.fn.self.session l.self.session;
  most : left l.self l.book ≤ left l.fn.self l.fn.book;
  may : MaySend l.fn.self l.fn.book → MaySend l.self l.book;
}

abbrev pub decreases-loop-self : goal.decreases-loop-self
decreases-loop-self g l = left l.self l.book
