use Rattle.std.proofs.Common.{◌≡◌, ℕ, length}
use Rattle.run_record.specs.of_segment_plan.declared.plan.Scenario.{Scenario}
use Rattle.gateway_run.specs.Serving.{Told, told, IsServing, left}
use Rattle.gateway_run.proofs.turn.Serving.send.Given as goal

abbrev pub invariant-loop-reply : goal.invariant-loop-reply
invariant-loop-reply g l = record {
  goes : (plan : Scenario) (count : ℕ) (first : Told) → IsServing plan count first (told g.P.Port.heard g.P.Port.sent g.P.Port.over g.P.Port.port_faults l.fn.port) l.fn.self l.fn.book → IsServing plan count first (told g.P.Port.heard g.P.Port.sent g.P.Port.over g.P.Port.port_faults l.port) l.self l.book;
  same : left l.self l.book ≡ left l.fn.self l.fn.book;
  session : l.self.session ≡ l.fn.self.session;
}

abbrev pub decreases-loop-reply : goal.decreases-loop-reply
decreases-loop-reply g l = length l.self.desk.outbox.items
