use Rattle.std.proofs.Common.{◌≡◌, ℕ, [], true}
use Rattle.std.specs.Bool.{OnTrue, OnFalse}
use Rattle.run_record.specs.of_segment_plan.declared.plan.Scenario.{Scenario}
use Rattle.run_record.specs.Served.{ServingLives, ServingRests}
use Rattle.run_record.specs.Session.{IsDone, session_rows, are_at_rest}
use Rattle.gateway_run.specs.Serving.{Told, told, IsServing, left}
use Rattle.gateway_run.proofs.serving.turns.Given as goal

abbrev pub invariant-loop-settled : goal.invariant-loop-settled
invariant-loop-settled g l = record {
  goes : (plan : Scenario) (count : ℕ) (first : Told) → IsServing plan count first (told g.P.Port.heard g.P.Port.sent g.P.Port.over g.P.Port.port_faults l.fn.port) l.fn.serving l.fn.book → IsServing plan count first (told g.P.Port.heard g.P.Port.sent g.P.Port.over g.P.Port.port_faults l.port) l.serving l.book;
  empty : l.serving.desk.outbox.items ≡ [];
  at_rest : OnTrue l.settled (are_at_rest (session_rows l.serving.session) ≡ true);
  lives : OnFalse l.settled (ServingLives l.serving.session);
  done : OnFalse l.settled (IsDone l.serving.session → ⊥);
  rests : OnTrue l.settled (ServingRests l.serving.session);
}

abbrev pub decreases-loop-settled : goal.decreases-loop-settled
decreases-loop-settled g l = left l.serving l.book
