use Rattle.plan_ring.proofs.of_run_frames.Tallying.{first_of_plan}
use Rattle.plan_ring.specs.of_segment_plan.Bound.{slowest}
use Rattle.idle_slaves.proofs.Ready.{never_all}
use Rattle.idle_slaves.proofs.Walk.{Laws, walks, first_paces}
use Rattle.idle_slaves.proofs.wait_runs.wait_runs_law.Goals as goal

pub returns : goal.returns
returns c = λ plan fs again missed leads p cs ns is known run went eager.
    let first = first_of_plan plan.services plan.slaves plan.paces is.laid.paces is.laid.pace in
    let laws : Laws plan = record {
      lived = λ fs missed as' led round. c.run_lives_law.ensures plan is known fs missed as' led round;
      opens = λ fs as' x. c.plan_met_law.ensures.opens plan fs as' x;
      meets = λ fs as' f us x y w pass. c.plan_met_law.ensures.meets plan is known fs as' f us x y w pass;
    } in
    (walks c.seen_is.ensures plan laws (never_all plan c.asked_waits_law.ensures plan.slaves is.laid.slaves known.macs) (slowest plan.paces) first.2 first.1 (first_paces plan.services 0 plan.slaves plan.paces is.laid.paces) fs again missed leads p cs ns run went eager).1
