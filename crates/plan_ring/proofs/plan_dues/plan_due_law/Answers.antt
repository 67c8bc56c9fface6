use Rattle.plan_ring.proofs.All.{Laws, all_due}
use Rattle.plan_ring.proofs.plan_dues.plan_due_law.Goals as goal
use Rattle.plan_ring.proofs.Lives.{front_round, last_round}
use Rattle.plan_ring.specs.Round.{ring_of}

pub returns : goal.returns
returns c = λ plan is known fs missed as' f us led y round pass.
    let laws : Laws plan = record {
      hears = c.asked_hears_law.ensures;
      opens = λ fs as' x. c.plan_met_law.ensures.opens plan fs as' x;
      meets = λ fs as' f us x y w pass. c.plan_met_law.ensures.meets plan is known fs as' f us x y w pass;
    } in
    all_due plan laws is known fs as' f us (c.run_lives_law.ensures plan is known fs missed as' led (front_round (ring_of plan) fs f round)) y (last_round (ring_of plan) fs f round) pass
