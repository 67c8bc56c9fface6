use Rattle.plan_ring.specs.of_life_runs.First.{lens_of, first_leads}
use Rattle.run_work.proofs.Placed.{led_placed, all_fresh}
use Rattle.run_work.proofs.ServedLasts.{led_came}
use Rattle.run_work.proofs.ServedWorked.{together}
use Rattle.run_work.proofs.served_work.served_work.Goals as goal

pub returns : goal.returns
returns c = λ plan is fs missed ws led paid.
    let placed = led_placed (lens_of plan.slaves) plan.recover plan.retry plan fs missed ws led in
    let served = c.asked_law.ensures (lens_of plan.slaves) plan.recover plan.retry plan.paces (first_leads plan) fs missed ws (all_fresh plan.services 0 plan.slaves) led in
    together c.plan_counts.ensures.within plan is.laid.services is.laid.slaves ws placed served paid (led_came (lens_of plan.slaves) plan.recover plan.retry plan fs missed ws led)
