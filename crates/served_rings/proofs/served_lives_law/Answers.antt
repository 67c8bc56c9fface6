use Rattle.served_places.specs.of_life_runs.First.{first_leads, lens_of}
use Rattle.run_work.specs.of_plan_ring.Round.{all_seen}
use Rattle.run_work.proofs.of_plan_ring.Known.{macs_in}
use Rattle.run_work.proofs.Placed.{all_fresh}
use Rattle.served_rings.proofs.Whole.{all_served}
use Rattle.served_rings.proofs.served_lives_law.Goals as goal

pub returns : goal.returns
returns c = λ plan is known fs missed ws l round fair.
    let lens = lens_of plan.slaves in
    let x = c.served_ring_law.ensures plan is known fs missed ws l round in
    all_served c.life_law.ensures plan (all_seen lens fs) 0 plan.slaves ws x.nodes is.laid.slaves (macs_in plan.slaves known.macs) x.led x.at
    (c.asked_law.ensures lens plan.recover plan.retry plan.paces (first_leads plan) fs missed ws (all_fresh plan.services 0 plan.slaves) l) fair
