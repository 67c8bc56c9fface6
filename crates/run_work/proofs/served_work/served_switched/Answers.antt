use Rattle.std.proofs.Common.{length}
use Rattle.plan_ring.specs.of_life_runs.First.{lens_of}
use Rattle.life_counts.specs.Split.{entering}
use Rattle.run_work.specs.ServedGained.{leads_of}
use Rattle.run_work.proofs.Packets.{switched_few}
use Rattle.run_work.proofs.Placed.{led_placed}
use Rattle.run_work.proofs.ServedWorked.{works_within}
use Rattle.run_work.proofs.served_work.served_switched.Goals as goal

pub returns : goal.returns
returns c = λ plan is fs missed ws led packets.
    let placed = led_placed (lens_of plan.slaves) plan.recover plan.retry plan fs missed ws led in
    let begun = works_within (λ slave service. entering service) plan ws placed in
    switched_few plan is.laid.host (λ s service. c.plan_counts.ensures.split (length plan.slaves) s service) (leads_of ws) begun packets
