use Rattle.std.proofs.Common.{length}
use Rattle.plan_ring.specs.of_life_runs.First.{lens_of}
use Rattle.life_counts.specs.Split.{entering}
use Rattle.run_work.proofs.Packets.{switched_few}
use Rattle.run_work.proofs.switched_law.Goals as goal

pub returns : goal.returns
returns c = λ plan is fs missed leads led packets.
    let begun = c.script_law.ensures (λ slave service. entering service) (lens_of plan.slaves) plan.recover plan.retry plan fs missed leads led in
    switched_few plan is.laid.host (λ s service. c.plan_counts.ensures.split (length plan.slaves) s service) leads begun packets
