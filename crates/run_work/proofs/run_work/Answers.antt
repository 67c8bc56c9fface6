use Rattle.plan_ring.specs.of_life_runs.First.{lens_of}
use Rattle.life_counts.specs.Split.{own_work}
use Rattle.run_work.proofs.Packets.{begun_parts}
use Rattle.run_work.proofs.Reopened.{led_came}
use Rattle.run_work.proofs.Together.{all_slaves}
use Rattle.run_work.proofs.run_work.Goals as goal
use Rattle.std.proofs.Common.{arith}

pub returns : goal.returns
returns c = λ plan is known fs missed leads led round.
    let gained = c.run_counts.ensures plan is known fs missed leads led round in
    let each = led_came (lens_of plan.slaves) plan.recover plan.retry plan fs missed leads led in
    omega (
      arith,
      all_slaves c.plan_counts.ensures.within plan is.laid.services 0 plan.slaves leads is.laid.slaves (c.script_run_law.ensures plan fs missed leads led) gained each,
      begun_parts plan.slaves leads,
      c.script_law.ensures own_work (lens_of plan.slaves) plan.recover plan.retry plan fs missed leads led,
    )
