use Rattle.plan_ring.specs.of_life_runs.First.{lens_of}
use Rattle.plan_ring.specs.Round.{all_seen}
use Rattle.run_work.proofs.Opened.{led_unopened}
use Rattle.run_work.proofs.Runs.{all_gain}
use Rattle.run_work.proofs.run_counts.Goals as goal

pub returns : goal.returns
returns c = λ plan is known fs missed leads led round.
    let lived = c.run_lives_law.ensures plan is known fs missed leads led round in
    all_gain plan c.shape_law.ensures (all_seen (lens_of plan.slaves) fs) 0 plan.slaves lived.members leads is.laid.slaves known.macs lived.shown lived.lives.each lived.led
    (led_unopened (lens_of plan.slaves) plan.recover plan.retry plan fs missed leads led)
