use Rattle.served_places.specs.of_life_runs.First.{lens_of}
use Rattle.run_work.specs.of_plan_ring.Plan.{plan_of}
use Rattle.run_work.proofs.of_plan_ring.Known.{macs_in}
use Rattle.served_rings.proofs.ToldLives.{lives_so}
use Rattle.served_rings.proofs.told_eras.told_eras_law.Goals as goal
use Rattle.run_work.specs.of_slave_server.Spec.{profile_of}

pub returns : goal.returns
returns c = λ plan is known fs missed ws l round.
    lives_so plan (λ s profile spot whole. (c.asked_whole_law.ensures.whole (profile_of s) profile s.boot (lens_of plan.slaves) (plan_of s) spot whole.plan whole.station whole.start).lawful) is.laid.slaves (macs_in plan.slaves known.macs)
    (λ gs k vs led went. c.served_ring_law.ensures plan is known gs k vs led went) fs missed ws l round
