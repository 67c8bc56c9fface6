use Rattle.plan_ring.proofs.Lives as Lives
use Rattle.plan_ring.proofs.Lives.{Laws}
use Rattle.plan_ring.proofs.run_lives_law.Goals as goal

pub returns : goal.returns
returns c =
    let laws : Laws = record { begins = c.plan_ring_law.ensures.begins; runs = c.plan_ring_law.ensures.runs; led = c.master_ring_law.ensures.begins; goes_on = c.master_ring_law.ensures.goes_on } in
    λ plan is known fs missed as' led round. Lives.lives laws plan is known fs missed as' led round
