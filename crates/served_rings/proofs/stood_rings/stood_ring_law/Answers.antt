use Rattle.served_rings.specs.Rings.{nodes_behind}
use Rattle.served_rings.proofs.Begins.{Laws, served_begins}
use Rattle.served_rings.proofs.Lives.{nodes_are, served_lives}
use Rattle.served_rings.proofs.stood_rings.stood_ring_law.Goals as goal

pub returns : goal.returns
returns c =
    let laws : Laws = record { ring = c.plan_ring_law.ensures.begins; behind = c.behind_law.ensures; stated = c.state_law.ensures } in
    λ plan is known fs missed ws l round.
    let stood = nodes_behind plan fs in
    served_lives plan is known stood (served_begins laws plan is known stood) fs missed ws l round (nodes_are plan fs)
