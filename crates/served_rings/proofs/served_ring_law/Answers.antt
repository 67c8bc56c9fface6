use Rattle.served_rings.specs.Rings.{nodes_behind}
use Rattle.served_rings.proofs.Lives.{lived_of}
use Rattle.served_rings.proofs.served_ring_law.Goals as goal

pub returns : goal.returns
returns c = λ plan is known fs missed ws l round. lived_of (nodes_behind plan fs) plan fs ws (c.stood_ring_law.ensures plan is known fs missed ws l round)
