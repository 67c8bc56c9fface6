use Rattle.served_rings.proofs.SeenWhole.{life_seen}
use Rattle.served_rings.proofs.seen_lives.lives_law.Goals as goal

pub returns : goal.returns
returns g c = λ w k seer table spot u processor run clear forgets first l led fair. life_seen w k seer table spot u processor run clear forgets first l led fair
