use Rattle.seen_slaves.proofs.SeenSpent.{frees}
use Rattle.seen_slaves.proofs.seen_spent.free_seen.Goals as goal

pub returns : goal.returns
returns g c = λ f names h x s y acknowledged server processor table spot e opened last fs v r n law stated never is same k. frees f names h x s y server processor table spot e opened last fs v r n law stated never is same k acknowledged
