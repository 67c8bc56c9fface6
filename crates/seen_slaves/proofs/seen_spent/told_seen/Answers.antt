use Rattle.seen_slaves.proofs.SeenTold.{told_as}
use Rattle.seen_slaves.proofs.seen_spent.told_seen.Goals as goal

pub returns : goal.returns
returns g c = λ f names h x s y acknowledged processor table spot e opened last fs v r n law stated is plans lasts hand z now answer has quiet. told_as f names h x s y acknowledged processor table spot e opened last fs v r n law stated is hand plans lasts z now answer has quiet
