use Rattle.seen_slaves.proofs.SeenStands.{era_stands}
use Rattle.seen_slaves.proofs.seen_steps.stands_law.Goals as goal

pub returns : goal.returns
returns g c = λ x s processor table spot e opened last fs v r slave law stated is. era_stands x law s stated processor table spot e opened last fs v r slave is
