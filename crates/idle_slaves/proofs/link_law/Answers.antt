use Rattle.idle_slaves.proofs.Links.{era_link}
use Rattle.idle_slaves.proofs.link_law.Goals as goal

pub returns : goal.returns
returns g c = λ x s processor table spot e opened last fs v r slave law stated is. era_link x law s stated processor table spot e opened last fs v r slave is
