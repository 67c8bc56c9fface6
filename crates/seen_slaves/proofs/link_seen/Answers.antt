use Rattle.seen_slaves.proofs.Links.{link}
use Rattle.seen_slaves.proofs.link_seen.Goals as goal

pub returns : goal.returns
returns g c = λ f g h server d n k. link f g h server d n k
