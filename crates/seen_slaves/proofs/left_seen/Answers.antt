use Rattle.seen_slaves.proofs.Left.{left_as}
use Rattle.seen_slaves.proofs.left_seen.Goals as goal

pub returns : goal.returns
returns g c = λ f g h y x r same. left_as f g h y x r same
