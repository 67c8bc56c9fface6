use Rattle.seen_slaves.proofs.Left.{settled_to}
use Rattle.served_rings.proofs.SeenSettled.{settled_back}
use Rattle.seen_slaves.proofs.settled_seen.Goals as goal

pub returns : goal.returns
returns g c = record { to = λ f server n k. settled_to f server n k; back = λ f server n k. settled_back f server n k }
