use Rattle.seen_slaves.proofs.SeenSpent.{unawaited}
use Rattle.seen_slaves.proofs.seen_spent.unawaited_seen.Goals as goal

pub returns : goal.returns
returns g c = λ f names h x s y server processor table spot e opened last fs v r n more passed law stated never is same k passes lasts tells answered. unawaited f names h x s y server processor table spot e opened last fs v r n law stated never is same k more passed passes lasts tells answered
