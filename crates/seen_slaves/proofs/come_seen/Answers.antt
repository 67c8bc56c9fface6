use Rattle.seen_slaves.proofs.Comes.{come}
use Rattle.seen_slaves.proofs.come_seen.Goals as goal

pub returns : goal.returns
returns g c = λ table target phase r k. come table target phase r k
