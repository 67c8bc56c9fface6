use Rattle.idle_slaves.proofs.Settled.{is_left}
use Rattle.idle_slaves.proofs.left_law.Goals as goal

pub returns : goal.returns
returns g c = λ x l n k. is_left x l n k
