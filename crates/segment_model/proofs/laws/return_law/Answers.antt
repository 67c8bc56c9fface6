-- What comes back is the return of what was sent.
use Rattle.segment_model.proofs.Returning.{returns-back}
use Rattle.segment_model.proofs.laws.return_law.Goals as goal

pub returns : goal.returns
returns g c = λ ns sent. returns-back ns sent
