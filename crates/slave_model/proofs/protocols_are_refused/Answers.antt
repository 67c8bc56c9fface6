use Rattle.slave_model.proofs.ProductLaw.{refusals}
use Rattle.slave_model.proofs.protocols_are_refused.Goals as goal

pub returns : goal.returns
returns g c = λ o law p is al i. refusals o law p is al i
