use Rattle.slave_model.proofs.ProductLaw.{all_protocols}
use Rattle.slave_model.proofs.protocols_are_lawful.Goals as goal

pub returns : goal.returns
returns g c = λ o law p is al. all_protocols o law p is al
