use Rattle.slave_model.proofs.StatedLaw.{product_stated}
use Rattle.slave_model.proofs.product_is_stated.Goals as goal

pub returns : goal.returns
returns g c = λ o law p is. product_stated o law p is
