use Rattle.slave_model.proofs.ProductLaw.{product_law}
use Rattle.slave_model.proofs.product_is_lawful.Goals as goal

pub returns : goal.returns
returns g c = λ o law p is. product_law o law p is
