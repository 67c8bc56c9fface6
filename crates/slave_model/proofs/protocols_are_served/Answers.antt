use Rattle.slave_model.proofs.Sides.{served_law}
use Rattle.slave_model.proofs.protocols_are_served.Goals as goal

pub returns : goal.returns
returns g c = λ o law p is al i. served_law o law p is al i
