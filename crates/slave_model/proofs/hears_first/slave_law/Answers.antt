use Rattle.slave_model.proofs.HearsSlaves.{slave_hears}
use Rattle.slave_model.proofs.hears_first.slave_law.Goals as goal

pub returns : goal.returns
returns g c = λ o law p is. slave_hears o law p is
