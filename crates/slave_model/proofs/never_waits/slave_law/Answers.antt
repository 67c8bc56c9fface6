use Rattle.slave_model.proofs.Slaves.{slave_never}
use Rattle.slave_model.proofs.never_waits.slave_law.Goals as goal

pub returns : goal.returns
returns g c = λ o law p is. slave_never o law p is
