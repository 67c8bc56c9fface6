use Rattle.few_replies.proofs.OfSlave.{slave_within}
use Rattle.few_replies.proofs.service_counts.slave_counts.Goals as goal

pub returns : goal.returns
returns g c = λ o law p is v q ready valid. slave_within o law p is v q ready valid
