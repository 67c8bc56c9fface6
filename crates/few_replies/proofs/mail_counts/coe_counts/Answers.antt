use Rattle.few_replies.proofs.OfCoe.{coe_within}
use Rattle.few_replies.proofs.mail_counts.coe_counts.Goals as goal

pub returns : goal.returns
returns g c = λ o eoe areas law sized v q sound valid. coe_within o law eoe areas sized v q sound valid
