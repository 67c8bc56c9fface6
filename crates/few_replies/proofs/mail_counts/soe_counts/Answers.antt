use Rattle.few_replies.proofs.OfSoe.{soe_within}
use Rattle.few_replies.proofs.mail_counts.soe_counts.Goals as goal

pub returns : goal.returns
returns g c = λ o areas law sized v q ready valid. soe_within o law areas sized v q ready valid
