use Rattle.few_replies.proofs.OfFoe.{foe_within}
use Rattle.few_replies.proofs.mail_counts.foe_counts.Goals as goal

pub returns : goal.returns
returns g c = λ o areas sized v q. foe_within o areas sized v q
