use Rattle.slave_parts.proofs.WholeLaw.{whole_served}
use Rattle.slave_parts.proofs.serving_sum.whole_is_served.Goals as goal

pub returns : goal.returns
returns g c = λ x ready exec law is. whole_served x ready exec law is
