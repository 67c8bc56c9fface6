use Rattle.slave_parts.proofs.JoinedLaw.{joined_served}
use Rattle.slave_parts.proofs.serving_sum.joined_is_served.Goals as goal

pub returns : goal.returns
returns g c = λ s x core seat reseat side law passes grows. joined_served s x core seat reseat side law passes grows
