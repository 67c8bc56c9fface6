use Rattle.slave_parts.proofs.RefusedLaw.{gated_served}
use Rattle.slave_parts.proofs.serving_sum.refused_is_served.Goals as goal

pub returns : goal.returns
returns g c = λ x core r law is served. gated_served x core r law is served
