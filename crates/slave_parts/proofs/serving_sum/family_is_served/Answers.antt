use Rattle.slave_parts.proofs.ServingStatesLaw.{family_served}
use Rattle.slave_parts.proofs.serving_sum.family_is_served.Goals as goal

pub returns : goal.returns
returns g c = λ x core one law. family_served x core one law
