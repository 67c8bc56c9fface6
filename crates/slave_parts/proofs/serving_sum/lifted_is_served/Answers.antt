use Rattle.slave_parts.proofs.SpelledLaw.{spelled_served}
use Rattle.slave_parts.proofs.serving_sum.lifted_is_served.Goals as goal

pub returns : goal.returns
returns g c = λ x core read write served spells. spelled_served x core read write served spells
