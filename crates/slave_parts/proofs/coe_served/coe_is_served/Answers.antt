use Rattle.slave_parts.proofs.CoeServedLaw.{coe_is_served}
use Rattle.slave_parts.proofs.coe_served.coe_is_served.Goals as goal

pub returns : goal.returns
returns g c = λ o eoe areas law sized. coe_is_served o law eoe areas sized
