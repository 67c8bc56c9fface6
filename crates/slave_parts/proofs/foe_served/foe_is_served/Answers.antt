use Rattle.slave_parts.proofs.FoeServedLaw.{foe_is_served}
use Rattle.slave_parts.proofs.foe_served.foe_is_served.Goals as goal

pub returns : goal.returns
returns g c = λ o areas law stays sized. foe_is_served o law stays areas sized
