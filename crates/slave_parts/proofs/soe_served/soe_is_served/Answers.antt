use Rattle.slave_parts.proofs.ServedLaw.{soe_is_served}
use Rattle.slave_parts.proofs.soe_served.soe_is_served.Goals as goal

pub returns : goal.returns
returns g c = λ o areas lawful sized. soe_is_served o lawful areas sized
