use Rattle.slave_parts.proofs.EoeServedLaw.{eoe_is_served}
use Rattle.slave_parts.proofs.eoe_served.eoe_is_served.Goals as goal

pub returns : goal.returns
returns g c = λ o areas sound sized. eoe_is_served o sound areas sized
