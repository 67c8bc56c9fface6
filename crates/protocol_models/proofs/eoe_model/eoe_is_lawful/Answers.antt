use Rattle.protocol_models.proofs.EoeLaw.{eoe_law}
use Rattle.protocol_models.proofs.eoe_model.eoe_is_lawful.Goals as goal

pub returns : goal.returns
returns g c = λ o areas sound sized. eoe_law o sound areas sized
