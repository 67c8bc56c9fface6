use Rattle.protocol_models.proofs.SoeLaw.{soe_law}
use Rattle.protocol_models.proofs.soe_model.soe_is_lawful.Goals as goal

pub returns : goal.returns
returns g c = λ o areas lawful sized. soe_law o lawful areas sized
