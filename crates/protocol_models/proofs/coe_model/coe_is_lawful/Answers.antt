use Rattle.protocol_models.proofs.CoeLaw.{coe_law}
use Rattle.protocol_models.proofs.coe_model.coe_is_lawful.Goals as goal

pub returns : goal.returns
returns g c = λ o eoe areas law sized. coe_law o law eoe areas sized
