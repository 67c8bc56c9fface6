use Rattle.protocol_models.proofs.FoeLaw.{foe_law}
use Rattle.protocol_models.proofs.foe_model.foe_is_lawful.Goals as goal

pub returns : goal.returns
returns g c = λ o areas law sized. foe_law o law areas sized
