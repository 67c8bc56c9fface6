use Rattle.exchange_model.proofs.Lifting.{lifted_law}
use Rattle.protocol_models.specs.FoeModel.{foe_exchange}
use Rattle.protocol_models.specs.FoeOctets.{foe_mail_heard, foe_mail_written}
use Rattle.protocol_models.proofs.FoeLaw.{foe_law}
use Rattle.protocol_models.proofs.FoeSpelled.{foe_spells}
use Rattle.protocol_models.proofs.foe_model.foe_mails_are_lawful.Goals as goal

pub returns : goal.returns
returns g c = λ o areas law spelled sized.
    lifted_law (foe_exchange o areas) foe_mail_heard foe_mail_written (foe_law o law areas sized) (foe_spells o law spelled areas sized)
