use Rattle.exchange_model.proofs.Lifting.{lifted_law}
use Rattle.protocol_models.specs.CoeModel.{coe_exchange}
use Rattle.protocol_models.specs.CoeOctets.{coe_mail_heard, coe_mail_written}
use Rattle.protocol_models.proofs.CoeLaw.{coe_law}
use Rattle.protocol_models.proofs.CoeSpelled.{coe_spells}
use Rattle.protocol_models.proofs.coe_model.coe_mails_are_lawful.Goals as goal

pub returns : goal.returns
returns g c = λ o eoe areas law spelled sized.
    lifted_law (coe_exchange o eoe areas) coe_mail_heard coe_mail_written (coe_law o law eoe areas sized) (coe_spells o law spelled eoe areas sized)
