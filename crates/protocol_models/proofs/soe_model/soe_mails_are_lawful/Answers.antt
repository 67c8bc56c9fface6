use Rattle.exchange_model.proofs.Lifting.{lifted_law}
use Rattle.protocol_models.specs.SoeModel.{soe_exchange}
use Rattle.protocol_models.specs.SoeOctets.{soe_mail_heard, soe_mail_written}
use Rattle.protocol_models.proofs.SoeLaw.{soe_law}
use Rattle.protocol_models.proofs.SoeSpelled.{soe_spells}
use Rattle.protocol_models.proofs.soe_model.soe_mails_are_lawful.Goals as goal

pub returns : goal.returns
returns g c = λ o areas lawful sized.
    lifted_law (soe_exchange o areas) soe_mail_heard soe_mail_written (soe_law o lawful areas sized) (soe_spells o lawful areas sized)
