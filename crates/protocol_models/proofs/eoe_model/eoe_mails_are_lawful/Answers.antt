use Rattle.exchange_model.proofs.Lifting.{lifted_law}
use Rattle.protocol_models.specs.EoeModel.{eoe_exchange}
use Rattle.protocol_models.specs.EoeOctets.{eoe_mail_heard, eoe_mail_written}
use Rattle.protocol_models.proofs.EoeLaw.{eoe_law}
use Rattle.protocol_models.proofs.EoeSpelled.{eoe_spells}
use Rattle.protocol_models.proofs.eoe_model.eoe_mails_are_lawful.Goals as goal

pub returns : goal.returns
returns g c = λ o areas sound spelled sized.
    lifted_law (eoe_exchange o areas) eoe_mail_heard eoe_mail_written (eoe_law o sound areas sized) (eoe_spells o sound spelled areas sized)
