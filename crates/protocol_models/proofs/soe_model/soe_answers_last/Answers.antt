use Rattle.protocol_models.proofs.SoeLasts.{soe_last, soe_mail_last}
use Rattle.protocol_models.proofs.soe_model.soe_answers_last.Goals as goal

pub returns-clause-messages : goal.returns-clause-messages
returns-clause-messages g c = λ o areas law sized. soe_last o law areas sized

pub returns-clause-octets : goal.returns-clause-octets
returns-clause-octets g c = λ o areas law sized. soe_mail_last o law areas sized
