use Rattle.protocol_models.proofs.FoeLasts.{foe_last, foe_mail_last}
use Rattle.protocol_models.proofs.foe_model.foe_answers_last.Goals as goal

pub returns-clause-messages : goal.returns-clause-messages
returns-clause-messages g c = λ o areas law sized. foe_last o law areas sized

pub returns-clause-octets : goal.returns-clause-octets
returns-clause-octets g c = λ o areas law spelled sized. foe_mail_last o law areas sized spelled
