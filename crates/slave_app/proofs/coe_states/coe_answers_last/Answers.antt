use Rattle.slave_app.proofs.Lasts.{coe_last, coe_mail_last}
use Rattle.slave_app.proofs.coe_states.coe_answers_last.Goals as goal

pub returns-clause-messages : goal.returns-clause-messages
returns-clause-messages g c = λ o eoe areas law sized. coe_last o law eoe areas sized

pub returns-clause-octets : goal.returns-clause-octets
returns-clause-octets g c = λ o eoe areas law spelled sized. coe_mail_last o law eoe areas sized spelled
