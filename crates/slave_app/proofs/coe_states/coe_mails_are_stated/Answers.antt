use Rattle.slave_app.proofs.StatesLaw.{coe_mail_states_law, coe_mail_states_are}
use Rattle.slave_app.proofs.coe_states.coe_mails_are_stated.Goals as goal

pub returns-clause-lawful : goal.returns-clause-lawful
returns-clause-lawful g c = λ o eoe areas law spelled sized. coe_mail_states_law o eoe areas law sized spelled

pub returns-clause-stated : goal.returns-clause-stated
returns-clause-stated g c = λ o eoe areas kind law spelled sized. coe_mail_states_are o eoe areas law sized spelled kind
