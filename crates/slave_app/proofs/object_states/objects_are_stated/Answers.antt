-- The laws of coe_states, at the object dictionary's tables.
use Rattle.std.proofs.Common.{refl}
use Rattle.slave_server.specs.of_coe_server.ObjectTables.{tables_with}
use Rattle.slave_server.proofs.of_coe_server.ObjectsLaw.{lawful, spelled}
use Rattle.slave_app.proofs.StatesLaw.{coe_states_law, coe_states_are, coe_mail_states_law, coe_mail_states_are}
use Rattle.slave_app.proofs.object_states.objects_are_stated.Goals as goal

pub returns-clause-lawful : goal.returns-clause-lawful
returns-clause-lawful c = λ cut eoe areas sized. coe_states_law (tables_with cut) eoe areas (lawful cut) sized

pub returns-clause-stated : goal.returns-clause-stated
returns-clause-stated c = λ cut eoe areas sized. coe_states_are (tables_with cut) eoe areas (lawful cut) sized (λ al table. refl)

pub returns-clause-mails_lawful : goal.returns-clause-mails_lawful
returns-clause-mails_lawful c = λ cut eoe areas fragments sized. coe_mail_states_law (tables_with cut) eoe areas (lawful cut) sized (λ al. spelled cut al fragments)

pub returns-clause-mails_stated : goal.returns-clause-mails_stated
returns-clause-mails_stated c = λ cut eoe areas fragments sized. coe_mail_states_are (tables_with cut) eoe areas (lawful cut) sized (λ al. spelled cut al fragments) (λ al table. refl)
