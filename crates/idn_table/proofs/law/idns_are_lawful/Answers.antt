use Rattle.protocol_models.proofs.of_exchange_model.Lifting.{lifted_law}
use Rattle.protocol_models.specs.SoeModel.{soe_exchange}
use Rattle.protocol_models.specs.SoeOctets.{soe_mail_heard, soe_mail_written}
use Rattle.protocol_models.proofs.SoeLaw.{soe_law}
use Rattle.protocol_models.proofs.SoeSpelled.{soe_spells}
use Rattle.idn_table.specs.Idns.{idn_elements}
use Rattle.idn_table.proofs.Lawful.{idns_lawful}
use Rattle.idn_table.proofs.law.idns_are_lawful.Goals as goal

pub returns-clause-table : goal.returns-clause-table
returns-clause-table c = idns_lawful

pub returns-clause-mails : goal.returns-clause-mails
returns-clause-mails c = λ areas sized.
    lifted_law (soe_exchange idn_elements areas) soe_mail_heard soe_mail_written (soe_law idn_elements idns_lawful areas sized) (soe_spells idn_elements idns_lawful areas sized)
