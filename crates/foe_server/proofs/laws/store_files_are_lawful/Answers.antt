use Rattle.protocol_models.proofs.of_exchange_model.Lifting.{lifted_law}
use Rattle.protocol_models.specs.FoeModel.{foe_exchange}
use Rattle.protocol_models.specs.FoeOctets.{foe_mail_heard, foe_mail_written}
use Rattle.protocol_models.proofs.FoeLaw.{foe_law}
use Rattle.protocol_models.proofs.FoeSpelled.{foe_spells}
use Rattle.foe_server.specs.Stores.{store_files}
use Rattle.foe_server.proofs.Lawful.{files_are_lawful, files_are_spelled}
use Rattle.foe_server.proofs.laws.store_files_are_lawful.Goals as goal

pub returns-clause-lawful : goal.returns-clause-lawful
returns-clause-lawful c = files_are_lawful

pub returns-clause-spelled : goal.returns-clause-spelled
returns-clause-spelled c = files_are_spelled

pub returns-clause-exchange : goal.returns-clause-exchange
returns-clause-exchange c = λ al areas sized.
    lifted_law (foe_exchange (store_files al) areas) foe_mail_heard foe_mail_written (foe_law (store_files al) (files_are_lawful al) areas sized)
    (foe_spells (store_files al) (files_are_lawful al) (files_are_spelled al) areas sized)
