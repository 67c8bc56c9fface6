use Rattle.serving_model.proofs.TaggedLaw.{tagged_lawful}
use Rattle.serving_model.proofs.StatesLaw.{tagged_stated}
use Rattle.serving_model.proofs.tagged_is_lawful.Goals as goal

pub returns-clause-lawful : goal.returns-clause-lawful
returns-clause-lawful g c = λ x core law. tagged_lawful x core law

pub returns-clause-stated : goal.returns-clause-stated
returns-clause-stated g c = λ x core law s owes. tagged_stated x core law s owes
