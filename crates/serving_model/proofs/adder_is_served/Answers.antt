use Rattle.serving_model.proofs.ToyLaw.{served, toy_lawful}
use Rattle.serving_model.proofs.adder_is_served.Goals as goal

pub returns-clause-served : goal.returns-clause-served
returns-clause-served c = served

pub returns-clause-lawful : goal.returns-clause-lawful
returns-clause-lawful c = toy_lawful
