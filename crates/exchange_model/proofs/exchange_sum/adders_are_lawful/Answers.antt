use Rattle.exchange_model.proofs.ToyLaw.{adders_law}
use Rattle.exchange_model.proofs.exchange_sum.adders_are_lawful.Goals as goal

pub returns : goal.returns
returns c = adders_law
