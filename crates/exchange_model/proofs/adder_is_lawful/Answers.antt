use Rattle.exchange_model.proofs.Toys.{adder_law}
use Rattle.exchange_model.proofs.adder_is_lawful.Goals as goal

pub returns : goal.returns
returns c = adder_law
