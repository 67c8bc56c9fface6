use Rattle.exchange_model.proofs.Lifting.{lifted_law}
use Rattle.exchange_model.proofs.laws_of_spellings.Goals as goal

pub returns : goal.returns
returns g c = λ x read write law spells. lifted_law x read write law spells
