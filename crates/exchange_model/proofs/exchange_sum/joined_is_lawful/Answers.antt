use Rattle.exchange_model.proofs.SumLaw.{joined_law}
use Rattle.exchange_model.proofs.exchange_sum.joined_is_lawful.Goals as goal

pub returns : goal.returns
returns g c = λ s x seat sides laws spares grows. joined_law s x seat sides laws spares grows
