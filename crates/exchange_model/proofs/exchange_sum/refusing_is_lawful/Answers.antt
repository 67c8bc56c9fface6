use Rattle.exchange_model.proofs.RefusingLaw.{gated_law}
use Rattle.exchange_model.proofs.exchange_sum.refusing_is_lawful.Goals as goal

pub returns : goal.returns
returns g c = λ x r law is served. gated_law x r law is served
