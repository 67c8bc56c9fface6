use Rattle.state_model.proofs.StatedLaw.{stated_law}
use Rattle.state_model.proofs.state_exchange.states_are_lawful.Goals as goal

pub returns : goal.returns
returns g c = λ x s table stated law. stated_law x s table stated law
