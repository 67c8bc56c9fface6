-- The lemmas on a serving, at the types of the function.
use Rattle.state_model.proofs.Servings.{weighed_handled, serving_fits}
use Rattle.state_model.proofs.serving_law.Goals as goal

pub returns-clause-counts : goal.returns-clause-counts
returns-clause-counts g c = λ x v ts one. weighed_handled x v ts one

pub returns-clause-fits : goal.returns-clause-fits
returns-clause-fits g c = λ x law quiet v ts us. serving_fits x law quiet v ts us
