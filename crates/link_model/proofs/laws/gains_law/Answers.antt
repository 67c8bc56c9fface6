-- The lemmas on the measure, at the types of the function.
use Rattle.link_model.proofs.Gains.{event_paid, within}
use Rattle.link_model.proofs.laws.gains_law.Goals as goal

pub returns-clause-falls : goal.returns-clause-falls
returns-clause-falls g c = λ v w e a. event_paid v w e a

pub returns-clause-within : goal.returns-clause-within
returns-clause-within g c = λ v s es. within v s es
