-- The lemmas on state services, at the types of the function.
use Rattle.state_model.proofs.Kept.{states_promised}
use Rattle.state_model.proofs.News.{by_statuses}
use Rattle.state_model.proofs.states_law.Goals as goal

pub returns-clause-promised : goal.returns-clause-promised
returns-clause-promised g c = λ table start is r es. states_promised table start is r es

pub returns-clause-statuses : goal.returns-clause-statuses
returns-clause-statuses g c = λ target refusal ns. by_statuses _ target refusal ns
