-- The lemmas on visits, at the types of the function.
use Rattle.segment_model.proofs.Tours.{lost_again, is_given_up}
use Rattle.segment_model.proofs.laws.visit_law.Goals as goal

pub returns-clause-again : goal.returns-clause-again
returns-clause-again g c = λ size retry after ring t f g fs v e m. lost_again size retry after ring t f g fs v e m

pub returns-clause-given_up : goal.returns-clause-given_up
returns-clause-given_up g c = λ size retry station ring stops front f rest v l e m. is_given_up size retry station ring stops front f rest v l e m
