-- The lemmas on give-ups, at the types of the function.
use Rattle.life_model.proofs.Gives
use Rattle.life_model.proofs.Lasts.{for_good}
use Rattle.life_model.proofs.tours.gave_law.Goals as goal

pub returns-clause-gives : goal.returns-clause-gives
returns-clause-gives g c = λ size retry station ring t fs none start v. Gives.gave_law size retry station ring t fs none start v

pub returns-clause-for_good : goal.returns-clause-for_good
returns-clause-for_good g c = λ size retry station ring spare gone t fs none start h v e. for_good size retry station ring spare gone t fs none start h v e
