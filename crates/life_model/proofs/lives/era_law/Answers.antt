-- The lemmas on epochs, at the types of the function.
use Rattle.life_model.proofs.Eras.{era_begins, era_turns}
use Rattle.life_model.proofs.lives.era_law.Goals as goal

pub returns-clause-begins : goal.returns-clause-begins
returns-clause-begins g c = λ x s processor table spot cleared state opened fs v r is plan answers. era_begins x s processor table spot cleared state opened fs v r is plan answers

pub returns-clause-goes_on : goal.returns-clause-goes_on
returns-clause-goes_on g c = λ x s processor table more passed spot e opened fs v r before n behind at le b pick m news alone asks.
    era_turns x s processor table more passed spot e opened fs v r before n behind at le b pick m news alone asks
