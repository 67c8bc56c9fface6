use Rattle.slave_model.proofs.Laws.{answered}
use Rattle.slave_model.proofs.answered_rows.answered_law.Goals as goal

pub returns : goal.returns
returns g c = λ x s processor table spot e opened last fs v r slave law stated is. answered x s processor table spot e opened last fs v r slave law stated is
