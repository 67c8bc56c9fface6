use Rattle.slave_model.proofs.Laws.{nothing}
use Rattle.slave_model.proofs.answered_rows.free_law.Goals as goal

pub returns : goal.returns
returns g c = λ x s processor table spot e opened last fs v r slave law stated never is. nothing x s processor table spot e opened last fs v r slave law stated is never
