use Rattle.slave_model.proofs.Laws.{heard}
use Rattle.slave_model.proofs.answered_rows.heard_law.Goals as goal

pub returns : goal.returns
returns g c = λ x s processor table spot e opened last fs v r slave law stated never is nothing mails row now. heard x s processor table spot e opened last fs v r slave law stated is never nothing mails row now
