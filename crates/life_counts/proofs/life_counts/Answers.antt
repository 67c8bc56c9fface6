use Rattle.life_counts.proofs.Whole.{life_gains}
use Rattle.life_counts.proofs.life_counts.Goals as goal

pub returns : goal.returns
returns g c = λ w cl p spot first l fs n shape count whole lived unopened keeps. life_gains w cl p spot first l fs n shape count whole lived unopened keeps
