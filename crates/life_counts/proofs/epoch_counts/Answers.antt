use Rattle.life_counts.proofs.Epoch.{epoch_within}
use Rattle.life_counts.proofs.epoch_counts.Goals as goal

pub returns : goal.returns
returns g c = λ w shape count counted tells. epoch_within w shape count counted tells
