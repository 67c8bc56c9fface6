use Rattle.plan_ring.proofs.Epochs.{kept_life}
use Rattle.plan_ring.proofs.kept_lives.kept_life_law.Goals as goal

pub returns : goal.returns
returns g k = λ w c p spot more first l fs n owes lived. kept_life w c p spot owes more fs first l n lived
