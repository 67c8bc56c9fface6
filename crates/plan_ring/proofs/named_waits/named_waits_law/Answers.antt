use Rattle.plan_ring.proofs.NamedNames.{named_never}
use Rattle.plan_ring.proofs.named_waits.named_waits_law.Goals as goal

pub returns : goal.returns
returns g c = λ x n y agrees never. named_never x n y agrees never
