use Rattle.idle_slaves.proofs.Going.{goes_so}
use Rattle.idle_slaves.proofs.going_law.Goals as goal

pub returns : goal.returns
returns g c = λ table x acknowledged more passed number back a u r t k i. goes_so table x acknowledged more passed number back a u r t k i
