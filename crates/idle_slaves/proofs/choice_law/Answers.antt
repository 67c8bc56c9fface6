use Rattle.idle_slaves.proofs.Taken.{row_stays}
use Rattle.idle_slaves.proofs.choice_law.Goals as goal

pub returns : goal.returns
returns g c = λ x acknowledged more passed frame l pick n row. row_stays x acknowledged more passed frame l pick n row
