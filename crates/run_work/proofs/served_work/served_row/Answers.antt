use Rattle.std.proofs.Common.{refl}
use Rattle.run_work.proofs.served_work.served_row.Goals as goal

pub returns : goal.returns
returns c = λ a b k l. (refl, refl)
