use Rattle.seen_slaves.proofs.Told.{none_sent, none_waits}
use Rattle.seen_slaves.proofs.spent_rows.told_rows.Goals as goal

pub returns : goal.returns
returns g c = λ x more passed e plans passes told free none. (none_waits x more passed e plans passes told free none, none_sent x more passed e plans passes told free none)
