use Rattle.idle_slaves.proofs.Rows.{over}
use Rattle.idle_slaves.proofs.row_law.Goals as goal

pub returns : goal.returns
returns g c = λ x law never v ready front last now held taken accepted at all heard none answered. over x law never v ready front last now held taken accepted at all heard none answered
