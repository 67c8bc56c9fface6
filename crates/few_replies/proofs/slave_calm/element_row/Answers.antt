use Rattle.std.proofs.Common.{refl}
use Rattle.few_replies.proofs.slave_calm.element_row.Goals as goal

pub returns : goal.returns
returns s = refl
