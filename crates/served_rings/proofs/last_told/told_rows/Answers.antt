use Rattle.std.proofs.Common.{refl}
use Rattle.served_rings.proofs.last_told.told_rows.Goals as goal

pub returns-clause-information : goal.returns-clause-information
returns-clause-information c = refl

pub returns-clause-fragments : goal.returns-clause-fragments
returns-clause-fragments c = refl

pub returns-clause-none : goal.returns-clause-none
returns-clause-none c = refl
