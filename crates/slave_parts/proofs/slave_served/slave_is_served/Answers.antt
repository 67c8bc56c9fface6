use Rattle.std.proofs.Common.{refl}
use Rattle.slave_parts.proofs.SlaveLaw.{product_served}
use Rattle.slave_parts.proofs.StatesLaw.{product_stated}
use Rattle.slave_parts.proofs.slave_served.slave_is_served.Goals as goal

pub returns-clause-served : goal.returns-clause-served
returns-clause-served g c = λ o law files p is. product_served o law files p is

pub returns-clause-same : goal.returns-clause-same
returns-clause-same g c = λ o p. (refl, refl)

pub returns-clause-stated : goal.returns-clause-stated
returns-clause-stated g c = λ o law files p is. product_stated o law files p is
