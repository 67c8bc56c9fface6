use Rattle.plan_ring.proofs.NamedAlike.{free_alike, free_back, left_alike, answered_alike}
use Rattle.plan_ring.proofs.named_waits.alike_rows_law.Goals as goal

pub returns-clause-free : goal.returns-clause-free
returns-clause-free g c = λ is y z same d acknowledged row. (free_alike is y z same d acknowledged row, free_back is y z same d acknowledged row)

pub returns-clause-left : goal.returns-clause-left
returns-clause-left g c = λ is y z same d row none. left_alike is y z same d row none

pub returns-clause-answered : goal.returns-clause-answered
returns-clause-answered g c = λ is y z same d row said. answered_alike is y z same d row said
