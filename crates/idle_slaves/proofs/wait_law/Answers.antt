use Rattle.idle_slaves.proofs.Frames.{waits_so, was_spent}
use Rattle.idle_slaves.proofs.wait_law.Goals as goal

pub returns-clause-on : goal.returns-clause-on
returns-clause-on g c = λ v x acknowledged more passed number back a u n m t k i. waits_so v x acknowledged more passed number back a u n m t k i

pub returns-clause-spent : goal.returns-clause-spent
returns-clause-spent g c = λ v x acknowledged more passed number back a u n m t k i two. was_spent v x acknowledged more passed number back a u n m t k i two
