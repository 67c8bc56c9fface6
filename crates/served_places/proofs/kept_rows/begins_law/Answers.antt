use Rattle.served_places.proofs.Next.{next_free, next_passing}
use Rattle.served_places.proofs.kept_rows.begins_law.Goals as goal

pub returns-clause-free : goal.returns-clause-free
returns-clause-free c = λ lens made ds w v t s e. next_free lens made ds w v t s e

pub returns-clause-passing : goal.returns-clause-passing
returns-clause-passing c = λ lens made ds w v t. next_passing lens made ds w v t
