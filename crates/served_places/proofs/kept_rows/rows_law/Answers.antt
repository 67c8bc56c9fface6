use Rattle.served_places.proofs.Next.{next_stays}
use Rattle.served_places.proofs.Behind.{behind_stays}
use Rattle.served_places.proofs.kept_rows.rows_law.Goals as goal

pub returns-clause-next : goal.returns-clause-next
returns-clause-next c = λ lens made ds w v t. next_stays lens made ds w v t

pub returns-clause-behind : goal.returns-clause-behind
returns-clause-behind c = λ lens recover retry gives made f v. behind_stays lens recover retry gives made f v
