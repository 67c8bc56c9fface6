use Rattle.served_places.proofs.Hears.{behind_heard, behind_over}
use Rattle.served_places.proofs.Next.{next_heard}
use Rattle.served_places.proofs.kept_rows.heard_law.Goals as goal

pub returns-clause-next : goal.returns-clause-next
returns-clause-next c = λ lens made ds w v t. next_heard lens made ds w v t

pub returns-clause-behind : goal.returns-clause-behind
returns-clause-behind c = λ lens recover retry gives made f v had free quiet. behind_heard lens recover retry gives made f v had free quiet

pub returns-clause-over : goal.returns-clause-over
returns-clause-over c = λ lens recover retry gives made f v. behind_over lens recover retry gives made f v
