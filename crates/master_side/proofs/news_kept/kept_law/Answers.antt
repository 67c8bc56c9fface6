use Rattle.master_side.proofs.Kepts.{new_kept, next_kept, back_kept, lost_kept}
use Rattle.master_side.proofs.news_kept.kept_law.Goals as goal

pub returns-clause-begins : goal.returns-clause-begins
returns-clause-begins g c = new_kept

pub returns-clause-next : goal.returns-clause-next
returns-clause-next g c = λ x frame kept d w k. next_kept x frame kept d w k

pub returns-clause-back : goal.returns-clause-back
returns-clause-back g c = λ x frame station counter octets carried due kept d b k w i. back_kept station kept d b x frame carried due k w

pub returns-clause-lost : goal.returns-clause-lost
returns-clause-lost g c = λ station carried due kept d b k w. lost_kept station kept d b carried due k w
