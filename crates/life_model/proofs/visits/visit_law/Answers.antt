use Rattle.life_model.proofs.Twice.{mails_twice, drain_twice}
use Rattle.life_model.proofs.visits.visit_law.Goals as goal

pub returns-clause-mails : goal.returns-clause-mails
returns-clause-mails g c = λ v w paused k a s e z. mails_twice v w paused k a s e z

pub returns-clause-drain : goal.returns-clause-drain
returns-clause-drain g c = λ v w turn k a s e z. drain_twice v w turn k a s e z
