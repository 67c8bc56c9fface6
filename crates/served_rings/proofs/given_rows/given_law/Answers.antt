use Rattle.served_rings.proofs.Given.{given_at, life_given}
use Rattle.served_rings.proofs.given_rows.given_law.Goals as goal

pub returns-clause-all : goal.returns-clause-all
returns-clause-all c = λ p boot station start first l n d. life_given p boot station start first l n d

pub returns-clause-at : goal.returns-clause-at
returns-clause-at c = λ p boot station gs ps rs all i r is. given_at p boot station gs ps rs all i r is
