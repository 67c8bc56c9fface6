-- The lemmas on the client of both, at the types of the function.
use Rattle.std.proofs.Common.{refl}
use Rattle.few_replies.proofs.Clients
use Rattle.few_replies.proofs.passed_model.asked_law.Goals as goal

pub returns-clause-one : goal.returns-clause-one
returns-clause-one g c = λ x more. record { valid = λ q. refl; handed = λ q. refl }

pub returns-clause-plans : goal.returns-clause-plans
returns-clause-plans g c = λ x more q hs by. Clients.plans x more q hs by

pub returns-clause-ends : goal.returns-clause-ends
returns-clause-ends g c = λ x more q hs by marks. Clients.ends x more q hs by marks
