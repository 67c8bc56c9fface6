use Rattle.idle_slaves.proofs.Rings.{some_or_spent, all_stay, begins_waiting}
use Rattle.idle_slaves.proofs.ring_law.Goals as goal

pub returns-clause-begins : goal.returns-clause-begins
returns-clause-begins g c = λ v l n w q m agrees shows repaired. begins_waiting v l n w q m agrees shows repaired

pub returns-clause-some : goal.returns-clause-some
returns-clause-some g c = λ x acknowledged more passed number back ss clocked us ts all. some_or_spent x acknowledged more passed number back ss clocked us ts all

pub returns-clause-stay : goal.returns-clause-stay
returns-clause-stay g c = λ x acknowledged more passed number back ss clocked us ts all. all_stay x acknowledged more passed number back ss clocked us ts all
