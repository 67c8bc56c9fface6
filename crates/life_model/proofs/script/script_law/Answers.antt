-- The lemmas on scripts, at the types of the function.
use Rattle.std.proofs.Common.{filter, ◌∙◌, sym, append-nil, refl}
use Rattle.life_model.specs.Script.{life_started}
use Rattle.life_model.proofs.Scripts
use Rattle.life_model.proofs.script.script_law.Goals as goal

pub returns-clause-begins : goal.returns-clause-begins
returns-clause-begins g c = λ is_scripted scripted state. refl

pub returns-clause-next : goal.returns-clause-next
returns-clause-next g c = λ x acknowledged more passed is_scripted scripted left frame l pick k takes. Scripts.next_script x acknowledged more passed is_scripted scripted left frame l pick l.stand k takes

pub returns-clause-back : goal.returns-clause-back
returns-clause-back g c = λ x acknowledged more passed frame spot news back came l. Scripts.back_same x acknowledged more passed spot l frame news back came l.stand

pub returns-clause-lost : goal.returns-clause-lost
returns-clause-lost g c = λ x acknowledged more passed spot news sent l. Scripts.lost_same x acknowledged more passed spot l news sent l.stand

pub returns-clause-all : goal.returns-clause-all
returns-clause-all g c = λ is_scripted scripted l k. sym (append-nil (filter is_scripted (life_started l))) ∙ k

pub returns-clause-numbered : goal.returns-clause-numbered
returns-clause-numbered g c = λ is_scripted scripted left l k. (left, k)
