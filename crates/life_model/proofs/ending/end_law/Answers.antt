-- The lemmas on the end of an epoch, at the types of the function.
use Rattle.life_model.proofs.Endings
use Rattle.life_model.proofs.ending.end_law.Goals as goal

pub returns-clause-not_before : goal.returns-clause-not_before
returns-clause-not_before g c = λ after before n behind ds le. Endings.not_before after before n behind ds le

pub returns-clause-stands : goal.returns-clause-stands
returns-clause-stands g c = λ station s ds seen none nay. Endings.stands station s ds seen none nay

pub returns-clause-word : goal.returns-clause-word
returns-clause-word g c = λ station s ds w. Endings.returned station s ds w

pub returns-clause-waits : goal.returns-clause-waits
returns-clause-waits g c = λ station s fs close. Endings.waits station s fs close

pub returns-clause-ends : goal.returns-clause-ends
returns-clause-ends g c = λ w. Endings.ends w.exchange w.processor w.clearing w.sees w.station w.slave w.frame w.later w.returns w.closes w.carries

pub returns-clause-carried : goal.returns-clause-carried
returns-clause-carried g c = λ table r free. Endings.carried table r free
