use Rattle.run_book.proofs.Heards as Heards
use Rattle.run_book.proofs.life_heard.emergencies_law.Goals as goal

pub returns-clause-brings : goal.returns-clause-brings
returns-clause-brings c = λ frame back u found is. Heards.brings frame back u found is

pub returns-clause-next : goal.returns-clause-next
returns-clause-next c = λ more k hss us notes n m inside e h noted. Heards.next more k hss us notes n m inside e h noted

pub returns-clause-passes : goal.returns-clause-passes
returns-clause-passes c = λ more k hss us notes few noted. Heards.passes more k hss us notes few noted

pub returns-clause-loses : goal.returns-clause-loses
returns-clause-loses c = λ lens frame after f hss us notes noted. Heards.loses lens frame after f hss us notes noted
