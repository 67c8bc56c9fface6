-- The lemmas on mails seen otherwise, at the types of the function.
use Rattle.few_replies.proofs.Naturals
use Rattle.few_replies.proofs.passed_model.erased_law.Goals as goal

pub returns-clause-next : goal.returns-clause-next
returns-clause-next g c = λ f n h y x one new frame d choice plan. Naturals.next_side f n h y x one new frame d choice plan

pub returns-clause-back : goal.returns-clause-back
returns-clause-back g c = λ f n h y x frame station back d same. Naturals.back_side f n h y x frame station back d same

pub returns-clause-lost : goal.returns-clause-lost
returns-clause-lost g c = λ f n h station sent d. Naturals.lost_side f n h station sent d

pub returns-clause-news : goal.returns-clause-news
returns-clause-news g c = λ f station kept k. Naturals.frame_of f station kept k

pub returns-clause-counters : goal.returns-clause-counters
returns-clause-counters g c = λ f station kept k. Naturals.kept_of f station kept k

pub returns-clause-record_ : goal.returns-clause-record_
returns-clause-record_ g c = λ f station kept ks. Naturals.each_of f station kept ks
