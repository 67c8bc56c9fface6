-- The lemmas on outcomes, at the types of the function.
use Rattle.std.proofs.Common.{[], ap}
use Rattle.std.specs.Prelude.{length}
use Rattle.segment_model.specs.Record.{first_end}
use Rattle.segment_model.specs.Ends.{ends}
use Rattle.segment_model.proofs.Answers.{news_from-none, outcome-push}
use Rattle.segment_model.proofs.laws.outcome_law.Goals as goal

pub returns-clause-begins : goal.returns-clause-begins
returns-clause-begins g c = λ x more task station fs. ap (first_end (ends x.speech more task) (length fs) []) (news_from-none station fs)

pub returns-clause-grows : goal.returns-clause-grows
returns-clause-grows g c = λ x more task station frame fs f le. outcome-push (ends x.speech more task) station frame fs f le
