-- The lemmas on answers, at the types of the function.
use Rattle.std.proofs.Common.{[], subst, append-nil}
use Rattle.life_model.proofs.Answered.{all_answers}
use Rattle.life_model.proofs.Opens.{open_answers}
use Rattle.life_model.specs.Answers.{AllAnswers}
use Rattle.life_model.proofs.book_model.answers_law.Goals as goal

pub returns-clause-closed : goal.returns-clause-closed
returns-clause-closed g c = λ w b pace stop end l.
    subst (AllAnswers w.exchange.speech w.more w.spot pace b.gave w.frames stop) (append-nil b.epochs)
    (all_answers w.exchange w.lawful w.states w.stated w.processor w.table w.cleared w.more w.spot w.frames b.gave pace stop [] end [] [] b.first b.epochs l tt)

pub returns-clause-open_now : goal.returns-clause-open_now
returns-clause-open_now g c = λ w b pace l. open_answers w.exchange w.lawful w.states w.stated w.processor w.table w.cleared w.more w.spot w.frames b.gave b pace l
