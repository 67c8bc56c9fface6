use Rattle.promised_run.proofs.Asked.{course_asked, fair_asked, few_asked}
use Rattle.promised_run.proofs.AskedKinds.{course_passed, quiet_asked}
use Rattle.promised_run.proofs.served_books.asked_law.Goals as goal

pub returns-clause-few : goal.returns-clause-few
returns-clause-few c = λ plan count book ending a.
    few_asked a.answers.serving.leading.serves a.session book.grams a.answers.serving.asked (course_asked plan count a.session book.frames book.grams a.requests a.owed a.course)

pub returns-clause-fair : goal.returns-clause-fair
returns-clause-fair c = λ plan count book ending a fair.
    fair_asked a.answers.serving.leading.serves a.session book.grams a.answers.serving.asked (course_asked plan count a.session book.frames book.grams a.requests a.owed a.course) fair

pub returns-clause-quiet : goal.returns-clause-quiet
returns-clause-quiet c = λ plan count book ending a fair.
    quiet_asked a.answers.serving.leading.serves a.session a.answers.serving.asked (course_passed plan count a.session book.frames book.grams a.requests a.owed a.course)
    (fair_asked a.answers.serving.leading.serves a.session book.grams a.answers.serving.asked (course_asked plan count a.session book.frames book.grams a.requests a.owed a.course) fair)
