-- The lemmas on epochs in a book, at the types of the function.
use Rattle.state_model.specs.Promise.{TasksPromised, TasksRestIf}
use Rattle.state_model.proofs.Sessions.{tasks_promised, tasks_rest}
use Rattle.life_model.specs.Eras.{frames_of}
use Rattle.life_model.proofs.Eras.{session_of, of_one}
use Rattle.life_model.proofs.Books.{epoch_done}
use Rattle.life_model.proofs.Rests.{epoch_rests}
use Rattle.life_model.proofs.book.book_law.Goals as goal

pub returns-clause-epoch : goal.returns-clause-epoch
returns-clause-epoch g c = λ w cleared more forgets rs tail started none is follows al.
    let p = session_of w in
    let promised = of_one w (λ station start d a n. TasksPromised w.exchange w.states (w.table station) more (frames_of w) station start d a n)
    (tasks_promised p.exchange p.lawful p.states p.stated p.processor p.table more p.planned.tells p.plan p.planned p.sides p.accounts p.ring p.frames p.tasked) in
    epoch_done w cleared more forgets rs tail started none is promised follows al

pub returns-clause-rests : goal.returns-clause-rests
returns-clause-rests g c = λ w cleared more none settled wants hand follows al.
    let p = session_of w in
    let rests = of_one w (λ station start d a n. TasksRestIf w.exchange w.states (w.table station) more (frames_of w) station start d a n)
    (tasks_rest p.exchange p.lawful p.states p.stated p.processor p.table more p.planned.tells p.plan p.planned p.sides p.accounts p.ring p.frames p.tasked) in
    epoch_rests w cleared more none (rests settled wants hand) follows al
