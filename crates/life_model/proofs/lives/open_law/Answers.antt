-- The promises of a session of one slave, at the types of the function.
use Rattle.std.proofs.Common.{false}
use Rattle.state_model.specs.of_segment_model.Laws.{HandedBy, KnowsCounters}
use Rattle.state_model.specs.Promise.{TasksPromised, TasksAnswered, TasksRestIf}
use Rattle.state_model.specs.Books.{TasksPast, TasksEndedIf}
use Rattle.state_model.specs.Steady.{AsksNoInit, IsSteady}
use Rattle.state_model.proofs.Sessions.{tasks_promised, tasks_rest, tasks_answered, tasks_handed, tasks_counted, tasks_past, tasks_ended, tasks_steady}
use Rattle.life_model.specs.Eras.{frames_of}
use Rattle.life_model.proofs.Eras.{session_of, of_one}
use Rattle.life_model.proofs.lives.open_law.Goals as goal

pub returns-clause-promised : goal.returns-clause-promised
returns-clause-promised g c = λ w more.
    let p = session_of w in of_one w (λ station start d a n. TasksPromised w.exchange w.states (w.table station) more (frames_of w) station start d a n)
    (tasks_promised p.exchange p.lawful p.states p.stated p.processor p.table more p.planned.tells p.plan p.planned p.sides p.accounts p.ring p.frames p.tasked)

pub returns-clause-answered : goal.returns-clause-answered
returns-clause-answered g c = λ w more.
    let p = session_of w in of_one w (λ station start d a n. TasksAnswered w.exchange w.states (w.table station) more (frames_of w) station start d a n)
    (tasks_answered p.exchange p.lawful p.states p.stated p.processor p.table more p.planned.tells p.plan p.planned p.sides p.accounts p.ring p.frames p.tasked)

pub returns-clause-handed : goal.returns-clause-handed
returns-clause-handed g c = λ w more.
    let p = session_of w in of_one w (λ station start d a n. HandedBy w.exchange more (frames_of w) station start d n)
    (tasks_handed p.exchange p.lawful p.states p.stated p.processor p.table more p.planned.tells p.plan p.planned p.sides p.accounts p.ring p.frames p.tasked)

pub returns-clause-counters : goal.returns-clause-counters
returns-clause-counters g c = λ w.
    let p = session_of w in of_one w (λ station start d a n. KnowsCounters (frames_of w) station start d n)
    (tasks_counted p.exchange p.lawful p.states p.stated p.processor p.table (λ m. false) p.planned.tells p.plan p.planned p.sides p.accounts p.ring p.frames p.tasked)

pub returns-clause-in_doubt : goal.returns-clause-in_doubt
returns-clause-in_doubt g c = λ w more.
    let p = session_of w in of_one w (λ station start d a n. TasksPast w.exchange more (frames_of w) station start d a n)
    (tasks_past p.exchange p.lawful p.states p.stated p.processor p.table more p.planned.tells p.plan p.planned p.sides p.accounts p.ring p.frames p.tasked)

pub returns-clause-none_in_doubt : goal.returns-clause-none_in_doubt
returns-clause-none_in_doubt g c = λ w more.
    let p = session_of w in of_one w (λ station start d a n. TasksEndedIf w.exchange more (frames_of w) station start d a n)
    (tasks_ended p.exchange p.lawful p.states p.stated p.processor p.table more p.planned.tells p.plan p.planned p.sides p.accounts p.ring p.frames p.tasked)

pub returns-clause-rests : goal.returns-clause-rests
returns-clause-rests g c = λ w more.
    let p = session_of w in of_one w (λ station start d a n. TasksRestIf w.exchange w.states (w.table station) more (frames_of w) station start d a n)
    (tasks_rest p.exchange p.lawful p.states p.stated p.processor p.table more p.planned.tells p.plan p.planned p.sides p.accounts p.ring p.frames p.tasked)

pub returns-clause-steady : goal.returns-clause-steady
returns-clause-steady g c = λ w.
    let p = session_of w in of_one w (λ station start d a n. AsksNoInit w.states (w.exchange.app start) a → IsSteady n)
    (tasks_steady p.exchange p.lawful p.states p.stated p.processor p.table (λ m. false) p.planned.tells p.plan p.planned p.sides p.accounts p.ring p.frames p.tasked)
