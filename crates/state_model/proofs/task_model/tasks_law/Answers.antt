-- The lemmas on sessions with accounts, at the types of the function.
use Rattle.std.proofs.Common.{false}
use Rattle.state_model.proofs.Splits.{tasked_bound}
use Rattle.state_model.proofs.Sessions.{tasks_promised, tasks_rest, tasks_answered, tasks_handed, tasks_counted, tasks_past, tasks_ended, tasks_done, tasks_steady}
use Rattle.state_model.proofs.task_model.tasks_law.Goals as goal

pub returns-clause-promised : goal.returns-clause-promised
returns-clause-promised g c = λ w more. tasks_promised w.exchange w.lawful w.states w.stated w.processor w.table more w.planned.tells w.plan w.planned w.sides w.accounts w.ring w.frames w.tasked

pub returns-clause-answered : goal.returns-clause-answered
returns-clause-answered g c = λ w more. tasks_answered w.exchange w.lawful w.states w.stated w.processor w.table more w.planned.tells w.plan w.planned w.sides w.accounts w.ring w.frames w.tasked

pub returns-clause-handed : goal.returns-clause-handed
returns-clause-handed g c = λ w more. tasks_handed w.exchange w.lawful w.states w.stated w.processor w.table more w.planned.tells w.plan w.planned w.sides w.accounts w.ring w.frames w.tasked

pub returns-clause-counters : goal.returns-clause-counters
returns-clause-counters g c = λ w. tasks_counted w.exchange w.lawful w.states w.stated w.processor w.table (λ m. false) w.planned.tells w.plan w.planned w.sides w.accounts w.ring w.frames w.tasked

pub returns-clause-in_doubt : goal.returns-clause-in_doubt
returns-clause-in_doubt g c = λ w more. tasks_past w.exchange w.lawful w.states w.stated w.processor w.table more w.planned.tells w.plan w.planned w.sides w.accounts w.ring w.frames w.tasked

pub returns-clause-none_in_doubt : goal.returns-clause-none_in_doubt
returns-clause-none_in_doubt g c = λ w more. tasks_ended w.exchange w.lawful w.states w.stated w.processor w.table more w.planned.tells w.plan w.planned w.sides w.accounts w.ring w.frames w.tasked

pub returns-clause-rests : goal.returns-clause-rests
returns-clause-rests g c = λ w more. tasks_rest w.exchange w.lawful w.states w.stated w.processor w.table more w.planned.tells w.plan w.planned w.sides w.accounts w.ring w.frames w.tasked

pub returns-clause-done : goal.returns-clause-done
returns-clause-done g c = λ w more scripted. tasks_done w.exchange w.lawful w.states w.stated w.processor w.table more w.planned.tells w.plan w.planned w.sides w.accounts w.ring w.frames w.tasked scripted

pub returns-clause-steady : goal.returns-clause-steady
returns-clause-steady g c = λ w. tasks_steady w.exchange w.lawful w.states w.stated w.processor w.table (λ m. false) w.planned.tells w.plan w.planned w.sides w.accounts w.ring w.frames w.tasked

pub returns-clause-mails : goal.returns-clause-mails
returns-clause-mails g c = λ x s processor ps ds accounts ns fs b. tasked_bound x s.acknowledged processor ps ds accounts ns fs b
