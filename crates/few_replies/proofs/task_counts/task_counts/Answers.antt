use Rattle.few_replies.proofs.OfTasks.{tasks_within}
use Rattle.few_replies.proofs.task_counts.task_counts.Goals as goal

pub returns : goal.returns
returns g c = λ w shape count counted tells.
    tasks_within w.exchange w.lawful w.states w.stated shape count tells counted w.processor w.table w.planned.tells w.plan w.planned w.sides w.accounts w.ring w.frames w.tasked
