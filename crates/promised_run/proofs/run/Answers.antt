use Rattle.run_promises.specs.of_life_runs.First.{first_leads, lens_of}
use Rattle.promised_run.proofs.Bounded.{bounded}
use Rattle.promised_run.proofs.Overs.{promised}
use Rattle.run_promises.proofs.Known.{known}
use Rattle.promised_run.proofs.run.Goals as goal

pub returns-clause-promise : goal.returns-clause-promise
returns-clause-promise c =
    let plan = c.args.plan.now in
    promised plan c.run.new.book c.run.result c.requires.plan (known plan c.requires.told) c.served_replies_law.ensures
    (c.run_served_law.ensures (lens_of plan.slaves) plan.recover plan.retry plan.paces (first_leads plan)) c.whole_packets_law.ensures.whole c.whole_packets_law.ensures.long c.accepted_law.ensures.runs (c.plan_due_law.ensures plan c.requires.plan (known plan c.requires.told)) (c.read_promise_law.ensures plan c.requires.plan c.requires.told) (c.script_run_law.ensures plan) (c.epochs_law.ensures.states (lens_of plan.slaves) plan plan.retry) (c.rest_promise_law.ensures.rests plan) (c.rest_promise_law.ensures.done plan) c.run.ensures.frames c.run.ensures.ends c.run.ensures.ending c.run.ensures.led

pub returns-clause-bounded : goal.returns-clause-bounded
returns-clause-bounded c =
    let plan = c.args.plan.now in
    bounded plan c.run.new.book c.run.result
    (λ ending led memory. c.fewer_law.ensures plan c.run.new.book ending c.requires.plan (known plan c.requires.told) (c.room_law.ensures.told plan c.requires.plan c.requires.told) c.run.ensures.frames led memory)
    c.run.ensures.frames c.run.ensures.ends c.run.ensures.ending c.run.ensures.led
