use Rattle.std.proofs.Common.{sym, subst}
use Rattle.std.proofs.lemmas.Result.{on_ok_weaker}
use Rattle.run_record.specs.of_master_node.declared.event.Event.{Event}
use Rattle.gateway_run.specs.Account.{left_by, owed_by}
use Rattle.gateway_run.specs.Desk.{Tells}
use Rattle.gateway_run.proofs.Accounts.{owes_none}
use Rattle.gateway_run.proofs.desk.Desk.note.Goals as goal

pub returns-in-Began : goal.returns-in-Began
returns-in-Began c =
    let d = c.args.self.now in
    subst (λ (e : Event). Tells (left_by e d.requests.items) (owed_by e d.requests.items) d c.came.new.self) (sym c.in-Began.is) c.came.ensures

pub returns-in-GatewayReply : goal.returns-in-GatewayReply
returns-in-GatewayReply c =
    let d = c.args.self.now in
    on_ok_weaker c.replied.result
    (λ told. subst (λ (e : Event). Tells (left_by e d.requests.items) (owed_by e d.requests.items) d c.replied.new.self) (sym c.in-GatewayReply.is) told) c.replied.ensures

pub returns-in-GatewayDone : goal.returns-in-GatewayDone
returns-in-GatewayDone c =
    let d = c.args.self.now in
    subst (λ (e : Event). Tells (left_by e d.requests.items) (owed_by e d.requests.items) d c.finish.new.self) (sym c.in-GatewayDone.is)
    (λ heard s. record { sound = c.finish.ensures.sound heard s; requests = c.finish.ensures.requests; owes = owes_none heard d.outbox.items c.finish.new.self.outbox.items c.finish.ensures.outbox })

pub returns-in-GivenUp : goal.returns-in-GivenUp
returns-in-GivenUp c =
    let d = c.args.self.now in
    on_ok_weaker c.give_up.result
    (λ told. subst (λ (e : Event). Tells (left_by e d.requests.items) (owed_by e d.requests.items) d c.give_up.new.self) (sym c.in-GivenUp.is) told) c.give_up.ensures
