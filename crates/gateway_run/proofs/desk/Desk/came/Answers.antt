use Rattle.std.proofs.Common.{[], sym, subst}
use Rattle.run_record.specs.of_master_node.declared.event.Event.TheVariants as events
use Rattle.run_record.specs.of_master_node.declared.event.Origin.{Origin}
use Rattle.gateway_run.specs.Account.{left_by}
use Rattle.gateway_run.specs.Desk.{Tells}
use Rattle.gateway_run.proofs.Accounts.{owes_none}
use Rattle.gateway_run.proofs.desk.Desk.came.Goals as goal

pub returns-in-Gateway : goal.returns-in-Gateway
returns-in-Gateway c =
    let d = c.args.self.now in
    subst (λ (o : Origin). Tells (left_by (events.Began c.args.slave o) d.requests.items) [] d c.begin.new.self) (sym c.in-Gateway.is)
    (λ heard s. record { sound = c.begin.ensures.sound heard s; requests = c.begin.ensures.requests; owes = owes_none heard d.outbox.items c.begin.new.self.outbox.items c.begin.ensures.outbox })
