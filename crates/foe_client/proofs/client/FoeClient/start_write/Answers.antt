use Rattle.std.proofs.Common.{◌≤◌, ℕ, ap, ◌∙◌, subst}
use Rattle.foe_client.specs.declared.state.Unsent.{Unsent}
use Rattle.foe_client.specs.declared.state.Awaits.{Awaits}
use Rattle.foe_client.specs.Talk.{Talking, areas_of, later, begun}
use Rattle.foe_client.proofs.Sends.{starts_write}
use Rattle.foe_client.proofs.client.FoeClient.start_write.Goals as goal

pub returns-clause-mails : goal.returns-clause-mails
returns-clause-mails c = λ hs.
    let least : 64 ≤ c.args.self.now.out = subst (λ (t : Talking). 64 ≤ t.out) c.self.view_is c.self.invariant.0 in
    ap (λ v. later v hs) c.begin.ensures
    ∙ ap (λ (n : ℕ). later (begun (areas_of c.args.self.now) c.args.name.now c.args.pass c.args.bytes.now Unsent.WriteRequest (Awaits.Ack n 0)) hs) c.early_acks.ensures.count
    ∙ starts_write (areas_of c.args.self.now) c.args.pass c.args.name.now c.args.bytes.now hs least
