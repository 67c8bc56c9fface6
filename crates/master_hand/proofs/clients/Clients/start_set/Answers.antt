use Rattle.std.proofs.Common.{◌≡◌, Bool, false, Option, Some, None, sym, ap, subst, nat_lt, length, ◌+◌, arith}
use Rattle.std.specs.Prelude.{if◌then◌else◌}
use Rattle.eoe_client.specs.of_protocol_models.EoeClient as EoeClient
use Rattle.master_hand.specs.Spoken.{Asked, net}
use Rattle.master_hand.specs.Talk.{Talking, Begins, asked_set}
use Rattle.master_hand.specs.declared.clients.Which.{Which}
use Rattle.master_hand.specs.contracts.clients.Clients.{the_view}
use Rattle.master_hand.proofs.Protocols.{set_begins}
use Rattle.master_hand.proofs.clients.Clients.start_set.Goals as goal

pub returns-clause-begins : goal.returns-clause-begins
returns-clause-begins c =
    let long : nat_lt c.self.inside.out_len (length c.args.block.now + 10) ≡ false = grind (arith, c.if-block-self.false) in
    let asked : asked_set c.self.inside.out_len c.args.block.now ≡ Some (net (EoeClient.set_ip c.args.block.now)) = ap (λ (b : Bool). if b then None else Some (net (EoeClient.set_ip c.args.block.now))) long in
    subst (λ (t : Talking). Begins (Some Which.Address) (asked_set t.areas.out c.args.block.now) t (record (the_view c.self.inside) { address = c.start_set.new.self })) c.self.view_is
    (subst (λ (o : Option Asked). Begins (Some Which.Address) o (the_view c.self.inside) (record (the_view c.self.inside) { address = c.start_set.new.self })) (sym asked)
    (set_begins (the_view c.self.inside) c.start_set.new.self c.args.block.now c.start_set.ensures.replies c.start_set.ensures.mails))
