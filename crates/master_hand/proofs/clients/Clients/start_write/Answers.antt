use Rattle.std.proofs.Common.{ℕ, List, subst}
use Rattle.eoe_client.specs.of_protocol_models.FoeMeaning as FoeMeaning
use Rattle.master_hand.specs.Spoken.{file}
use Rattle.master_hand.specs.Talk.{Talking, Starts}
use Rattle.master_hand.specs.declared.clients.Which.{Which}
use Rattle.master_hand.specs.contracts.clients.Clients.{the_view}
use Rattle.master_hand.proofs.Protocols.{write_starts}
use Rattle.master_hand.proofs.clients.Clients.start_write.Goals as goal

pub returns-clause-starts : goal.returns-clause-starts
returns-clause-starts c =
    subst (λ (t : Talking). Starts t.areas (file (FoeMeaning.write c.args.name.now.items c.args.pass c.args.bytes.now)) Which.WriteFile (record (the_view c.self.inside) { file = c.start_write.new.self })) c.self.view_is
    (subst (λ (name : List ℕ). Starts (the_view c.self.inside).areas (file (FoeMeaning.write name c.args.pass c.args.bytes.now)) Which.WriteFile (record (the_view c.self.inside) { file = c.start_write.new.self })) c.as_slice.ensures.value
    (write_starts (the_view c.self.inside) c.start_write.new.self c.as_slice.result.now c.args.pass c.args.bytes.now c.start_write.ensures.replies c.start_write.ensures.mails c.self.invariant.3))
