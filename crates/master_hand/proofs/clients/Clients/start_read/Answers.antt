use Rattle.std.proofs.Common.{ℕ, List, subst}
use Rattle.eoe_client.specs.of_protocol_models.FoeMeaning as FoeMeaning
use Rattle.master_hand.specs.Spoken.{file}
use Rattle.master_hand.specs.Talk.{Talking, Starts}
use Rattle.master_hand.specs.declared.clients.Which.{Which}
use Rattle.master_hand.specs.contracts.clients.Clients.{the_view}
use Rattle.master_hand.proofs.Protocols.{read_starts}
use Rattle.master_hand.proofs.clients.Clients.start_read.Goals as goal

pub returns-clause-starts : goal.returns-clause-starts
returns-clause-starts c =
    subst (λ (t : Talking). Starts t.areas (file (FoeMeaning.read c.args.name.now.items c.args.pass)) Which.ReadFile (record (the_view c.self.inside) { file = c.start_read.new.self })) c.self.view_is
    (subst (λ (name : List ℕ). Starts (the_view c.self.inside).areas (file (FoeMeaning.read name c.args.pass)) Which.ReadFile (record (the_view c.self.inside) { file = c.start_read.new.self })) c.as_slice.ensures.value
    (read_starts (the_view c.self.inside) c.start_read.new.self c.as_slice.result.now c.args.pass c.start_read.ensures.replies c.start_read.ensures.mails c.self.invariant.3))
