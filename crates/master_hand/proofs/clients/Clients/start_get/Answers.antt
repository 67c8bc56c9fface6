use Rattle.std.proofs.Common.{subst}
use Rattle.eoe_client.specs.of_protocol_models.SoeClient as SoeClient
use Rattle.eoe_client.specs.of_protocol_models.Elements.{target}
use Rattle.master_hand.specs.Spoken.{drive}
use Rattle.master_hand.specs.Talk.{Talking, Starts}
use Rattle.master_hand.specs.declared.clients.Which.{Which}
use Rattle.master_hand.specs.contracts.clients.Clients.{the_view}
use Rattle.master_hand.proofs.Protocols.{drive_starts}
use Rattle.master_hand.proofs.clients.Clients.start_get.Goals as goal

pub returns-clause-starts : goal.returns-clause-starts
returns-clause-starts c =
    subst (λ (t : Talking). Starts t.areas (drive (SoeClient.read (target c.args.number c.args.idn c.args.elements))) Which.Soe (record (the_view c.self.inside) { drive = c.start_read.new.self })) c.self.view_is
    (drive_starts (the_view c.self.inside) c.start_read.new.self (SoeClient.read (target c.args.number c.args.idn c.args.elements)) c.start_read.ensures.replies c.start_read.ensures.mails c.self.invariant.4)
