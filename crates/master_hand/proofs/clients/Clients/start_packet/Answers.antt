use Rattle.std.proofs.Common.{subst}
use Rattle.master_hand.specs.Spoken.{net}
use Rattle.eoe_client.specs.of_protocol_models.EoeClient as EoeClient
use Rattle.master_hand.specs.Talk.{Talking, Starts}
use Rattle.master_hand.specs.declared.clients.Which.{Which}
use Rattle.master_hand.specs.contracts.clients.Clients.{the_view}
use Rattle.master_hand.proofs.Protocols.{packet_starts}
use Rattle.master_hand.proofs.clients.Clients.start_packet.Goals as goal

pub returns-clause-starts : goal.returns-clause-starts
returns-clause-starts c =
    subst (λ (t : Talking). Starts t.areas (net (EoeClient.packet c.args.packet.now.items c.args.frame)) Which.Packet (record (the_view c.self.inside) { packets = c.start.new.self })) c.self.view_is
    (packet_starts (the_view c.self.inside) c.start.new.self c.args.packet.now.items c.args.frame c.start.ensures.mails c.self.invariant.6)
