use Rattle.std.proofs.Common.{sym, subst}
use Rattle.protocol_models.specs.of_eoe.Cutting.{Cutting}
use Rattle.protocol_models.specs.of_eoe.View.{fragment_seen}
use Rattle.eoe_client.specs.Talk.{Sending, SendsPart}
use Rattle.eoe_client.proofs.Sends.{part_sent}
use Rattle.eoe_client.proofs.packet.PacketSender.next_mail.Goals as goal

pub returns-clause-sends : goal.returns-clause-sends
returns-clause-sends c =
    subst (λ (t : Sending). SendsPart t c.write_view.new.body.items (record { room = c.self.inside.room; cutting = c.skip.new.self })) c.self.view_is
    (subst (λ (k : Cutting). SendsPart (record { room = c.self.inside.room; cutting = c.self.inside.cutter }) c.write_view.new.body.items (record { room = c.self.inside.room; cutting = k })) (sym c.skip.ensures)
    (part_sent (record { room = c.self.inside.room; cutting = c.self.inside.cutter }) c.write_view.new.body.items (fragment_seen c.in-Some.fragment) c.in-Some.ensures.fragment c.self.invariant.3 c.write_view.ensures.octets))
