use Rattle.std.proofs.Common.{◌≡◌, [], false, subst}
use Rattle.std.specs.Prelude.{◌↔◌, not}
use Rattle.eoe_client.specs.Talk.{Sending, fragments_left}
use Rattle.eoe_client.proofs.Sends.{over_left}
use Rattle.eoe_client.proofs.packet.PacketSender.has_next.Goals as goal

pub returns : goal.returns
returns c = subst (λ (t : Sending). (not c.is_over.result ≡ false) ↔ (fragments_left t.cutting ≡ [])) c.self.view_is (over_left c.self.inside.cutter c.is_over.result c.self.invariant.3 c.is_over.ensures)
