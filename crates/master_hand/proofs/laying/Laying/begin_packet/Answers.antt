use Rattle.std.proofs.Common.{◌≡◌, true, ap, ◌∙◌, subst}
use Rattle.master_hand.specs.Talk.{is_askable}
use Rattle.master_hand.specs.Laying.{Waiting, ready_by}
use Rattle.master_hand.specs.declared.laying.Laid.{Laid}
use Rattle.master_hand.proofs.Protocols.{packet_valid}
use Rattle.master_hand.proofs.laying.Laying.begin_packet.Goals as goal

pub returns-clause-askable : goal.returns-clause-askable
returns-clause-askable c =
    ap (λ (l : Laid). is_askable c.args.self.now.areas (ready_by l c.args.self.now)) c.requires.laid
    ∙ subst (λ (w : Waiting). is_askable w.areas (ready_by Laid.Packet w) ≡ true) c.self.view_is
    (packet_valid c.self.inside.packet.items c.self.inside.frame c.self.invariant.2 c.self.invariant.3 c.self.invariant.4)
