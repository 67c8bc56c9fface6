use Rattle.std.proofs.Common.{◌≡◌, ◌≤◌, ◌==◌, true, false, refl, sym, ap, ◌∙◌, subst, ne_eqb}
use Rattle.coe_client.specs.Talk.{Talking, is_left}
use Rattle.coe_client.specs.Send.{Sent, send, send_next, NextIs}
use Rattle.coe_client.proofs.Sends.{next_is}
use Rattle.coe_client.proofs.client.CoeClient.next_message.Goals as goal

pub returns-clause-next : goal.returns-clause-next
returns-clause-next c =
    let n = c.args.self.now in
    let least : 64 ≤ n.room = subst (λ (t : Talking). 64 ≤ t.room) c.self.view_is c.self.invariant.0 in
    let left : is_left n.unsent n.bytes ≡ true = subst (λ (t : Talking). is_left t.unsent t.bytes ≡ true) c.self.view_is c.self.invariant.6 in
    let some : (n.quota == 0) ≡ false = ne_eqb n.quota 0 (λ e. c.if-self-eq0.false (ap (λ (t : Talking). t.quota) c.self.view_is ∙ e)) in
    let goes : send_next n ≡ send n n.unsent = rw some refl in
    subst (λ (s : Sent). NextIs s.0 n s.1) (goes ∙ sym c.send.ensures.sends) (next_is n least left)
