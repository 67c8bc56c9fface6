use Rattle.std.proofs.Common.{◌≡◌, ◌≤◌, true, sym, subst}
use Rattle.protocol_models.specs.CoeOctets.{coe_mail_heard}
use Rattle.coe_client.specs.Talk.{Talking, is_sound, is_left, is_paced}
use Rattle.coe_client.specs.Hear.{Heard, TookIs}
use Rattle.coe_client.proofs.TookIs.{took_is}
use Rattle.coe_client.proofs.client.CoeClient.take.Goals as goal

pub returns : goal.returns
returns c =
    let least : 64 ≤ c.args.self.now.room = subst (λ (t : Talking). 64 ≤ t.room) c.self.view_is c.self.invariant.0 in
    let sound : is_sound c.args.self.now.awaits c.args.self.now.value ≡ true =
    subst (λ (t : Talking). is_sound t.awaits t.value ≡ true) c.self.view_is c.self.invariant.4 in
    let left : is_left c.args.self.now.unsent c.args.self.now.bytes ≡ true =
    subst (λ (t : Talking). is_left t.unsent t.bytes ≡ true) c.self.view_is c.self.invariant.6 in
    let paced : is_paced c.args.self.now.room c.args.self.now.task c.args.self.now.bytes c.args.self.now.unsent c.args.self.now.quota c.args.self.now.going c.args.self.now.awaits ≡ true =
    subst (λ (t : Talking). is_paced t.room t.task t.bytes t.unsent t.quota t.going t.awaits ≡ true) c.self.view_is c.self.invariant.7 in
    subst (λ (h : Heard). TookIs h.0 c.args.self.now (coe_mail_heard c.args.mail.now) h.1) (sym c.hear_mail.ensures)
    (took_is c.args.self.now least left sound paced (coe_mail_heard c.args.mail.now))
