use Rattle.std.proofs.Common.{◌≡◌, true, sym, subst}
use Rattle.protocol_models.specs.FoeOctets.{foe_mail_heard}
use Rattle.foe_client.specs.Talk.{Talking, is_sound, is_next}
use Rattle.foe_client.specs.Hear.{Heard, TookIs}
use Rattle.foe_client.proofs.TookIs.{took_is}
use Rattle.foe_client.proofs.client.FoeClient.take.Goals as goal

pub returns : goal.returns
returns c =
    let sound : is_sound c.args.self.now.awaits c.args.self.now.value ≡ true =
    subst (λ (t : Talking). is_sound t.awaits t.value ≡ true) c.self.view_is c.self.invariant.6 in
    let next : is_next c.args.self.now.unsent c.args.self.now.quota c.args.self.now.awaits ≡ true =
    subst (λ (t : Talking). is_next t.unsent t.quota t.awaits ≡ true) c.self.view_is c.self.invariant.9 in
    subst (λ (h : Heard). TookIs h.0 c.args.self.now (foe_mail_heard c.args.mail.now) h.1) (sym c.hear_mail.ensures)
    (took_is c.args.self.now sound next (foe_mail_heard c.args.mail.now))
