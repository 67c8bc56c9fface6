use Rattle.std.proofs.Common.{◌≡◌, ◌≤◌, true, sym, ap, ◌∙◌, subst}
use Rattle.protocol_models.specs.of_mailbox_mail.declared.mail.Kind.TheVariants.{FoE}
use Rattle.protocol_models.specs.FoeMails.{mail}
use Rattle.protocol_models.specs.FoeOctets.{mail_with}
use Rattle.foe_client.specs.Talk.{Talking, is_left}
use Rattle.foe_client.specs.Send.{message_of, IsNext}
use Rattle.foe_client.proofs.Sends.{next_is}
use Rattle.foe_client.proofs.client.FoeClient.next_mail.Goals as goal

pub returns-clause-sends : goal.returns-clause-sends
returns-clause-sends c =
    let old = c.args.self.now in
    let least : 64 ≤ old.out = subst (λ (t : Talking). 64 ≤ t.out) c.self.view_is c.self.invariant.0 in
    let left : is_left old.unsent old.name old.bytes ≡ true = subst (λ (t : Talking). is_left t.unsent t.name t.bytes ≡ true) c.self.view_is c.self.invariant.7 in
    let some : old.quota ≡ 0 → ⊥ = λ none. c.if-self-eq0.false (ap (λ (t : Talking). t.quota) c.self.view_is ∙ none) in
    let next : IsNext (message_of old old.unsent) old c.send_first.new.self =
    subst (λ (t : Talking). IsNext (message_of old old.unsent) old t) (sym c.send_first.ensures) (next_is old least left some) in
    record {
      next = mail (message_of old old.unsent);
      spelled = ap (mail_with FoE) (sym c.write_first.ensures);
      mails = next.mails;
      areas = next.areas;
    }
