use Rattle.std.proofs.Common.{◌≡◌, ◌-◌, ◌<◌, ◌∷◌, true, Some, sym, ap, ◌∙◌, subst, arith}
use Rattle.protocol_models.specs.of_mailbox_mail.declared.mail.Kind.TheVariants.{CoE}
use Rattle.protocol_models.specs.of_coe_codec.View.{coe_seen}
use Rattle.protocol_models.specs.of_coe_codec.declared.viewing.CoeView.{CoeView}
use Rattle.protocol_models.proofs.of_coe_codec.Only.{read-only}
use Rattle.protocol_models.specs.CoeMails.{mail}
use Rattle.protocol_models.specs.CoeOctets.{heard, mail_with}
use Rattle.coe_client.specs.declared.state.Unsent.{Unsent}
use Rattle.coe_client.specs.Talk.{Talking, later, is_left}
use Rattle.coe_client.specs.Send.{sent_by, send_next}
use Rattle.coe_client.proofs.Paced.{paced_sent}
use Rattle.coe_client.proofs.client.CoeClient.next_mail.Goals as goal

pub invariant_of-self : goal.invariant_of-self
invariant_of-self c =
    let i = c.self.inside in
    let v : CoeView × Unsent = (c.in-Some.message, c.in-Some.behind) in
    let client : Talking = record { room = i.room; task = i.task; bytes = i.bytes.octets; unsent = i.unsent; quota = i.quota; going = i.going; awaits = i.awaits; value = i.value.octets } in
    let sends : sent_by client (Some v) ≡ send_next client = subst (λ (t : Talking). sent_by t (Some v) ≡ send_next t) (sym c.self.view_is) c.in-Some.ensures.sends in
    let may : 0 < i.quota = subst (λ (t : Talking). 0 < t.quota) (sym c.self.view_is) c.in-Some.ensures.some in (
      c.self.invariant.0,
      c.self.invariant.1,
      c.self.invariant.2,
      c.self.invariant.3,
      c.self.invariant.4,
      omega (arith, c.self.invariant.5),
      subst (λ (t : Talking). is_left c.in-Some.behind t.bytes ≡ true) (sym c.self.view_is) c.in-Some.ensures.left,
      paced_sent client c.self.invariant.0 c.self.invariant.6 may v sends i.awaits c.self.invariant.7,
    )

pub returns-clause-sends : goal.returns-clause-sends
returns-clause-sends c =
    let message = coe_seen c.in-Some.message in
    record {
      next = mail message;
      spelled = ap (mail_with CoE) (sym c.write_view.ensures.octets);
      read = ap (heard c.write_view.new.body.items) (read-only c.write_view.new.body.items message c.write_view.ensures.spelled);
      mails = λ hs. c.in-Some.ensures.next.0 hs ∙ ap (λ (t : Talking). mail message ∷ later (record t { unsent = c.in-Some.behind; quota = t.quota - 1 }) hs) (sym c.self.view_is);
      room = ap (λ (t : Talking). t.room) c.self.view_is;
    }
