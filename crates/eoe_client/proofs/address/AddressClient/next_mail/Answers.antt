use Rattle.std.proofs.Common.{ap, ◌∙◌, subst}
use Rattle.protocol_models.specs.of_eoe.Message.{eoe_text}
use Rattle.protocol_models.specs.EoeMails.{SetIp}
use Rattle.eoe_client.specs.declared.address.Unsent.{Unsent}
use Rattle.eoe_client.specs.Talk.{Talking, SendsNext}
use Rattle.eoe_client.proofs.Sends.{set_sent, get_sent}
use Rattle.eoe_client.proofs.address.AddressClient.next_mail.Goals as goal
use Rattle.eoe_client.proofs.address.AddressClient.next_mail.Goals.{in-Set, in-Get}

pub returns-clause-sends : goal.returns-clause-sends
returns-clause-sends c =
    let old : Talking = record { room = c.self.inside.room; block = c.self.inside.block.items; unsent = c.self.inside.unsent; awaits = c.self.inside.awaits; value = c.self.inside.value.items } in
    elim c.match-self.branch [
      | in-Set w ↦ subst (λ (t : Talking). SendsNext t c.match-self.body.items (record old { unsent = Unsent.Nothing })) c.self.view_is
          (set_sent old c.match-self.body.items w.in-Set.is (ap (λ b. b.items) w.body-is ∙ w.write_view.ensures.octets ∙ ap (λ b. eoe_text (SetIp (record { items = b }))) w.as_slice.ensures.value))
      | in-Get w ↦ subst (λ (t : Talking). SendsNext t c.match-self.body.items (record old { unsent = Unsent.Nothing })) c.self.view_is
          (get_sent old c.match-self.body.items w.in-Get.is (ap (λ b. b.items) w.body-is ∙ w.write_view-in-Get.ensures.octets))
    ]
