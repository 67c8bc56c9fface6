-- A service's reply comes for its last mail, and not before.
use Rattle.std.proofs.Common.{false, [], ◌∷◌, refl, sym, ap, ◌∙◌}
use Rattle.exchange_model.specs.Areas.{Areas, AreMailboxes}
use Rattle.exchange_model.specs.Exchange.{AnswersLast, plain}
use Rattle.exchange_model.proofs.Lasts.{lifted_last}
use Rattle.protocol_models.specs.Elements.{Elements, AreLawful}
use Rattle.protocol_models.specs.SoeMails.{is_emission}
use Rattle.protocol_models.specs.SoeClient.{ends}
use Rattle.protocol_models.specs.SoeModel.{soe_exchange}
use Rattle.protocol_models.specs.SoeOctets.{soe_mail_heard, soe_mail_written, soe_mail_exchange}
use Rattle.protocol_models.proofs.SoeLaw.{soe_law, kept}
use Rattle.protocol_models.proofs.SoeSpelled.{soe_spells}

module _ {S : Type 0} (o : Elements S) (law : AreLawful o) (areas : Areas) (sized : AreMailboxes areas) where
  pub soe_last : AnswersLast (soe_exchange o areas) (λ q. false)
  soe_last v q ready valid answers quiet p [] e same = refl
  soe_last v q ready valid answers quiet p (h ∷ r) e same =
      let l = soe_law o law areas sized in
      let idle = (kept o law areas sized v q ready valid).late p h r e in
      let whole = l.replied v q ready valid refl in
      let begun = ap (ends q) (ap (plain is_emission) (sym idle.given) ∙ same) ∙ whole in
      let none = l.none q in
      absurd (cc)

  pub soe_mail_last : AnswersLast (soe_mail_exchange o areas) (λ q. false)
  soe_mail_last = lifted_last (soe_exchange o areas) soe_mail_heard soe_mail_written (soe_spells o law areas sized) (λ q. false) soe_last
