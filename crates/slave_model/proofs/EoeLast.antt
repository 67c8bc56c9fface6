-- Each mail of an EoE service brings a reply at last.
use Rattle.std.proofs.Common.{false, [], ◌∷◌, refl, sym, ap, ◌∙◌}
use Rattle.protocol_models.specs.of_exchange_model.Areas.{Areas, AreMailboxes}
use Rattle.protocol_models.specs.of_exchange_model.Exchange.{AnswersLast, plain}
use Rattle.protocol_models.specs.Network as Network
use Rattle.protocol_models.specs.EoeMails as EoeMails
use Rattle.protocol_models.specs.EoeClient as EoeClient
use Rattle.protocol_models.specs.EoeModel as EoeModel
use Rattle.protocol_models.proofs.EoeLaw as EoeLaw

module _ {S : Type 0} (o : Network.Network S) (sound : Network.IsSound o) (areas : Areas) (sized : AreMailboxes areas) where
  pub eoe_last : AnswersLast (EoeModel.eoe_exchange o areas) (λ q. false)
  eoe_last v q ready valid answers quiet p [] e same = refl
  eoe_last v q ready valid answers quiet p (h ∷ r) e same =
      let l = EoeLaw.eoe_law o sound areas sized in
      let idle = (EoeLaw.kept o sound areas sized v q valid).late p h r e in
      let whole = l.replied v q ready valid answers in
      let begun = ap (EoeClient.ends q) (ap (plain EoeMails.is_emission) (sym idle.given) ∙ same) ∙ whole in
      let none = l.none q in
      absurd (cc)
