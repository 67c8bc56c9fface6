-- The one exchange of a session keeps the laws.
use Rattle.std.proofs.Common.{◌≡◌, ℕ, refl, sym, ap, ◌∙◌}
use Rattle.protocol_models.specs.of_exchange_model.Exchange.{IsLawful}
use Rattle.protocol_models.specs.of_exchange_model.Refusing.{IsRefusal}
use Rattle.protocol_models.proofs.of_exchange_model.RefusingLaw.{gated_law}
use Rattle.life_model.specs.of_state_model.Families.{AreOneClient}
use Rattle.life_model.proofs.of_state_model.FamilyLaw.{family_law}
use Rattle.slave_model.specs.Profile.{Protocol, Profile, IsProfile, serves}
use Rattle.slave_model.specs.Application.{Parts, ArePartsLawful}
use Rattle.slave_model.specs.Product.{served, refusal, side, protocols, product}
use Rattle.slave_model.proofs.Sides.{served_law}
use Rattle.slave_model.proofs.Joint.{protocols_law, gated_speech}
use Rattle.slave_model.proofs.Own.{are_own}
use Rattle.slave_model.proofs.Refused.{coe_refusal, foe_refusal, soe_refusal, eoe_refusal, soe_told_of, eoe_told_of}

module _ {T F I : Type 0} (o : Parts T F I) where
  served_speech : (p : Profile) (al : ℕ) (i : Protocol) → (served o p al i).speech ≡ (served o p 0 i).speech
  served_speech p al Protocol.CoE = refl
  served_speech p al Protocol.FoE = refl
  served_speech p al Protocol.SoE = refl
  served_speech p al Protocol.EoE = refl

  -- a client speaks the same in each AL state
  side_speech : (p : Profile) (al : ℕ) (i : Protocol) → (side o p al i).speech ≡ (side o p 0 i).speech
  side_speech p al i = gated_speech (served o p al i) (refusal o p al i) (serves p al i) ∙ served_speech p al i ∙ sym (gated_speech (served o p 0 i) (refusal o p 0 i) (serves p 0 i))

  module _ (law : ArePartsLawful o) where
    pub refusals : (p : Profile) → IsProfile p → (al : ℕ) (i : Protocol) → IsRefusal (served o p al i) (refusal o p al i)
    refusals p is al Protocol.CoE = coe_refusal o law p is al
    refusals p is al Protocol.FoE = foe_refusal o law p is al
    refusals p is al Protocol.SoE = soe_refusal o law p is al (soe_told_of p is)
    refusals p is al Protocol.EoE = eoe_refusal o law p is al (eoe_told_of p is)

    pub all_protocols : (p : Profile) → IsProfile p → (al : ℕ) → IsLawful (protocols o p al)
    all_protocols p is al = protocols_law o p al (are_own o law p is al) (λ i. gated_law (served o p al i) (refusal o p al i) (served_law o law p is al i) (refusals p is al i) (serves p al i))

    module _ (p : Profile) (is : IsProfile p) where
      pub one_client : AreOneClient (protocols o p)
      one_client = record {
        emission = λ al m. refl;
        valid = λ al q. ap (λ s. s.valid q.1) (side_speech p al q.0);
        planned = λ al q hs. ap (λ s. s.planned q.1 hs) (side_speech p al q.0);
        ends = λ al q hs. ap (λ s. s.ends q.1 hs) (side_speech p al q.0);
        handed = λ al q. ap (λ s. s.handed q.1) (side_speech p al q.0);
      }

      pub product_law : IsLawful (product o p)
      product_law = family_law (protocols o p) one_client (all_protocols p is)
