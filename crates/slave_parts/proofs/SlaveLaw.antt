-- The services of one slave from whatever server, at each AL state.
use Rattle.std.proofs.Common.{ℕ, refl, sym, ap, ◌∙◌}
use Rattle.serving_model.specs.of_state_model.Families.{InState, AreOneClient}
use Rattle.serving_model.specs.Tagged.{IsServed}
use Rattle.slave_parts.proofs.JoinedLaw.{joined_served}
use Rattle.slave_parts.proofs.ServingStatesLaw.{family_served}
use Rattle.slave_model.specs.Profile.{Profile, IsProfile}
use Rattle.slave_model.specs.Application.{Parts, ArePartsLawful}
use Rattle.slave_model.specs.Server.{Server, seat, reseated}
use Rattle.slave_model.proofs.ProductLaw.{all_protocols, one_client}
use Rattle.slave_parts.specs.Served.{core_of, side_whole, slave_whole, protocols_whole, product_whole, AreFilesServed}
use Rattle.slave_parts.proofs.Protocols.{sides_served}
use Rattle.slave_parts.proofs.Sides.{side_of, side_speech}
use Rattle.slave_parts.proofs.Passing.{passes}

module _ {T F I : Type 0} (o : Parts T F I) (law : ArePartsLawful o) (files : AreFilesServed o) (p : Profile) (is : IsProfile p) where
  protocols_served : (al : ℕ) → IsServed (protocols_whole o p al) (λ (j : Server T F I). j.app)
  protocols_served al = joined_served (slave_whole o p al) (side_whole o p al) (core_of T F I) seat reseated (side_of o law files p is al) (sides_served o law files p is al)
      (passes o law files p is al) (all_protocols o law p is al).grows

  -- a client speaks the same in each AL state
  pub client : AreOneClient (protocols_whole o p)
  client =
      let one = one_client o law p is in
      record {
        emission = λ al m. refl;
        valid = λ al q. ap (λ s. s.valid q.1) (side_speech o p al q.0) ∙ one.valid al q ∙ ap (λ s. s.valid q.1) (sym (side_speech o p 0 q.0));
        planned = λ al q hs. ap (λ s. s.planned q.1 hs) (side_speech o p al q.0) ∙ one.planned al q hs ∙ ap (λ s. s.planned q.1 hs) (sym (side_speech o p 0 q.0));
        ends = λ al q hs. ap (λ s. s.ends q.1 hs) (side_speech o p al q.0) ∙ one.ends al q hs ∙ ap (λ s. s.ends q.1 hs) (sym (side_speech o p 0 q.0));
        handed = λ al q. ap (λ s. s.handed q.1) (side_speech o p al q.0) ∙ one.handed al q ∙ ap (λ s. s.handed q.1) (sym (side_speech o p 0 q.0));
      }

  pub product_served : IsServed (product_whole o p) (λ (v : InState (Server T F I)). v.inner.app)
  product_served = family_served (protocols_whole o p) (λ (j : Server T F I). j.app) client protocols_served
