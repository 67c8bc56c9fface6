-- A slave's client hears first, from whatever server.
use Rattle.std.proofs.Common.{◌≡◌, ℕ, Bool, true, false, None, List, [], ◌∷◌, ◌++◌, length, refl, sym, ap, ◌∙◌}
use Rattle.std.specs.Prelude.{drop}
use Rattle.idle_slaves.specs.of_exchange_model.Areas.{Areas, AreMailboxes}
use Rattle.idle_slaves.specs.of_exchange_model.Exchange.{given, plain}
use Rattle.idle_slaves.proofs.of_exchange_model.Lists.{prefix_refl}
use Rattle.idle_slaves.specs.of_exchange_model.Refusing.{Refusal, refused_serve}
use Rattle.idle_slaves.specs.of_link_mails.Body.{Body}
use Rattle.idle_slaves.specs.of_slave_model.Hears.{HearsFirst}
use Rattle.idle_slaves.proofs.of_slave_model.HearsDialogues.{at_last, not_none}
use Rattle.idle_slaves.proofs.of_slave_model.HearsForms.{lifted_hears, refusing_hears}
use Rattle.idle_slaves.proofs.of_slave_model.HearsSlaves.{slave_hears}
use Rattle.idle_slaves.specs.of_slave_model.Application.{Parts, ArePartsLawful, station_elements, station_valid}
use Rattle.idle_slaves.specs.of_slave_model.Product.{emission, protocols, refusal, served, side}
use Rattle.idle_slaves.specs.of_slave_model.Profile.{Profile, Protocol, IsProfile, areas_of, serves}
use Rattle.idle_slaves.specs.of_slave_model.Server.{Server, Seat, ServiceOf, heard_by, reseated, seat, told_by}
use Rattle.idle_slaves.proofs.of_slave_model.ProductLaw.{refusals}
use Rattle.idle_slaves.proofs.of_slave_model.Sides.{sized, told_spells}
use Rattle.idle_slaves.proofs.of_slave_model.Stations.{both, elements_law, left_of}
use Rattle.idle_slaves.specs.of_slave_parts.Served.{AreFilesServed, core_of, is_fine, product_whole, protocols_whole, served_whole, side_whole, slave_whole}
use Rattle.idle_slaves.specs.of_slave_parts.SoeServed.{soe_served}
use Rattle.idle_slaves.specs.of_slave_parts.Whole.{gated_whole}
use Rattle.idle_slaves.proofs.of_slave_parts.JoinedLaw.{mine_part, plain_whole, told_part}
use Rattle.idle_slaves.proofs.of_slave_parts.ServedLaw.{kept}
use Rattle.idle_slaves.proofs.of_slave_parts.Sides.{side_of, side_speech}
use Rattle.idle_slaves.proofs.of_slave_parts.SlaveLaw.{client}
use Rattle.idle_slaves.proofs.of_slave_parts.SoeSpelled.{served_spells}
use Rattle.idle_slaves.specs.of_protocol_models.Elements.{Elements, AreLawful}
use Rattle.idle_slaves.specs.of_protocol_models.SoeMails as SoeMails
use Rattle.idle_slaves.specs.of_protocol_models.SoeOctets as SoeOctets
use Rattle.idle_slaves.proofs.of_state_model.FamilyLaw.{plain_given_in}
use Rattle.seen_slaves.proofs.Served.{alone, full_same, heard_same}

-- of elements nothing comes before the last mail, whatever join stood before
module _ {S : Type 0} (o : Elements S) (law : AreLawful o) (areas : Areas) (sizes : AreMailboxes areas) where
  elements_hear : HearsFirst (soe_served o areas)
  elements_hear v q ready valid p [] e hs b more comes = at_last _ p [] _ e refl (prefix_refl _)
  elements_hear v q ready valid p (h ∷ r) e hs b more comes = not_none hs b more (ap (plain SoeMails.is_emission) (sym ((kept o law areas sizes v q).late p h r e).given) ∙ comes)

-- what refuses gives the same in whatever state it is
refused_same : {V M Q R : Type 0} (r : Refusal V M Q R) (v w : V) (ms : List M) → given (refused_serve r) v ms ≡ given (refused_serve r) w ms
refused_same r v w [] = refl
refused_same r v w (m ∷ ms) = ap (λ l. r.gives m ++ l) (refused_same r (refused_serve r v m).0 (refused_serve r w m).0 ms)

module _ {T F I : Type 0} (o : Parts T F I) (law : ArePartsLawful o) (files : AreFilesServed o) (p : Profile) (is : IsProfile p) where
  -- A PROTOCOL THAT SEES NO JOIN is as at a server without one
  by_side : (al : ℕ) (i : Protocol) (j : Server T F I) → seat i (alone o law files p is j) ≡ seat i j → (q : ServiceOf i) → is_fine o p al j ≡ true → (side_whole o p 0 i).speech.valid q ≡ true → (ms r : List Body) → (side_whole o p al i).full (seat i j) q ≡ ms ++ r →
      (hs : List Body) (b : Body) (more : List Body) → plain emission (given (product_whole o p).serve (record { inner = j; state = al }) ms) ≡ hs ++ b ∷ more → drop (length ms) ((side_whole o p 0 i).speech.planned q hs) ≡ []
  by_side al i j same q ready valid ms r e hs b more comes =
      let fine : (protocols o p al).ready (alone o law files p is j) ≡ true = both (station_valid o j.app) true (left_of (station_valid o j.app) _ ready) refl in
      let whole : (side o p al i).full (seat i (alone o law files p is j)) q ≡ ms ++ r =
      full_same o law files p is al i (serves p al i) (seat i (alone o law files p is j)) q ∙ ap (λ (v : Seat T F I i). (side_whole o p al i).full v q) same ∙ e in
      let here : (side_whole o p al i).speech.valid q ≡ true = (client o law files p is).valid al (i, q) ∙ valid in
      ap (λ s. drop (length ms) (s.planned q hs)) (side_speech o p 0 i)
      ∙ slave_hears o law p is (record { inner = alone o law files p is j; state = al }) (i, q) fine (ap (λ s. s.valid q) (sym (side_speech o p 0 i)) ∙ valid) ms r whole hs b more
      (heard_same o law files p is al i j same q ready here ms r e ∙ comes)

  -- elements, served or refused
  elements_by : (al : ℕ) (b : Bool) → HearsFirst (gated_whole b (served_whole o p al Protocol.SoE) (refusal o p al Protocol.SoE))
  elements_by al true = lifted_hears _ (heard_by SoeOctets.soe_mail_heard (SoeMails.other [])) (told_by SoeOctets.soe_mail_written)
      (told_spells _ SoeOctets.soe_mail_heard SoeOctets.soe_mail_written (SoeMails.other []) (served_spells (station_elements o) (elements_law o law) (areas_of p) (sized o law p is al)))
      (elements_hear (station_elements o) (elements_law o law) (areas_of p) (sized o law p is al))
  elements_by al false = λ v q ready valid ms r e hs b more comes.
      (let bare : Seat T F I Protocol.SoE = record v { join = None } in
      refusing_hears (served o p al Protocol.SoE) (refusal o p al Protocol.SoE) (refusals o law p is al Protocol.SoE) bare q (both (station_valid o v.app) true ready refl) valid ms r e hs b more
      (ap (plain (served o p al Protocol.SoE).speech.emission) (refused_same (refusal o p al Protocol.SoE) bare v ms) ∙ comes))

  by_elements : (al : ℕ) (j : Server T F I) (q : ServiceOf Protocol.SoE) → is_fine o p al j ≡ true → (side_whole o p 0 Protocol.SoE).speech.valid q ≡ true → (ms r : List Body) → (side_whole o p al Protocol.SoE).full (seat Protocol.SoE j) q ≡ ms ++ r →
      (hs : List Body) (b : Body) (more : List Body) → plain emission (given (product_whole o p).serve (record { inner = j; state = al }) ms) ≡ hs ++ b ∷ more → drop (length ms) ((side_whole o p 0 Protocol.SoE).speech.planned q hs) ≡ []
  by_elements al j q ready valid ms r e hs b more comes =
      let i = Protocol.SoE in
      let here : (side_whole o p al i).speech.valid q ≡ true = (client o law files p is).valid al (i, q) ∙ valid in
      let one = side_of o law files p is al i in
      let mine = mine_part (slave_whole o p al) (side_whole o p al i) (core_of T F I i) (seat i) (reseated i) one j q ready here ms r e in
      let told = told_part (slave_whole o p al) (side_whole o p al i) (core_of T F I i) (seat i) (reseated i) one j q ready here ms r e in
      let heard : plain emission (given (product_whole o p).serve (record { inner = j; state = al }) ms) ≡ plain (side_whole o p al i).speech.emission (given (side_whole o p al i).serve (seat i j) ms) =
      plain_given_in (protocols_whole o p) (client o law files p is) (record { inner = j; state = al }) ms ∙ plain_whole (slave_whole o p al) (side_whole o p al i) (core_of T F I i) (seat i) (reseated i) one j ms mine told in
      ap (drop (length ms)) (sym ((client o law files p is).planned al (i, q) hs)) ∙ elements_by al (serves p al i) (seat i j) q (one.ready j ready) here ms r e hs b more (sym heard ∙ comes)

  by_protocol : (al : ℕ) (i : Protocol) (j : Server T F I) (q : ServiceOf i) → is_fine o p al j ≡ true → (side_whole o p 0 i).speech.valid q ≡ true → (ms r : List Body) → (side_whole o p al i).full (seat i j) q ≡ ms ++ r →
      (hs : List Body) (b : Body) (more : List Body) → plain emission (given (product_whole o p).serve (record { inner = j; state = al }) ms) ≡ hs ++ b ∷ more → drop (length ms) ((side_whole o p 0 i).speech.planned q hs) ≡ []
  by_protocol al Protocol.CoE j q ready valid ms r e hs b more comes = by_side al Protocol.CoE j refl q ready valid ms r e hs b more comes
  by_protocol al Protocol.FoE j q ready valid ms r e hs b more comes = by_side al Protocol.FoE j refl q ready valid ms r e hs b more comes
  by_protocol al Protocol.SoE j q ready valid ms r e hs b more comes = by_elements al j q ready valid ms r e hs b more comes
  by_protocol al Protocol.EoE j q ready valid ms r e hs b more comes = by_side al Protocol.EoE j refl q ready valid ms r e hs b more comes

  -- OF ITS ONE EXCHANGE
  pub whole_hears : HearsFirst (product_whole o p)
  whole_hears v q ready valid ms r e hs b more comes = by_protocol v.state q.0 v.inner q.1 ready valid ms r e hs b more comes
