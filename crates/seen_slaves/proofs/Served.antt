-- A slave's client, from whatever server: what the mails of one protocol are answered leaves the join of SoE alone.
use Rattle.std.proofs.Common.{◌≡◌, ℕ, Bool, true, false, None, List, [], ◌++◌, length, refl, sym, ap, ◌∙◌}
use Rattle.std.specs.Prelude.{drop}
use Rattle.idle_slaves.specs.of_exchange_model.Exchange.{given, plain}
use Rattle.idle_slaves.specs.of_link_mails.Body.{Body}
use Rattle.idle_slaves.specs.of_slave_model.Waits.{NeverWaits}
use Rattle.idle_slaves.proofs.of_slave_model.Dialogues.{tells_all}
use Rattle.idle_slaves.proofs.of_slave_model.Slaves.{slave_never}
use Rattle.idle_slaves.specs.of_slave_model.Application.{Parts, ArePartsLawful, station_valid}
use Rattle.idle_slaves.specs.of_slave_model.Product.{emission, product, protocols, refusal, served, side}
use Rattle.idle_slaves.specs.of_slave_model.Profile.{Profile, Protocol, IsProfile, serves}
use Rattle.idle_slaves.specs.of_slave_model.Server.{Server, Seat, ServiceOf, reseated, seat}
use Rattle.idle_slaves.proofs.of_slave_model.ProductLaw.{one_client}
use Rattle.idle_slaves.proofs.of_slave_model.Stations.{both, left_of}
use Rattle.idle_slaves.specs.of_slave_parts.Served.{AreFilesServed, core_of, is_fine, product_whole, protocols_whole, served_whole, side_whole, slave_whole}
use Rattle.idle_slaves.specs.of_slave_parts.Whole.{gated_whole}
use Rattle.idle_slaves.proofs.of_slave_parts.JoinedLaw.{given_whole, mine_part}
use Rattle.idle_slaves.proofs.of_slave_parts.Sides.{side_of, side_speech}
use Rattle.idle_slaves.proofs.of_slave_parts.SlaveLaw.{client}
use Rattle.idle_slaves.specs.of_exchange_model.Refusing.{gated}
use Rattle.idle_slaves.proofs.of_state_model.FamilyLaw.{plain_given_in}

-- of elements all mails are told at once, whatever the protocol does, in each AL state
elements_tell : {T F I : Type 0} (o : Parts T F I) (p : Profile) (al : ℕ) (b c : Bool) (v : Seat T F I Protocol.SoE) (q : ServiceOf Protocol.SoE) (hs : List Body) →
    (gated_whole b (served_whole o p 0 Protocol.SoE) (refusal o p 0 Protocol.SoE)).speech.planned q hs ≡ (gated_whole c (served_whole o p al Protocol.SoE) (refusal o p al Protocol.SoE)).full v q
elements_tell o p al true true v q hs = refl
elements_tell o p al true false v q hs = refl
elements_tell o p al false true v q hs = refl
elements_tell o p al false false v q hs = refl

module _ {T F I : Type 0} (o : Parts T F I) (law : ArePartsLawful o) (files : AreFilesServed o) (p : Profile) (is : IsProfile p) where
  -- the server without a join
  abbrev pub alone : Server T F I → Server T F I
  alone j = record j { join = None }

  -- the mails of a service are the same, over the whole server
  pub full_same : (al : ℕ) (i : Protocol) (b : Bool) (v : Seat T F I i) (q : ServiceOf i) → (gated b (served o p al i) (refusal o p al i)).full v q ≡ (gated_whole b (served_whole o p al i) (refusal o p al i)).full v q
  full_same al Protocol.CoE true v q = refl
  full_same al Protocol.FoE true v q = refl
  full_same al Protocol.SoE true v q = refl
  full_same al Protocol.EoE true v q = refl
  full_same al i false v q = refl

  -- and what was heard for a first part of them, of a protocol that sees no join
  pub heard_same : (al : ℕ) (i : Protocol) (j : Server T F I) → seat i (alone j) ≡ seat i j → (q : ServiceOf i) → is_fine o p al j ≡ true → (side_whole o p al i).speech.valid q ≡ true → (ms r : List Body) → (side_whole o p al i).full (seat i j) q ≡ ms ++ r →
      plain emission (given (product o p).serve (record { inner = alone j; state = al }) ms) ≡ plain emission (given (product_whole o p).serve (record { inner = j; state = al }) ms)
  heard_same al i j same q ready valid ms r e =
      let mine = mine_part (slave_whole o p al) (side_whole o p al i) (core_of T F I i) (seat i) (reseated i) (side_of o law files p is al i) j q ready valid ms r e in
      let at = given_whole (slave_whole o p al) (side_whole o p al i) (core_of T F I i) (seat i) (reseated i) (side_of o law files p is al i) in
      plain_given_in (protocols o p) (one_client o law p is) (record { inner = alone j; state = al }) ms
      ∙ ap (plain emission) (at (alone j) ms mine ∙ ap (λ (v : Seat T F I i). given (side_whole o p al i).serve v ms) same ∙ sym (at j ms mine))
      ∙ sym (plain_given_in (protocols_whole o p) (client o law files p is) (record { inner = j; state = al }) ms)

  -- SO A PROTOCOL THAT SEES NO JOIN waits for nothing
  by_side : (al : ℕ) (i : Protocol) (j : Server T F I) → seat i (alone j) ≡ seat i j → (q : ServiceOf i) → is_fine o p al j ≡ true → (side_whole o p 0 i).speech.valid q ≡ true → (ms r : List Body) → (side_whole o p al i).full (seat i j) q ≡ ms ++ r →
      drop (length ms) ((side_whole o p 0 i).speech.planned q (plain emission (given (product_whole o p).serve (record { inner = j; state = al }) ms))) ≡ [] → r ≡ []
  by_side al i j same q ready valid ms r e none =
      let fine : (protocols o p al).ready (alone j) ≡ true = both (station_valid o j.app) true (left_of (station_valid o j.app) _ ready) refl in
      let whole : (side o p al i).full (seat i (alone j)) q ≡ ms ++ r = full_same al i (serves p al i) (seat i (alone j)) q ∙ ap (λ (v : Seat T F I i). (side_whole o p al i).full v q) same ∙ e in
      let here : (side_whole o p al i).speech.valid q ≡ true = (client o law files p is).valid al (i, q) ∙ valid in
      let heard : List Body = plain emission (given (product o p).serve (record { inner = alone j; state = al }) ms) in
      slave_never o law p is (record { inner = alone j; state = al }) (i, q) fine (ap (λ s. s.valid q) (sym (side_speech o p 0 i)) ∙ valid) ms r whole
      (ap (λ s. drop (length ms) (s.planned q heard)) (sym (side_speech o p 0 i))
      ∙ ap (λ hs. drop (length ms) ((side_whole o p 0 i).speech.planned q hs)) (heard_same al i j same q ready here ms r e) ∙ none)

  by_protocol : (al : ℕ) (i : Protocol) (j : Server T F I) (q : ServiceOf i) → is_fine o p al j ≡ true → (side_whole o p 0 i).speech.valid q ≡ true → (ms r : List Body) → (side_whole o p al i).full (seat i j) q ≡ ms ++ r →
      drop (length ms) ((side_whole o p 0 i).speech.planned q (plain emission (given (product_whole o p).serve (record { inner = j; state = al }) ms))) ≡ [] → r ≡ []
  by_protocol al Protocol.CoE j q ready valid ms r e none = by_side al Protocol.CoE j refl q ready valid ms r e none
  by_protocol al Protocol.FoE j q ready valid ms r e none = by_side al Protocol.FoE j refl q ready valid ms r e none
  by_protocol al Protocol.EoE j q ready valid ms r e none = by_side al Protocol.EoE j refl q ready valid ms r e none
  by_protocol al Protocol.SoE j q ready valid ms r e none = tells_all _ ms r _ e (elements_tell o p al (serves p 0 Protocol.SoE) (serves p al Protocol.SoE) (seat Protocol.SoE j) q _) none

  -- OF ITS ONE EXCHANGE
  pub whole_never : NeverWaits (product_whole o p)
  whole_never v q ready valid ms r e none = by_protocol v.state q.0 v.inner q.1 ready valid ms r e none
