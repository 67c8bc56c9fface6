-- The protocols of a slave stand beside each other over the one application.
use Rattle.std.proofs.Common.{◌≡◌, ℕ, ◌+◌, ◌≤◌, Bool, true, false, is_none, List, [], ◌∷◌, ◌++◌, map, Option, Some, None, Ok, Err, refl, sym, ap, ◌∙◌, subst, arith}
use Rattle.link_mails.specs.of_mailbox_mail.declared.mail.Kind.{Kind}
use Rattle.link_mails.specs.of_mailbox_mail.declared.mail.MailFault.TheVariants.{Short, LengthPastArea, UnknownKind}
use Rattle.link_mails.specs.Body.{Body}
use Rattle.protocol_models.specs.of_exchange_model.Exchange.{Exchange, IsLawful, after}
use Rattle.protocol_models.specs.of_exchange_model.Lifted.{EachOf}
use Rattle.protocol_models.specs.of_exchange_model.Sides.{Spares, IsSide}
use Rattle.protocol_models.specs.of_exchange_model.Refusing.{Refusal, gated}
use Rattle.protocol_models.proofs.of_exchange_model.SumLaw.{joined_law, seat_after}
use Rattle.slave_model.specs.Profile.{Protocol, Profile, serves}
use Rattle.slave_model.specs.Application.{Parts, station_valid}
use Rattle.slave_model.specs.Server.{Server, Seat, seat, reseated}
use Rattle.slave_model.specs.Product.{served, refusal, side, protocol_of, serve_by, serve, is_ready, slave, protocols}
use Rattle.slave_model.specs.Owning.{same_protocol, is_of, mine, AreOwn}
use Rattle.slave_model.proofs.Stations.{both, left_of, right_of}

each_both : {M : Type 0} (P : M → Type 0) (xs ys : List M) → EachOf P xs → EachOf P ys → EachOf P (xs ++ ys)
each_both P [] ys a b = b
each_both P (x ∷ xs) ys a b = (a.0, each_both P xs ys a.1 b)

each_mapped : {M N : Type 0} (P : N → Type 0) (f : M → N) → ((m : M) → P (f m)) → (ms : List M) → EachOf P (map f ms)
each_mapped P f all [] = tt
each_mapped P f all (m ∷ ms) = (all m, each_mapped P f all ms)

are_same : (i k : Protocol) → same_protocol i k ≡ true → i ≡ k
are_same Protocol.CoE Protocol.CoE e = refl
are_same Protocol.FoE Protocol.FoE e = refl
are_same Protocol.SoE Protocol.SoE e = refl
are_same Protocol.EoE Protocol.EoE e = refl
are_same i k e = absurd (cc)

-- a protocol that is served or not has one client and sees the same in a server
module _ {V A M Q R : Type 0} (x : Exchange V A M Q R) (r : Refusal V M Q R) where
  pub gated_app : (b : Bool) → (gated b x r).app ≡ x.app
  gated_app true = refl
  gated_app false = refl

  pub gated_handled : (b : Bool) → (gated b x r).handled ≡ x.handled
  gated_handled true = refl
  gated_handled false = refl

  pub gated_ready : (b : Bool) → (gated b x r).ready ≡ x.ready
  gated_ready true = refl
  gated_ready false = refl

  pub gated_speech : (b : Bool) → (gated b x r).speech ≡ x.speech
  gated_speech true = refl
  gated_speech false = refl

module _ {T F I : Type 0} (o : Parts T F I) (p : Profile) (al : ℕ) where
  seat_again : (i : Protocol) (j : Server T F I) (v : Seat T F I i) → seat i (reseated i j v) ≡ v
  seat_again Protocol.CoE j v = refl
  seat_again Protocol.FoE j v = refl
  seat_again Protocol.SoE j v = refl
  seat_again Protocol.EoE j v = refl

  seat_app : (i : Protocol) (j : Server T F I) → (served o p al i).app (seat i j) ≡ j.app
  seat_app Protocol.CoE j = refl
  seat_app Protocol.FoE j = refl
  seat_app Protocol.SoE j = refl
  seat_app Protocol.EoE j = refl

  seat_handled : (i : Protocol) (j : Server T F I) → (served o p al i).handled (seat i j) ≡ j.handled
  seat_handled Protocol.CoE j = refl
  seat_handled Protocol.FoE j = refl
  seat_handled Protocol.SoE j = refl
  seat_handled Protocol.EoE j = refl

  seat_ready : (i : Protocol) (j : Server T F I) → is_ready o p al j ≡ true → (served o p al i).ready (seat i j) ≡ true
  seat_ready Protocol.CoE j e = left_of _ _ e
  seat_ready Protocol.FoE j e = left_of _ _ e
  seat_ready Protocol.SoE j e = e
  seat_ready Protocol.EoE j e = left_of _ _ e

  state_by : (i : Protocol) (j : Server T F I) (b : Body) (kind : Kind) (found : Option Protocol) → is_of i found ≡ true → seat i (serve_by o p al j b kind found).0 ≡ ((side o p al i).serve (seat i j) b).0
  state_by i j b kind None e = absurd (cc)
  state_by i j b kind (Some k) e =
      subst (λ n. seat n (serve_by o p al j b kind (Some k)).0 ≡ ((side o p al n).serve (seat n j) b).0) (sym (are_same i k e)) (seat_again k j ((side o p al k).serve (seat k j) b).0)

  answers_by : (i : Protocol) (j : Server T F I) (b : Body) (kind : Kind) (found : Option Protocol) → is_of i found ≡ true → (serve_by o p al j b kind found).1 ≡ ((side o p al i).serve (seat i j) b).1
  answers_by i j b kind None e = absurd (cc)
  answers_by i j b kind (Some k) e = ap (λ n. ((side o p al n).serve (seat n j) b).1) (sym (are_same i k e))

  side_state : (i : Protocol) (j : Server T F I) (b : Body) → mine i b ≡ true → seat i (serve o p al j b).0 ≡ ((side o p al i).serve (seat i j) b).0
  side_state i j (Ok m) e = state_by i j (Ok m) m.kind (protocol_of m.kind) e
  side_state i j (Err fault) e = absurd (cc)

  side_answers : (i : Protocol) (j : Server T F I) (b : Body) → mine i b ≡ true → (serve o p al j b).1 ≡ ((side o p al i).serve (seat i j) b).1
  side_answers i j (Ok m) e = answers_by i j (Ok m) m.kind (protocol_of m.kind) e
  side_answers i j (Err fault) e = absurd (cc)

  pub side_of : (i : Protocol) → AreOwn o p al i → IsSide (slave o p al) (side o p al i) (seat i)
  side_of i own = record {
    app = λ j. sym (ap (λ f. f (seat i j)) (gated_app (served o p al i) (refusal o p al i) (serves p al i)) ∙ seat_app i j);
    handled = λ j. sym (ap (λ f. f (seat i j)) (gated_handled (served o p al i) (refusal o p al i) (serves p al i)) ∙ seat_handled i j);
    ready = λ j e. ap (λ f. f (seat i j)) (gated_ready (served o p al i) (refusal o p al i) (serves p al i)) ∙ seat_ready i j e;
    mine = mine i;
    state = side_state i;
    answers = side_answers i;
    sends = own.sends;
    gives = own.gives;
  }

  -- a mail of one protocol leaves the join of SoE, but for SoE's own
  join_stays : (i : Protocol) (j : Server T F I) (v : Seat T F I i) → same_protocol i Protocol.SoE ≡ false → (reseated i j v).join ≡ j.join
  join_stays Protocol.CoE j v e = refl
  join_stays Protocol.FoE j v e = refl
  join_stays Protocol.SoE j v e = absurd (cc)
  join_stays Protocol.EoE j v e = refl

  join_by : (i : Protocol) (j : Server T F I) (b : Body) (kind : Kind) (found : Option Protocol) → is_of i found ≡ true → same_protocol i Protocol.SoE ≡ false → (serve_by o p al j b kind found).0.join ≡ j.join
  join_by i j b kind None e other = absurd (cc)
  join_by i j b kind (Some k) e other = join_stays k j _ (ap (λ n. same_protocol n Protocol.SoE) (sym (are_same i k e)) ∙ other)

  join_one : (i : Protocol) (j : Server T F I) (b : Body) → mine i b ≡ true → same_protocol i Protocol.SoE ≡ false → (serve o p al j b).0.join ≡ j.join
  join_one i j (Ok m) e other = join_by i j (Ok m) m.kind (protocol_of m.kind) e other
  join_one i j (Err fault) e other = absurd (cc)

  join_all : (i : Protocol) (j : Server T F I) (bs : List Body) → EachOf (λ b. mine i b ≡ true) bs → same_protocol i Protocol.SoE ≡ false → (after (serve o p al) j bs).join ≡ j.join
  join_all i j [] all other = refl
  join_all i j (b ∷ bs) all other = join_all i (serve o p al j b).0 bs all.1 other ∙ join_one i j b all.0 other

  -- a state is ready by one protocol and by the join
  ready_by : (i : Protocol) (j : Server T F I) → (served o p al i).ready (seat i j) ≡ true → is_none j.join ≡ true → is_ready o p al j ≡ true
  ready_by Protocol.CoE j e none = both _ _ e none
  ready_by Protocol.FoE j e none = both _ _ e none
  ready_by Protocol.SoE j e none = e
  ready_by Protocol.EoE j e none = both _ _ e none

  module _ (own : (i : Protocol) → AreOwn o p al i) (law : (i : Protocol) → IsLawful (side o p al i)) where
    -- behind a service of a protocol no join is unfinished
    none_joined : (i : Protocol) (j : Server T F I) (bs : List Body) → is_ready o p al j ≡ true → EachOf (λ b. mine i b ≡ true) bs → (served o p al i).ready (seat i (after (serve o p al) j bs)) ≡ true →
        is_none (after (serve o p al) j bs).join ≡ true
    none_joined Protocol.CoE j bs e all ready = ap is_none (join_all Protocol.CoE j bs all refl) ∙ right_of (station_valid o j.app) _ e
    none_joined Protocol.FoE j bs e all ready = ap is_none (join_all Protocol.FoE j bs all refl) ∙ right_of (station_valid o j.app) _ e
    none_joined Protocol.SoE j bs e all ready = right_of (station_valid o (after (serve o p al) j bs).app) _ ready
    none_joined Protocol.EoE j bs e all ready = ap is_none (join_all Protocol.EoE j bs all refl) ∙ right_of (station_valid o j.app) _ e

    spares : (i : Protocol) → Spares (slave o p al) (side o p al i) (seat i)
    unfolding side_of
    spares i j q e valid =
        let x = side o p al i in
        let s = side_of i (own i) in
        let bs = x.full (seat i j) q in
        let ready = s.ready j e in
        let mails = (own i).sends (seat i j) q ready valid in
        let end = after (serve o p al) j bs in
        let same : (served o p al i).ready (seat i end) ≡ true =
        ap (λ f. f (seat i end)) (sym (gated_ready (served o p al i) (refusal o p al i) (serves p al i)))
        ∙ ap x.ready (seat_after (slave o p al) x (seat i) s j bs mails) ∙ (law i).ready (seat i j) q ready valid in
        ready_by i end same (none_joined i j bs e mails same)

    handled_again : (i : Protocol) (j : Server T F I) (v : Seat T F I i) → (reseated i j v).handled ≡ (served o p al i).handled v
    handled_again Protocol.CoE j v = refl
    handled_again Protocol.FoE j v = refl
    handled_again Protocol.SoE j v = refl
    handled_again Protocol.EoE j v = refl

    grows_other : (j : Server T F I) (b : Body) (kind : Kind) → j.handled ≤ (serve_by o p al j b kind None).0.handled
    grows_other j b Kind.Error = omega arith
    grows_other j b Kind.AoE = omega arith
    grows_other j b Kind.EoE = omega arith
    grows_other j b Kind.CoE = omega arith
    grows_other j b Kind.FoE = omega arith
    grows_other j b Kind.SoE = omega arith
    grows_other j b Kind.VoE = omega arith

    grows_by : (j : Server T F I) (b : Body) (kind : Kind) (found : Option Protocol) → j.handled ≤ (serve_by o p al j b kind found).0.handled
    grows_by j b kind None = grows_other j b kind
    grows_by j b kind (Some i) =
        let same : (side o p al i).handled ≡ (served o p al i).handled = gated_handled (served o p al i) (refusal o p al i) (serves p al i) in
        let w = ((side o p al i).serve (seat i j) b).0 in
        let more = (law i).grows (seat i j) b in
        let before : (side o p al i).handled (seat i j) ≡ j.handled = ap (λ f. f (seat i j)) same ∙ seat_handled i j in
        let behind : (reseated i j w).handled ≡ (side o p al i).handled w = handled_again i j w ∙ ap (λ f. f w) (sym same) in
        omega (arith, more, before, behind)

    grows : (j : Server T F I) (b : Body) → j.handled ≤ (serve o p al j b).0.handled
    grows j (Ok m) = grows_by j (Ok m) m.kind (protocol_of m.kind)
    grows j (Err Short) = omega arith
    grows j (Err LengthPastArea) = omega arith
    grows j (Err UnknownKind) = omega arith

    pub protocols_law : IsLawful (protocols o p al)
    protocols_law = joined_law (slave o p al) (side o p al) seat (λ i. side_of i (own i)) law spares grows
