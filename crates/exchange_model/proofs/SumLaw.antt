-- Exchanges joined by their protocols keep the laws.
use Rattle.std.proofs.Common.{◌≡◌, inl, inr, suc, ◌≤◌, Bool, true, not, cond, List, [], ◌∷◌, ◌++◌, filter, Some, refl, sym, ap, ap₂, ◌∙◌, subst}
use Rattle.exchange_model.specs.Exchange.{Exchange, IsLawful, Before, Behind, after, given, plain, emitted}
use Rattle.exchange_model.specs.Lifted.{EachOf}
use Rattle.exchange_model.proofs.Words.{given-append}
use Rattle.exchange_model.specs.Sides.{Slave, IsSide, Spares, joined}

pub each_left : {M : Type 0} (P : M → Type 0) (xs ys : List M) → EachOf P (xs ++ ys) → EachOf P xs
each_left P [] ys all = tt
each_left P (x ∷ xs) ys all = (all.0, each_left P xs ys all.1)

-- two tests that agree on each mail keep the same ones
same_filter : {M : Type 0} (p q : M → Bool) (ms : List M) → EachOf (λ m. p m ≡ q m) ms → filter p ms ≡ filter q ms
same_filter p q [] all = refl
same_filter p q (m ∷ ms) all = ap₂ (λ (b : Bool) (l : List _). cond b (m ∷ l) l) all.0 (same_filter p q ms all.1)

each_append : {M : Type 0} (P : M → Type 0) (xs ys : List M) → EachOf P xs → EachOf P ys → EachOf P (xs ++ ys)
each_append P [] ys a b = b
each_append P (x ∷ xs) ys a b = (a.0, each_append P xs ys a.1 b)

each_not : {M : Type 0} (p q : M → Bool) (ms : List M) → EachOf (λ m. p m ≡ q m) ms → EachOf (λ m. not (p m) ≡ not (q m)) ms
each_not p q [] all = tt
each_not p q (m ∷ ms) all = (ap not all.0, each_not p q ms all.1)

module _ {J V A M Q R : Type 0} (s : Slave J A M) (x : Exchange V A M Q R) (seat : J → V) (side : IsSide s x seat) where
  abbrev AllMine : List M → Type 0
  AllMine ms = EachOf (λ m. side.mine m ≡ true) ms

  pub seat_after : (j : J) (ms : List M) → AllMine ms → seat (after s.serve j ms) ≡ after x.serve (seat j) ms
  seat_after j [] all = refl
  seat_after j (m ∷ ms) all = seat_after (s.serve j m).0 ms all.1 ∙ ap (λ v. after x.serve v ms) (side.state j m all.0)

  given_same : (j : J) (ms : List M) → AllMine ms → given s.serve j ms ≡ given x.serve (seat j) ms
  given_same j [] all = refl
  given_same j (m ∷ ms) all =
      ap₂ (λ (a b : List M). a ++ b) (side.answers j m all.0) (given_same (s.serve j m).0 ms all.1 ∙ ap (λ v. given x.serve v ms) (side.state j m all.0))

  abbrev AllTold : J → List M → Type 0
  AllTold j ms = EachOf (λ g. s.emission g ≡ x.speech.emission g) (given x.serve (seat j) ms)

  pub plain_same : (j : J) (ms : List M) → AllMine ms → AllTold j ms → plain s.emission (given s.serve j ms) ≡ plain x.speech.emission (given x.serve (seat j) ms)
  plain_same j ms all told =
      ap (plain s.emission) (given_same j ms all)
      ∙ same_filter (λ m. not (s.emission m)) (λ m. not (x.speech.emission m)) (given x.serve (seat j) ms) (each_not s.emission x.speech.emission (given x.serve (seat j) ms) told)

  emitted_same : (j : J) (ms : List M) → AllMine ms → AllTold j ms → emitted s.emission (given s.serve j ms) ≡ emitted x.speech.emission (given x.serve (seat j) ms)
  emitted_same j ms all told = ap (emitted s.emission) (given_same j ms all) ∙ same_filter s.emission x.speech.emission (given x.serve (seat j) ms) told

  pub app_after : (j : J) (ms : List M) → AllMine ms → s.app (after s.serve j ms) ≡ x.app (after x.serve (seat j) ms)
  app_after j ms all = side.app (after s.serve j ms) ∙ ap x.app (seat_after j ms all)

  pub handled_after : (j : J) (ms : List M) → AllMine ms → s.handled (after s.serve j ms) ≡ x.handled (after x.serve (seat j) ms)
  handled_after j ms all = side.handled (after s.serve j ms) ∙ ap x.handled (seat_after j ms all)

module _ {I J A M R : Type 0} {V Q : I → Type 0} (s : Slave J A M) (x : (i : I) → Exchange (V i) A M (Q i) R) (seat : (i : I) → J → V i) (side : (i : I) → IsSide s (x i) (seat i)) where
  before_same : (j : J) (i : I) (ms : List M) → EachOf (λ m. (side i).mine m ≡ true) ms → AllTold s (x i) (seat i) (side i) j ms → Before (x i) (seat i j) ms → Before (joined s x seat) j ms
  before_same j i ms all told b = record {
    app = app_after s (x i) (seat i) (side i) j ms all ∙ b.app ∙ sym ((side i).app j);
    handled = handled_after s (x i) (seat i) (side i) j ms all ∙ b.handled ∙ sym ((side i).handled j);
    emitted = emitted_same s (x i) (seat i) (side i) j ms all told ∙ b.emitted;
  }

  behind_same : (j : J) (q : (i : I) × Q i) (ms : List M) → EachOf (λ m. (side q.0).mine m ≡ true) ms → AllTold s (x q.0) (seat q.0) (side q.0) j ms → Behind (x q.0) (seat q.0 j) q.1 ms → Behind (joined s x seat) j q ms
  behind_same j q ms all told b = record {
    app = app_after s (x q.0) (seat q.0) (side q.0) j ms all ∙ b.app ∙ ap (λ a. (x q.0).exec a q.1) (sym ((side q.0).app j));
    handled = handled_after s (x q.0) (seat q.0) (side q.0) j ms all ∙ b.handled ∙ ap suc (sym ((side q.0).handled j));
    emitted = (b.emitted.0, ap (λ l. l ++ b.emitted.0) (emitted_same s (x q.0) (seat q.0) (side q.0) j ms all told) ∙ b.emitted.1 ∙ ap (λ a. (x q.0).emits a q.1) (sym ((side q.0).app j)));
  }

  pub told_full : (j : J) (q : (i : I) × Q i) → s.ready j ≡ true → (x q.0).speech.valid q.1 ≡ true → AllTold s (x q.0) (seat q.0) (side q.0) j ((x q.0).full (seat q.0 j) q.1)
  told_full j q r k = (side q.0).gives (seat q.0 j) q.1 ((side q.0).ready j r) k

  pub told_part : (j : J) (q : (i : I) × Q i) → s.ready j ≡ true → (x q.0).speech.valid q.1 ≡ true → (p rest : List M) → (x q.0).full (seat q.0 j) q.1 ≡ p ++ rest → AllTold s (x q.0) (seat q.0) (side q.0) j p
  told_part j q r k p rest e =
      let serve = (x q.0).serve in
      let v = seat q.0 j in
      each_left (λ g. s.emission g ≡ (x q.0).speech.emission g) (given serve v p) (given serve (after serve v p) rest)
      (subst (EachOf (λ g. s.emission g ≡ (x q.0).speech.emission g)) (ap (given serve v) e ∙ given-append serve v p rest) (told_full j q r k))

  pub joined_law : ((i : I) → IsLawful (x i)) → ((i : I) → Spares s (x i) (seat i)) → ((j : J) (m : M) → s.handled j ≤ s.handled (s.serve j m).0) → IsLawful (joined s x seat)
  joined_law law spares grows =
      let mails = λ (j : J) (q : (i : I) × Q i) (r : s.ready j ≡ true) (k : (x q.0).speech.valid q.1 ≡ true). (side q.0).sends (seat q.0 j) q.1 ((side q.0).ready j r) k in
      record {
        ready = λ j q r k. spares q.0 j q.1 r k;
        whole = λ j q r k. behind_same j q ((x q.0).full (seat q.0 j) q.1) (mails j q r k) (told_full j q r k) ((law q.0).whole (seat q.0 j) q.1 ((side q.0).ready j r) k);
        all_emitted = λ j q r k. emitted_same s (x q.0) (seat q.0) (side q.0) j ((x q.0).full (seat q.0 j) q.1) (mails j q r k) (told_full j q r k)
            ∙ (law q.0).all_emitted (seat q.0 j) q.1 ((side q.0).ready j r) k ∙ ap (λ a. (x q.0).emits a q.1) (sym ((side q.0).app j));
        replied = λ j q r k h. ap ((x q.0).speech.ends q.1) (plain_same s (x q.0) (seat q.0) (side q.0) j ((x q.0).full (seat q.0 j) q.1) (mails j q r k) (told_full j q r k))
            ∙ (law q.0).replied (seat q.0 j) q.1 ((side q.0).ready j r) k h ∙ ap (λ a. Some ((x q.0).reply a q.1)) (sym ((side q.0).app j));
        silent = λ j q r k h. plain_same s (x q.0) (seat q.0) (side q.0) j ((x q.0).full (seat q.0 j) q.1) (mails j q r k) (told_full j q r k) ∙ (law q.0).silent (seat q.0 j) q.1 ((side q.0).ready j r) k h;
        part = λ j q r k p rest e.
            let mine = each_left (λ m. (side q.0).mine m ≡ true) p rest (subst (EachOf (λ m. (side q.0).mine m ≡ true)) e (mails j q r k)) in
            elim ((law q.0).part (seat q.0 j) q.1 ((side q.0).ready j r) k p rest e) [ inl b ↦ inl (before_same j q.0 p mine (told_part j q r k p rest e) b) | inr b ↦ inr (behind_same j q p mine (told_part j q r k p rest e) b) ];
        counted = λ j q r k h p rest e all.
            let mine = each_left (λ m. (side q.0).mine m ≡ true) p rest (subst (EachOf (λ m. (side q.0).mine m ≡ true)) e (mails j q r k)) in
            behind_same j q p mine (told_part j q r k p rest e) ((law q.0).counted (seat q.0 j) q.1 ((side q.0).ready j r) k h p rest e
            (sym (plain_same s (x q.0) (seat q.0) (side q.0) j p mine (told_part j q r k p rest e)) ∙ all ∙ plain_same s (x q.0) (seat q.0) (side q.0) j ((x q.0).full (seat q.0 j) q.1) (mails j q r k) (told_full j q r k)));
        none = λ q. (law q.0).none q.1;
        ended = λ q hs h more r e. (law q.0).ended q.1 hs h more r e;
        follows = λ j q r k hs more e. (law q.0).follows (seat q.0 j) q.1 ((side q.0).ready j r) k hs more
            (sym (plain_same s (x q.0) (seat q.0) (side q.0) j ((x q.0).full (seat q.0 j) q.1) (mails j q r k) (told_full j q r k)) ∙ e);
        all_planned = λ j q r k. ap ((x q.0).speech.planned q.1) (plain_same s (x q.0) (seat q.0) (side q.0) j ((x q.0).full (seat q.0 j) q.1) (mails j q r k) (told_full j q r k))
            ∙ (law q.0).all_planned (seat q.0 j) q.1 ((side q.0).ready j r) k;
        unanswered = λ q hs h. (law q.0).unanswered q.1 hs h;
        some = λ j q r k h. (law q.0).some (seat q.0 j) q.1 ((side q.0).ready j r) k h;
        grows = grows;
      }
