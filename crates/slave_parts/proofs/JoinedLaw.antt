-- Protocols of one slave are served together.
use Rattle.std.proofs.Common.{◌≡◌, inl, inr, suc, ◌≤◌, Bool, true, not, List, [], ◌∷◌, ◌++◌, filter, cond, refl, sym, ap, ap₂, ◌∙◌, subst}
use Rattle.idn_table.specs.of_exchange_model.Prefix.{IsPrefixOf}
use Rattle.idn_table.specs.of_exchange_model.Exchange.{Exchange, after, given, plain, emitted}
use Rattle.idn_table.specs.of_exchange_model.Lifted.{EachOf}
use Rattle.idn_table.proofs.of_exchange_model.Words.{given-append}
use Rattle.idn_table.specs.of_exchange_model.Sides.{Slave}
use Rattle.idn_table.proofs.of_exchange_model.SumLaw.{each_left}
use Rattle.serving_model.specs.Tagged.{IsServed, Untouched, Touched}
use Rattle.slave_parts.specs.Sides.{IsWholeSide, joined_whole}

-- two tests that agree on each mail keep the same ones
same_filter : {M : Type 0} (p q : M → Bool) (ms : List M) → EachOf (λ m. p m ≡ q m) ms → filter p ms ≡ filter q ms
same_filter p q [] all = refl
same_filter p q (m ∷ ms) all = ap₂ (λ (b : Bool) (l : List _). cond b (m ∷ l) l) all.0 (same_filter p q ms all.1)

each_not : {M : Type 0} (p q : M → Bool) (ms : List M) → EachOf (λ m. p m ≡ q m) ms → EachOf (λ m. not (p m) ≡ not (q m)) ms
each_not p q [] all = tt
each_not p q (m ∷ ms) all = (ap not all.0, each_not p q ms all.1)

-- a slave that any mail leaves ready, any mails leave ready
ready_after : {J C M : Type 0} (s : Slave J C M) → ((j : J) (m : M) → s.ready j ≡ true → s.ready (s.serve j m).0 ≡ true) → (j : J) (ms : List M) → s.ready j ≡ true → s.ready (after s.serve j ms) ≡ true
ready_after s passes j [] ready = ready
ready_after s passes j (m ∷ ms) ready = ready_after s passes (s.serve j m).0 ms (passes j m ready)

module _ {J V M Q R C : Type 0} (s : Slave J C M) (x : Exchange V V M Q R) (core : V → C) (seat : J → V) (reseat : J → V → J) (side : IsWholeSide s x core seat reseat) where
  abbrev pub AllMine : List M → Type 0
  AllMine ms = EachOf (λ m. side.mine m ≡ true) ms

  seat_one : (j : J) (m : M) → side.mine m ≡ true → seat (s.serve j m).0 ≡ (x.serve (seat j) m).0
  seat_one j m mine = ap seat (side.state j m mine) ∙ side.again j (x.serve (seat j) m).0

  pub whole_after : (j : J) (ms : List M) → AllMine ms → after s.serve j ms ≡ reseat j (after x.serve (seat j) ms)
  whole_after j [] all = sym (side.own j)
  whole_after j (m ∷ ms) all =
      let w = (x.serve (seat j) m).0 in
      whole_after (s.serve j m).0 ms all.1
      ∙ ap₂ (λ (k : J) (v : V). reseat k (after x.serve v ms)) (side.state j m all.0) (seat_one j m all.0)
      ∙ side.twice j w (after x.serve w ms)

  pub given_whole : (j : J) (ms : List M) → AllMine ms → given s.serve j ms ≡ given x.serve (seat j) ms
  given_whole j [] all = refl
  given_whole j (m ∷ ms) all =
      ap₂ (λ (a b : List M). a ++ b) (side.answers j m all.0) (given_whole (s.serve j m).0 ms all.1 ∙ ap (λ v. given x.serve v ms) (seat_one j m all.0))

  abbrev pub AllTold : J → List M → Type 0
  AllTold j ms = EachOf (λ g. s.emission g ≡ x.speech.emission g) (given x.serve (seat j) ms)

  pub plain_whole : (j : J) (ms : List M) → AllMine ms → AllTold j ms → plain s.emission (given s.serve j ms) ≡ plain x.speech.emission (given x.serve (seat j) ms)
  plain_whole j ms all told =
      ap (plain s.emission) (given_whole j ms all)
      ∙ same_filter (λ m. not (s.emission m)) (λ m. not (x.speech.emission m)) (given x.serve (seat j) ms) (each_not s.emission x.speech.emission (given x.serve (seat j) ms) told)

  pub emitted_whole : (j : J) (ms : List M) → AllMine ms → AllTold j ms → emitted s.emission (given s.serve j ms) ≡ emitted x.speech.emission (given x.serve (seat j) ms)
  emitted_whole j ms all told = ap (emitted s.emission) (given_whole j ms all) ∙ same_filter s.emission x.speech.emission (given x.serve (seat j) ms) told

  pub core_after : (j : J) (ms : List M) → AllMine ms → s.app (after s.serve j ms) ≡ core (after x.serve (seat j) ms)
  core_after j ms all = ap s.app (whole_after j ms all) ∙ side.core_is (reseat j (after x.serve (seat j) ms)) ∙ ap core (side.again j (after x.serve (seat j) ms))

  pub handled_at : (j : J) (v : V) → s.handled (reseat j v) ≡ x.handled v
  handled_at j v = side.handled (reseat j v) ∙ ap x.handled (side.again j v)

  pub core_at : (j : J) (v : V) → s.app (reseat j v) ≡ core v
  core_at j v = side.core_is (reseat j v) ∙ ap core (side.again j v)

  pub handled_after : (j : J) (ms : List M) → AllMine ms → s.handled (after s.serve j ms) ≡ x.handled (after x.serve (seat j) ms)
  handled_after j ms all = ap s.handled (whole_after j ms all) ∙ handled_at j (after x.serve (seat j) ms)

  pub told_full : (j : J) (q : Q) → s.ready j ≡ true → x.speech.valid q ≡ true → AllTold j (x.full (seat j) q)
  told_full j q r k = side.gives (seat j) q (side.ready j r) k

  pub told_part : (j : J) (q : Q) → s.ready j ≡ true → x.speech.valid q ≡ true → (p rest : List M) → x.full (seat j) q ≡ p ++ rest → AllTold j p
  told_part j q r k p rest e =
      let v = seat j in
      each_left (λ g. s.emission g ≡ x.speech.emission g) (given x.serve v p) (given x.serve (after x.serve v p) rest)
      (subst (EachOf (λ g. s.emission g ≡ x.speech.emission g)) (ap (given x.serve v) e ∙ given-append x.serve v p rest) (told_full j q r k))

  pub mine_full : (j : J) (q : Q) → s.ready j ≡ true → x.speech.valid q ≡ true → AllMine (x.full (seat j) q)
  mine_full j q r k = side.sends (seat j) q (side.ready j r) k

  pub mine_part : (j : J) (q : Q) → s.ready j ≡ true → x.speech.valid q ≡ true → (p rest : List M) → x.full (seat j) q ≡ p ++ rest → AllMine p
  mine_part j q r k p rest e = each_left (λ m. side.mine m ≡ true) p rest (subst AllMine e (mine_full j q r k))

module _ {I J C M R : Type 0} {V Q : I → Type 0} (s : Slave J C M) (x : (i : I) → Exchange (V i) (V i) M (Q i) R) (core : (i : I) → V i → C) (seat : (i : I) → J → V i) (reseat : (i : I) → J → V i → J)
    (side : (i : I) → IsWholeSide s (x i) (core i) (seat i) (reseat i)) where
  abbrev y : Exchange J J M ((i : I) × Q i) R
  y = joined_whole s x seat reseat

  untouched : (j : J) (i : I) (ms : List M) → AllMine s (x i) (core i) (seat i) (reseat i) (side i) ms → AllTold s (x i) (core i) (seat i) (reseat i) (side i) j ms → Untouched (x i) (core i) (seat i j) ms → Untouched y s.app j ms
  untouched j i ms all told u = record {
    core_is = core_after s (x i) (core i) (seat i) (reseat i) (side i) j ms all ∙ u.core_is ∙ sym ((side i).core_is j);
    handled = handled_after s (x i) (core i) (seat i) (reseat i) (side i) j ms all ∙ u.handled ∙ sym ((side i).handled j);
    emitted = emitted_whole s (x i) (core i) (seat i) (reseat i) (side i) j ms all told ∙ u.emitted;
  }

  touched : (j : J) (q : (i : I) × Q i) (ms : List M) → AllMine s (x q.0) (core q.0) (seat q.0) (reseat q.0) (side q.0) ms → AllTold s (x q.0) (core q.0) (seat q.0) (reseat q.0) (side q.0) j ms →
      Touched (x q.0) (core q.0) (seat q.0 j) q.1 ms → Touched y s.app j q ms
  touched j q ms all told t = record {
    core_is = core_after s (x q.0) (core q.0) (seat q.0) (reseat q.0) (side q.0) j ms all ∙ t.core_is ∙ sym (core_at s (x q.0) (core q.0) (seat q.0) (reseat q.0) (side q.0) j ((x q.0).exec (seat q.0 j) q.1));
    handled = handled_after s (x q.0) (core q.0) (seat q.0) (reseat q.0) (side q.0) j ms all ∙ t.handled ∙ ap suc (sym ((side q.0).handled j));
    emitted = subst (λ es. IsPrefixOf es ((x q.0).emits (seat q.0 j) q.1)) (sym (emitted_whole s (x q.0) (core q.0) (seat q.0) (reseat q.0) (side q.0) j ms all told)) t.emitted;
  }

  pub joined_served : ((i : I) → IsServed (x i) (core i)) → ((j : J) (m : M) → s.ready j ≡ true → s.ready (s.serve j m).0 ≡ true) → ((j : J) (m : M) → s.handled j ≤ s.handled (s.serve j m).0) → IsServed (joined_whole s x seat reseat) s.app
  joined_served law passes grows =
      let mails = λ (j : J) (q : (i : I) × Q i) (r : s.ready j ≡ true) (k : (x q.0).speech.valid q.1 ≡ true). mine_full s (x q.0) (core q.0) (seat q.0) (reseat q.0) (side q.0) j q.1 r k in
      let told = λ (j : J) (q : (i : I) × Q i) (r : s.ready j ≡ true) (k : (x q.0).speech.valid q.1 ≡ true). told_full s (x q.0) (core q.0) (seat q.0) (reseat q.0) (side q.0) j q.1 r k in
      let whole = λ (j : J) (q : (i : I) × Q i) (r : s.ready j ≡ true) (k : (x q.0).speech.valid q.1 ≡ true).
      whole_after s (x q.0) (core q.0) (seat q.0) (reseat q.0) (side q.0) j ((x q.0).full (seat q.0 j) q.1) (mails j q r k) ∙ ap (reseat q.0 j) ((law q.0).whole (seat q.0 j) q.1 ((side q.0).ready j r) k) in
      let replies = λ (j : J) (q : (i : I) × Q i) (r : s.ready j ≡ true) (k : (x q.0).speech.valid q.1 ≡ true).
      plain_whole s (x q.0) (core q.0) (seat q.0) (reseat q.0) (side q.0) j ((x q.0).full (seat q.0 j) q.1) (mails j q r k) (told j q r k) in
      record {
        ready = λ j q r k. ap s.ready (sym (whole j q r k)) ∙ ready_after s passes j ((x q.0).full (seat q.0 j) q.1) r;
        passes = passes;
        whole = whole;
        counts = λ j q r k. handled_at s (x q.0) (core q.0) (seat q.0) (reseat q.0) (side q.0) j ((x q.0).exec (seat q.0 j) q.1) ∙ (law q.0).counts (seat q.0 j) q.1 ((side q.0).ready j r) k ∙ ap suc (sym ((side q.0).handled j));
        all_emitted = λ j q r k. emitted_whole s (x q.0) (core q.0) (seat q.0) (reseat q.0) (side q.0) j ((x q.0).full (seat q.0 j) q.1) (mails j q r k) (told j q r k) ∙ (law q.0).all_emitted (seat q.0 j) q.1 ((side q.0).ready j r) k;
        replied = λ j q r k h. ap ((x q.0).speech.ends q.1) (replies j q r k) ∙ (law q.0).replied (seat q.0 j) q.1 ((side q.0).ready j r) k h;
        silent = λ j q r k h. replies j q r k ∙ (law q.0).silent (seat q.0 j) q.1 ((side q.0).ready j r) k h;
        part = λ j q r k p rest e.
            let mine = mine_part s (x q.0) (core q.0) (seat q.0) (reseat q.0) (side q.0) j q.1 r k p rest e in
            let said = told_part s (x q.0) (core q.0) (seat q.0) (reseat q.0) (side q.0) j q.1 r k p rest e in
            elim ((law q.0).part (seat q.0 j) q.1 ((side q.0).ready j r) k p rest e) [ inl u ↦ inl (untouched j q.0 p mine said u) | inr t ↦ inr (touched j q p mine said t) ];
        counted = λ j q r k h p rest e all.
            let mine = mine_part s (x q.0) (core q.0) (seat q.0) (reseat q.0) (side q.0) j q.1 r k p rest e in
            let said = told_part s (x q.0) (core q.0) (seat q.0) (reseat q.0) (side q.0) j q.1 r k p rest e in
            touched j q p mine said ((law q.0).counted (seat q.0 j) q.1 ((side q.0).ready j r) k h p rest e
            (sym (plain_whole s (x q.0) (core q.0) (seat q.0) (reseat q.0) (side q.0) j p mine said) ∙ all ∙ replies j q r k));
        none = λ q. (law q.0).none q.1;
        ended = λ q hs h more r e. (law q.0).ended q.1 hs h more r e;
        follows = λ j q r k hs more e. (law q.0).follows (seat q.0 j) q.1 ((side q.0).ready j r) k hs more (sym (replies j q r k) ∙ e);
        all_planned = λ j q r k. ap ((x q.0).speech.planned q.1) (replies j q r k) ∙ (law q.0).all_planned (seat q.0 j) q.1 ((side q.0).ready j r) k;
        unanswered = λ q hs h. (law q.0).unanswered q.1 hs h;
        some = λ j q r k. (law q.0).some (seat q.0 j) q.1 ((side q.0).ready j r) k;
        grows = grows;
      }
