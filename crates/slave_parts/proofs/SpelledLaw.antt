-- A server over mails is served as the same over what these mails are written as.
use Rattle.std.proofs.Common.{◌≡◌, ◌≢◌, ◌⊎◌, inl, inr, Bool, true, false, not, cond, List, [], ◌∷◌, ◌++◌, map, filter, refl, sym, ap, ◌∙◌, subst}
use Rattle.idn_table.specs.of_exchange_model.Prefix.{IsPrefixOf}
use Rattle.idn_table.specs.of_exchange_model.Exchange.{Exchange, after, given, plain, emitted}
use Rattle.idn_table.specs.of_exchange_model.Lifted.{EachOf, ReadsBack, Spells, lifted}
use Rattle.idn_table.proofs.of_exchange_model.Words.{given_part}
use Rattle.idn_table.proofs.of_exchange_model.Lifting.{all_back, each_filter, map_append, map_begin, cut_before}
use Rattle.idn_table.proofs.of_exchange_model.SumLaw.{each_left}
use Rattle.serving_model.specs.Tagged.{IsServed, Untouched, Touched}

module _ {V M N Q R C : Type 0} (x : Exchange V V M Q R) (core : V → C) (read : N → M) (write : M → N) where
  abbrev y : Exchange V V N Q R
  y = lifted x read write

  abbrev Back : List M → Type 0
  Back ms = EachOf (ReadsBack read write) ms

  pub after_spelled : (v : V) (ms : List M) → Back ms → after y.serve v (map write ms) ≡ after x.serve v ms
  after_spelled v [] all = refl
  after_spelled v (m ∷ ms) all = ap (λ k. after y.serve (x.serve v k).0 (map write ms)) all.0 ∙ after_spelled (x.serve v m).0 ms all.1

  given_spelled : (v : V) (ms : List M) → Back ms → given y.serve v (map write ms) ≡ map write (given x.serve v ms)
  given_spelled v [] all = refl
  given_spelled v (m ∷ ms) all =
      ap (λ k. map write (x.serve v k).1 ++ given y.serve (x.serve v k).0 (map write ms)) all.0
      ∙ ap (λ l. map write (x.serve v m).1 ++ l) (given_spelled (x.serve v m).0 ms all.1)
      ∙ sym (map_append write (x.serve v m).1 (given x.serve (x.serve v m).0 ms))

  filter_spelled : (p : M → Bool) (ms : List M) → Back ms → filter (λ n. p (read n)) (map write ms) ≡ map write (filter p ms)
  filter_spelled p [] all = refl
  filter_spelled p (m ∷ ms) all = ap (λ k. cond (p k) (write m ∷ filter (λ n. p (read n)) (map write ms)) (filter (λ n. p (read n)) (map write ms))) all.0 ∙ keep (p m) (filter_spelled p ms all.1)
    where
      keep : (b : Bool) → filter (λ n. p (read n)) (map write ms) ≡ map write (filter p ms) →
          cond b (write m ∷ filter (λ n. p (read n)) (map write ms)) (filter (λ n. p (read n)) (map write ms)) ≡ map write (cond b (m ∷ filter p ms) (filter p ms))
      keep true e = ap (λ l. write m ∷ l) e
      keep false e = e

  plain_spelled : (v : V) (ms : List M) → Back ms → Back (given x.serve v ms) → plain y.speech.emission (given y.serve v (map write ms)) ≡ map write (plain x.speech.emission (given x.serve v ms))
  plain_spelled v ms told answered =
      ap (filter (λ n. not (x.speech.emission (read n)))) (given_spelled v ms told) ∙ filter_spelled (λ m. not (x.speech.emission m)) (given x.serve v ms) answered

  emitted_spelled : (v : V) (ms : List M) → Back ms → Back (given x.serve v ms) → emitted y.speech.emission (given y.serve v (map write ms)) ≡ map write (emitted x.speech.emission (given x.serve v ms))
  emitted_spelled v ms told answered = ap (filter (λ n. x.speech.emission (read n))) (given_spelled v ms told) ∙ filter_spelled x.speech.emission (given x.serve v ms) answered

  untouched : (v : V) (p : List M) → Back p → Back (given x.serve v p) → Untouched x core v p → Untouched y core v (map write p)
  untouched v p told answered is = record {
    core_is = ap core (after_spelled v p told) ∙ is.core_is;
    handled = ap x.handled (after_spelled v p told) ∙ is.handled;
    emitted = emitted_spelled v p told answered ∙ ap (map write) is.emitted;
  }

  touched : (v : V) (q : Q) (p : List M) → Back p → Back (given x.serve v p) → Touched x core v q p → Touched y core v q (map write p)
  touched v q p told answered is = record {
    core_is = ap core (after_spelled v p told) ∙ is.core_is;
    handled = ap x.handled (after_spelled v p told) ∙ is.handled;
    emitted = subst (λ es. IsPrefixOf es (map write (x.emits v q))) (sym (emitted_spelled v p told answered))
        (map_begin write (emitted x.speech.emission (given x.serve v p)) (x.emits v q) is.emitted);
  }

  module _ (law : IsServed x core) (spells : Spells x read write) where
    replies : (v : V) (q : Q) → x.ready v ≡ true → x.speech.valid q ≡ true → plain y.speech.emission (given y.serve v (map write (x.full v q))) ≡ map write (plain x.speech.emission (given x.serve v (x.full v q)))
    replies v q ready valid = plain_spelled v (x.full v q) (spells.told v q ready valid) (spells.answered v q ready valid)

    replies_back : (v : V) (q : Q) → x.ready v ≡ true → x.speech.valid q ≡ true → Back (plain x.speech.emission (given x.serve v (x.full v q)))
    replies_back v q ready valid = each_filter _ (λ m. not (x.speech.emission m)) (given x.serve v (x.full v q)) (spells.answered v q ready valid)

    told_part : (v : V) (q : Q) → x.ready v ≡ true → x.speech.valid q ≡ true → (p r : List M) → x.full v q ≡ p ++ r → Back p
    told_part v q ready valid p r e = each_left _ p r (subst Back e (spells.told v q ready valid))

    answered_part : (v : V) (q : Q) → x.ready v ≡ true → x.speech.valid q ≡ true → (p r : List M) → x.full v q ≡ p ++ r → Back (given x.serve v p)
    answered_part v q ready valid p r e =
        let begins = given_part x.serve v p (x.full v q) (r, sym e) in
        each_left _ (given x.serve v p) begins.0 (subst Back (sym begins.1) (spells.answered v q ready valid))

    part : (v : V) (q : Q) → x.ready v ≡ true → x.speech.valid q ≡ true → (ps rs : List N) → map write (x.full v q) ≡ ps ++ rs → Untouched y core v ps ⊎ Touched y core v q ps
    part v q ready valid ps rs e =
        let c = cut_before write (x.full v q) ps rs e in
        let told = told_part v q ready valid c.front c.rest c.whole in
        let answered = answered_part v q ready valid c.front c.rest c.whole in
        elim (law.part v q ready valid c.front c.rest c.whole) [
          | inl is ↦ inl (subst (Untouched y core v) (sym c.front_is) (untouched v c.front told answered is))
          | inr is ↦ inr (subst (Touched y core v q) (sym c.front_is) (touched v q c.front told answered is))
        ]

    counted : (v : V) (q : Q) → x.ready v ≡ true → x.speech.valid q ≡ true → x.speech.handed q ≡ false → (ps rs : List N) → map write (x.full v q) ≡ ps ++ rs →
        plain y.speech.emission (given y.serve v ps) ≡ plain y.speech.emission (given y.serve v (map write (x.full v q))) → Touched y core v q ps
    counted v q ready valid answers ps rs e same =
        let c = cut_before write (x.full v q) ps rs e in
        let told = told_part v q ready valid c.front c.rest c.whole in
        let answered = answered_part v q ready valid c.front c.rest c.whole in
        let some : map write (plain x.speech.emission (given x.serve v c.front)) ≡ map write (plain x.speech.emission (given x.serve v (x.full v q))) =
        sym (ap (λ l. plain y.speech.emission (given y.serve v l)) c.front_is ∙ plain_spelled v c.front told answered) ∙ same ∙ replies v q ready valid in
        let equal : plain x.speech.emission (given x.serve v c.front) ≡ plain x.speech.emission (given x.serve v (x.full v q)) =
        sym (all_back x read write _ (each_filter _ (λ m. not (x.speech.emission m)) (given x.serve v c.front) answered)) ∙ ap (map read) some ∙ all_back x read write _ (replies_back v q ready valid) in
        subst (Touched y core v q) (sym c.front_is) (touched v q c.front told answered (law.counted v q ready valid answers c.front c.rest c.whole equal))

    follows : (v : V) (q : Q) → x.ready v ≡ true → x.speech.valid q ≡ true → (hs more : List N) → plain y.speech.emission (given y.serve v (map write (x.full v q))) ≡ hs ++ more →
        IsPrefixOf (map write (x.speech.planned q (map read hs))) (map write (x.full v q))
    follows v q ready valid hs more e =
        let c = cut_before write (plain x.speech.emission (given x.serve v (x.full v q))) hs more (sym (replies v q ready valid) ∙ e) in
        let back = each_left _ c.front c.rest (subst Back c.whole (replies_back v q ready valid)) in
        let read_is : map read hs ≡ c.front = ap (map read) c.front_is ∙ all_back x read write c.front back in
        subst (λ l. IsPrefixOf (map write (x.speech.planned q l)) (map write (x.full v q))) (sym read_is)
        (map_begin write (x.speech.planned q c.front) (x.full v q) (law.follows v q ready valid c.front c.rest c.whole))

    some_mapped : (ms : List M) → ms ≢ [] → map write ms ≢ []
    some_mapped [] is e = is refl
    some_mapped (m ∷ ms) is e = absurd (cc)

    pub spelled_served : IsServed (lifted x read write) core
    spelled_served = record {
      ready = law.ready;
      passes = λ v n ready. law.passes v (read n) ready;
      whole = λ v q ready valid. after_spelled v (x.full v q) (spells.told v q ready valid) ∙ law.whole v q ready valid;
      counts = law.counts;
      all_emitted = λ v q ready valid. emitted_spelled v (x.full v q) (spells.told v q ready valid) (spells.answered v q ready valid) ∙ ap (map write) (law.all_emitted v q ready valid);
      replied = λ v q ready valid answers. ap (λ l. x.speech.ends q (map read l)) (replies v q ready valid)
          ∙ ap (x.speech.ends q) (all_back x read write _ (replies_back v q ready valid)) ∙ law.replied v q ready valid answers;
      silent = λ v q ready valid posts. replies v q ready valid ∙ ap (map write) (law.silent v q ready valid posts);
      part = part;
      counted = counted;
      none = law.none;
      ended = λ q hs h more r e. ap (x.speech.ends q) (map_append read hs (h ∷ more)) ∙ law.ended q (map read hs) (read h) (map read more) r e;
      follows = follows;
      all_planned = λ v q ready valid. ap (λ l. map write (x.speech.planned q (map read l))) (replies v q ready valid)
          ∙ ap (λ l. map write (x.speech.planned q l)) (all_back x read write _ (replies_back v q ready valid)) ∙ ap (map write) (law.all_planned v q ready valid);
      unanswered = λ q hs posts. law.unanswered q (map read hs) posts;
      some = λ v q ready valid. some_mapped (x.full v q) (law.some v q ready valid);
      grows = λ v n. law.grows v (read n);
    }
