-- The laws of an exchange over mails are those of the exchange over what these mails are written as.
use Rattle.std.proofs.Common.{◌≡◌, ◌≢◌, ◌⊎◌, inl, inr, Bool, true, false, not, cond, List, [], ◌∷◌, ◌++◌, map, filter, refl, sym, ap, ap₂, ◌∙◌, subst}
use Rattle.exchange_model.specs.Prefix.{IsPrefixOf}
use Rattle.exchange_model.specs.Exchange.{Exchange, IsLawful, Before, Behind, after, given, plain, emitted}
use Rattle.exchange_model.specs.Lifted.{EachOf, ReadsBack, Spells, lifted, lifted_serve}
use Rattle.exchange_model.proofs.Words.{given_part}

each_left : {M : Type 0} (P : M → Type 0) (xs ys : List M) → EachOf P (xs ++ ys) → EachOf P xs
each_left P [] ys all = tt
each_left P (x ∷ xs) ys all = (all.0, each_left P xs ys all.1)

each_right : {M : Type 0} (P : M → Type 0) (xs ys : List M) → EachOf P (xs ++ ys) → EachOf P ys
each_right P [] ys all = all
each_right P (x ∷ xs) ys all = each_right P xs ys all.1

each_begin : {M : Type 0} (P : M → Type 0) (xs ys : List M) → IsPrefixOf xs ys → EachOf P ys → EachOf P xs
each_begin P xs ys h all = each_left P xs h.0 (subst (EachOf P) (sym h.1) all)

pub each_filter : {M : Type 0} (P : M → Type 0) (p : M → Bool) (xs : List M) → EachOf P xs → EachOf P (filter p xs)
each_filter P p [] all = tt
each_filter P p (x ∷ xs) all = keep (p x) (each_filter P p xs all.1)
  where
    keep : (b : Bool) → EachOf P (filter p xs) → EachOf P (cond b (x ∷ filter p xs) (filter p xs))
    keep true rest = (all.0, rest)
    keep false rest = rest

pub map_append : {M N : Type 0} (f : M → N) (xs ys : List M) → map f (xs ++ ys) ≡ map f xs ++ map f ys
map_append f [] ys = refl
map_append f (x ∷ xs) ys = ap (λ l. f x ∷ l) (map_append f xs ys)

pub map_begin : {M N : Type 0} (f : M → N) (xs ys : List M) → IsPrefixOf xs ys → IsPrefixOf (map f xs) (map f ys)
map_begin f xs ys h = (map f h.0, sym (map_append f xs h.0) ∙ ap (map f) h.1)

-- where a list that was mapped is cut, the list itself is
pub record CutBefore {M N : Type 0} (f : M → N) (xs : List M) (ys zs : List N) : Type 0 where
  pub front : List M
  pub rest : List M
  pub whole : xs ≡ front ++ rest
  pub front_is : ys ≡ map f front
  pub rest_is : zs ≡ map f rest

pub cut_before : {M N : Type 0} (f : M → N) (xs : List M) (ys zs : List N) → map f xs ≡ ys ++ zs → CutBefore f xs ys zs
cut_before f xs [] zs e = record { front = []; rest = xs; whole = refl; front_is = refl; rest_is = sym e }
cut_before f [] (y ∷ ys) zs e = absurd (cc)
cut_before f (x ∷ xs) (y ∷ ys) zs e =
    let head : f x ≡ y = cc in
    let tail : map f xs ≡ ys ++ zs = cc in
    let c = cut_before f xs ys zs tail in
    record {
      front = x ∷ c.front;
      rest = c.rest;
      whole = ap (λ l. x ∷ l) c.whole;
      front_is = ap₂ (λ (a : _) (l : List _). a ∷ l) (sym head) c.front_is;
      rest_is = c.rest_is;
    }

module _ {V A M N Q R : Type 0} (x : Exchange V A M Q R) (read : N → M) (write : M → N) where
  after_lifted : (v : V) (ms : List M) → EachOf (ReadsBack read write) ms → after (lifted_serve x.serve read write) v (map write ms) ≡ after x.serve v ms
  after_lifted v [] all = refl
  after_lifted v (m ∷ ms) all = ap (λ k. after (lifted_serve x.serve read write) (x.serve v k).0 (map write ms)) all.0 ∙ after_lifted (x.serve v m).0 ms all.1

  given_lifted : (v : V) (ms : List M) → EachOf (ReadsBack read write) ms → given (lifted_serve x.serve read write) v (map write ms) ≡ map write (given x.serve v ms)
  given_lifted v [] all = refl
  given_lifted v (m ∷ ms) all =
      ap (λ k. map write (x.serve v k).1 ++ given (lifted_serve x.serve read write) (x.serve v k).0 (map write ms)) all.0
      ∙ ap (λ l. map write (x.serve v m).1 ++ l) (given_lifted (x.serve v m).0 ms all.1)
      ∙ sym (map_append write (x.serve v m).1 (given x.serve (x.serve v m).0 ms))

  filter_lifted : (p : M → Bool) (ms : List M) → EachOf (ReadsBack read write) ms → filter (λ n. p (read n)) (map write ms) ≡ map write (filter p ms)
  filter_lifted p [] all = refl
  filter_lifted p (m ∷ ms) all = ap (λ k. cond (p k) (write m ∷ filter (λ n. p (read n)) (map write ms)) (filter (λ n. p (read n)) (map write ms))) all.0 ∙ keep (p m) (filter_lifted p ms all.1)
    where
      keep : (b : Bool) → filter (λ n. p (read n)) (map write ms) ≡ map write (filter p ms) →
          cond b (write m ∷ filter (λ n. p (read n)) (map write ms)) (filter (λ n. p (read n)) (map write ms)) ≡ map write (cond b (m ∷ filter p ms) (filter p ms))
      keep true e = ap (λ l. write m ∷ l) e
      keep false e = e

  pub all_back : (ms : List M) → EachOf (ReadsBack read write) ms → map read (map write ms) ≡ ms
  all_back [] all = refl
  all_back (m ∷ ms) all = ap₂ (λ (k : M) (l : List M). k ∷ l) all.0 (all_back ms all.1)

  before_lifted : (v : V) (p : List M) → EachOf (ReadsBack read write) p → EachOf (ReadsBack read write) (given x.serve v p) → Before x v p → Before (lifted x read write) v (map write p)
  before_lifted v p told answered before = record {
    app = ap x.app (after_lifted v p told) ∙ before.app;
    handled = ap x.handled (after_lifted v p told) ∙ before.handled;
    emitted = ap (filter (λ n. x.speech.emission (read n))) (given_lifted v p told) ∙ filter_lifted x.speech.emission (given x.serve v p) answered ∙ ap (map write) before.emitted;
  }

  behind_lifted : (v : V) (q : Q) (p : List M) → EachOf (ReadsBack read write) p → EachOf (ReadsBack read write) (given x.serve v p) → Behind x v q p → Behind (lifted x read write) v q (map write p)
  behind_lifted v q p told answered behind = record {
    app = ap x.app (after_lifted v p told) ∙ behind.app;
    handled = ap x.handled (after_lifted v p told) ∙ behind.handled;
    emitted = subst (λ es. IsPrefixOf es (map write (x.emits (x.app v) q)))
        (sym (ap (filter (λ n. x.speech.emission (read n))) (given_lifted v p told) ∙ filter_lifted x.speech.emission (given x.serve v p) answered))
        (map_begin write (emitted x.speech.emission (given x.serve v p)) (x.emits (x.app v) q) behind.emitted);
  }

  module _ (law : IsLawful x) (spells : Spells x read write) where
    -- what is given for all mails, and for a first part of them
    replies : (v : V) (q : Q) → x.ready v ≡ true → x.speech.valid q ≡ true →
        plain (λ n. x.speech.emission (read n)) (given (lifted_serve x.serve read write) v (map write (x.full v q))) ≡ map write (plain x.speech.emission (given x.serve v (x.full v q)))
    replies v q ready valid =
        ap (filter (λ n. not (x.speech.emission (read n)))) (given_lifted v (x.full v q) (spells.told v q ready valid))
        ∙ filter_lifted (λ m. not (x.speech.emission m)) (given x.serve v (x.full v q)) (spells.answered v q ready valid)

    replies_back : (v : V) (q : Q) → x.ready v ≡ true → x.speech.valid q ≡ true → EachOf (ReadsBack read write) (plain x.speech.emission (given x.serve v (x.full v q)))
    replies_back v q ready valid = each_filter _ (λ m. not (x.speech.emission m)) (given x.serve v (x.full v q)) (spells.answered v q ready valid)

    told_part : (v : V) (q : Q) → x.ready v ≡ true → x.speech.valid q ≡ true → (p r : List M) → x.full v q ≡ p ++ r → EachOf (ReadsBack read write) p
    told_part v q ready valid p r e = each_left _ p r (subst (EachOf (ReadsBack read write)) e (spells.told v q ready valid))

    answered_part : (v : V) (q : Q) → x.ready v ≡ true → x.speech.valid q ≡ true → (p r : List M) → x.full v q ≡ p ++ r → EachOf (ReadsBack read write) (given x.serve v p)
    answered_part v q ready valid p r e = each_begin _ (given x.serve v p) (given x.serve v (x.full v q)) (given_part x.serve v p (x.full v q) (r, sym e)) (spells.answered v q ready valid)

    lifted_part : (v : V) (q : Q) → x.ready v ≡ true → x.speech.valid q ≡ true → (ps rs : List N) → map write (x.full v q) ≡ ps ++ rs →
        Before (lifted x read write) v ps ⊎ Behind (lifted x read write) v q ps
    lifted_part v q ready valid ps rs e =
        let c = cut_before write (x.full v q) ps rs e in
        let told = told_part v q ready valid c.front c.rest c.whole in
        let answered = answered_part v q ready valid c.front c.rest c.whole in
        elim (law.part v q ready valid c.front c.rest c.whole) [
          | inl before ↦ inl (subst (Before (lifted x read write) v) (sym c.front_is) (before_lifted v c.front told answered before))
          | inr behind ↦ inr (subst (Behind (lifted x read write) v q) (sym c.front_is) (behind_lifted v q c.front told answered behind))
        ]

    lifted_counted : (v : V) (q : Q) → x.ready v ≡ true → x.speech.valid q ≡ true → x.speech.handed q ≡ false → (ps rs : List N) → map write (x.full v q) ≡ ps ++ rs →
        plain (λ n. x.speech.emission (read n)) (given (lifted_serve x.serve read write) v ps) ≡ plain (λ n. x.speech.emission (read n)) (given (lifted_serve x.serve read write) v (map write (x.full v q))) →
        Behind (lifted x read write) v q ps
    lifted_counted v q ready valid answers ps rs e same =
        let c = cut_before write (x.full v q) ps rs e in
        let told = told_part v q ready valid c.front c.rest c.whole in
        let answered = answered_part v q ready valid c.front c.rest c.whole in
        let some : map write (plain x.speech.emission (given x.serve v c.front)) ≡ map write (plain x.speech.emission (given x.serve v (x.full v q))) =
        sym (ap (λ l. plain (λ n. x.speech.emission (read n)) (given (lifted_serve x.serve read write) v l)) c.front_is
        ∙ ap (filter (λ n. not (x.speech.emission (read n)))) (given_lifted v c.front told)
        ∙ filter_lifted (λ m. not (x.speech.emission m)) (given x.serve v c.front) answered)
        ∙ same ∙ replies v q ready valid in
        let equal : plain x.speech.emission (given x.serve v c.front) ≡ plain x.speech.emission (given x.serve v (x.full v q)) =
        sym (all_back _ (each_filter _ (λ m. not (x.speech.emission m)) (given x.serve v c.front) answered)) ∙ ap (map read) some ∙ all_back _ (replies_back v q ready valid) in
        subst (Behind (lifted x read write) v q) (sym c.front_is) (behind_lifted v q c.front told answered (law.counted v q ready valid answers c.front c.rest c.whole equal))

    lifted_follows : (v : V) (q : Q) → x.ready v ≡ true → x.speech.valid q ≡ true → (hs more : List N) →
        plain (λ n. x.speech.emission (read n)) (given (lifted_serve x.serve read write) v (map write (x.full v q))) ≡ hs ++ more → IsPrefixOf (map write (x.speech.planned q (map read hs))) (map write (x.full v q))
    lifted_follows v q ready valid hs more e =
        let c = cut_before write (plain x.speech.emission (given x.serve v (x.full v q))) hs more (sym (replies v q ready valid) ∙ e) in
        let back = each_left _ c.front c.rest (subst (EachOf (ReadsBack read write)) c.whole (replies_back v q ready valid)) in
        let read_is : map read hs ≡ c.front = ap (map read) c.front_is ∙ all_back c.front back in
        subst (λ l. IsPrefixOf (map write (x.speech.planned q l)) (map write (x.full v q))) (sym read_is)
        (map_begin write (x.speech.planned q c.front) (x.full v q) (law.follows v q ready valid c.front c.rest c.whole))

    lifted_some : (v : V) (q : Q) → x.ready v ≡ true → x.speech.valid q ≡ true → x.speech.handed q ≡ true → map write (x.full v q) ≢ []
    lifted_some v q ready valid posts = nothing (x.full v q) (law.some v q ready valid posts)
      where
        nothing : (ms : List M) → ms ≢ [] → map write ms ≢ []
        nothing [] is = λ e. is refl
        nothing (m ∷ ms) is = λ e. absurd (cc)

    -- the laws
    pub lifted_law : IsLawful (lifted x read write)
    lifted_law = record {
      ready = λ v q ready valid. ap x.ready (after_lifted v (x.full v q) (spells.told v q ready valid)) ∙ law.ready v q ready valid;
      whole = λ v q ready valid. behind_lifted v q (x.full v q) (spells.told v q ready valid) (spells.answered v q ready valid) (law.whole v q ready valid);
      all_emitted = λ v q ready valid. ap (filter (λ n. x.speech.emission (read n))) (given_lifted v (x.full v q) (spells.told v q ready valid))
          ∙ filter_lifted x.speech.emission (given x.serve v (x.full v q)) (spells.answered v q ready valid) ∙ ap (map write) (law.all_emitted v q ready valid);
      replied = λ v q ready valid answers. ap (λ l. x.speech.ends q (map read l)) (replies v q ready valid) ∙ ap (x.speech.ends q) (all_back _ (replies_back v q ready valid)) ∙ law.replied v q ready valid answers;
      silent = λ v q ready valid posts. replies v q ready valid ∙ ap (map write) (law.silent v q ready valid posts);
      part = lifted_part;
      counted = lifted_counted;
      none = law.none;
      ended = λ q hs h more r e. ap (x.speech.ends q) (map_append read hs (h ∷ more)) ∙ law.ended q (map read hs) (read h) (map read more) r e;
      follows = lifted_follows;
      all_planned = λ v q ready valid. ap (λ l. map write (x.speech.planned q (map read l))) (replies v q ready valid)
          ∙ ap (λ l. map write (x.speech.planned q l)) (all_back _ (replies_back v q ready valid)) ∙ ap (map write) (law.all_planned v q ready valid);
      unanswered = λ q hs posts. law.unanswered q (map read hs) posts;
      some = lifted_some;
      grows = λ v n. law.grows v (read n);
    }
