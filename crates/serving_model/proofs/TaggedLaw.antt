-- Services from any server, with mails that are passed on, keep the laws of an exchange.
use Rattle.std.proofs.Common.{◌≡◌, ◌≢◌, ◌⊎◌, inl, inr, ℕ, suc, ◌+◌, ◌-◌, ◌≤◌, ◌==◌, Bool, true, false, not, cond, Option, None, Some, option_map, List, [], ◌∷◌, ◌++◌, map, refl, sym, ap, ap₂, ◌∙◌, subst, arith, append_assoc, append-nil, if◌then◌else◌}
use Rattle.std.proofs.lemmas.Bool.Decides.{nat_tests}
use Rattle.state_model.specs.of_exchange_model.Prefix.{IsPrefixOf}
use Rattle.state_model.specs.of_exchange_model.Exchange.{Exchange, IsLawful, Before, Behind, after, given, plain, emitted}
use Rattle.state_model.proofs.of_exchange_model.Words.{after-append}
use Rattle.serving_model.specs.Tagged.{IsServed, Untouched, Touched, Meant, Tagged, Asked, untag, more_of, told, gift, own_gift, is_own, is_mark, no_reply, last_gifts, answer_gifts, ends_marked, Rowed, real, ideal, rows_done, serve_tagged, tagged}

map_append : {M N : Type 0} (f : M → N) (xs ys : List M) → map f (xs ++ ys) ≡ map f xs ++ map f ys
map_append f [] ys = refl
map_append f (x ∷ xs) ys = ap (λ l. f x ∷ l) (map_append f xs ys)

untag-more : {M : Type 0} (Q : Type 0) (ms : List M) → untag {Q = Q} (map (λ m. more_of m) ms) ≡ ms
untag-more Q [] = refl
untag-more Q (m ∷ ms) = ap (λ l. m ∷ l) (untag-more Q ms)

pub untag-told : {M Q : Type 0} (q : Q) (ms : List M) → untag (told q ms) ≡ ms
untag-told q [] = refl
untag-told {Q = Q} q (m ∷ ms) = ap (λ l. m ∷ l) (untag-more Q ms)

pub untag-append : {M Q : Type 0} (xs ys : List (Tagged M Q)) → untag (xs ++ ys) ≡ untag xs ++ untag ys
untag-append xs ys = map_append (λ t. t.mail) xs ys

untag-nil : {M Q : Type 0} (ts : List (Tagged M Q)) → untag ts ≡ [] → ts ≡ []
untag-nil [] e = refl
untag-nil (t ∷ ts) e = absurd (cc)

told-prefix : {M Q : Type 0} (q : Q) (xs ys : List M) → IsPrefixOf xs ys → IsPrefixOf (told q xs) (told q ys)
told-prefix q [] ys h = (told q ys, refl)
told-prefix q (x ∷ xs) [] h = absurd (let bad : x ∷ (xs ++ h.0) ≡ [] = h.1 in cc)
told-prefix {M} {Q} q (x ∷ xs) (y ∷ ys) h =
    let all : x ∷ (xs ++ h.0) ≡ y ∷ ys = h.1 in
    let head : x ≡ y = cc in
    let tail : xs ++ h.0 ≡ ys = cc in
    (map (λ m. more_of m) h.0, ap₂ (λ (m : M) (l : List (Tagged M Q)). record { mail = m; meant = Meant.First q } ∷ l) head (sym (map_append (λ m. more_of m) xs h.0) ∙ ap (map (λ m. more_of m)) tail))

-- a first part of what is told is a first part of the mails
record CutMore {M Q : Type 0} (ms : List M) (p r : List (Tagged M Q)) : Type 0 where
  front : List M
  rest : List M
  whole : ms ≡ front ++ rest
  is : p ≡ map (λ m. more_of m) front

cut_more : {M Q : Type 0} (ms : List M) (p r : List (Tagged M Q)) → map (λ m. more_of m) ms ≡ p ++ r → CutMore ms p r
cut_more ms [] r e = record { front = []; rest = ms; whole = refl; is = refl }
cut_more [] (t ∷ p) r e = absurd (cc)
cut_more (m ∷ ms) (t ∷ p) r e =
    let head : more_of m ≡ t = cc in
    let tail : map (λ m. more_of m) ms ≡ p ++ r = cc in
    let c = cut_more ms p r tail in
    record { front = m ∷ c.front; rest = c.rest; whole = ap (λ l. m ∷ l) c.whole; is = ap₂ (λ (a : _) (l : List _). a ∷ l) (sym head) c.is }

pub data CutTold {M Q : Type 0} (q : Q) (ms : List M) (p : List (Tagged M Q)) : Type 0 where
  nothing : p ≡ [] → CutTold q ms p
  some : (m : M) (front rest : List M) → ms ≡ (m ∷ front) ++ rest → p ≡ told q (m ∷ front) → CutTold q ms p

pub cut_told : {M Q : Type 0} (q : Q) (ms : List M) (p r : List (Tagged M Q)) → told q ms ≡ p ++ r → CutTold q ms p
cut_told q ms [] r e = CutTold.nothing refl
cut_told q [] (t ∷ p) r e = absurd (cc)
cut_told q (m ∷ ms) (t ∷ p) r e =
    let head : record { mail = m; meant = Meant.First q } ≡ t = cc in
    let tail : map (λ m. more_of m) ms ≡ p ++ r = cc in
    let c = cut_more ms p r tail in
    CutTold.some m c.front c.rest (ap (λ l. m ∷ l) c.whole) (ap₂ (λ (a : _) (l : List _). a ∷ l) (sym head) c.is)

-- what a server gives, with what is meant by it
pub own-gift : {M : Type 0} (Q : Type 0) (e : M → Bool) (m : M) → is_own (gift {Q = Q} e m).meant ≡ e m
own-gift Q e m = go (e m)
  where
    go : (b : Bool) → is_own {Q = Q} (if b then Meant.Own else Meant.Reply false) ≡ b
    go true = refl
    go false = refl

abbrev pub gifts : {M : Type 0} (Q : Type 0) → (M → Bool) → List M → List (Tagged M Q)
gifts Q e ms = map (λ m. gift e m) ms

pub untag-gift : {M : Type 0} (Q : Type 0) (e : M → Bool) (ms : List M) → untag (gifts Q e ms) ≡ ms
untag-gift Q e [] = refl
untag-gift Q e (m ∷ ms) = ap (λ l. m ∷ l) (untag-gift Q e ms)

abbrev pub owns : {M : Type 0} (Q : Type 0) → List M → List (Tagged M Q)
owns Q ms = map (λ m. own_gift m) ms

abbrev plain_tags : {M Q : Type 0} → List (Tagged M Q) → List (Tagged M Q)
plain_tags ts = plain (λ t. is_own t.meant) ts

abbrev emitted_tags : {M Q : Type 0} → List (Tagged M Q) → List (Tagged M Q)
emitted_tags ts = emitted (λ t. is_own t.meant) ts

plain-gifts : {M : Type 0} (Q : Type 0) (e : M → Bool) (ms : List M) → untag (plain_tags (gifts Q e ms)) ≡ plain e ms
plain-gifts Q e [] = refl
plain-gifts {M} Q e (m ∷ ms) =
    ap (λ b. untag (cond (not b) (gift {Q = Q} e m ∷ plain_tags (gifts Q e ms)) (plain_tags (gifts Q e ms)))) (own-gift Q e m) ∙ go (e m) (plain-gifts Q e ms)
  where
    go : (b : Bool) → untag (plain_tags (gifts Q e ms)) ≡ plain e ms → untag (cond (not b) (gift {Q = Q} e m ∷ plain_tags (gifts Q e ms)) (plain_tags (gifts Q e ms))) ≡ cond (not b) (m ∷ plain e ms) (plain e ms)
    go true rest = rest
    go false rest = ap (λ l. m ∷ l) rest

emitted-gifts : {M : Type 0} (Q : Type 0) (e : M → Bool) (ms : List M) → emitted_tags (gifts Q e ms) ≡ owns Q (emitted e ms)
emitted-gifts Q e [] = refl
emitted-gifts {M} Q e (m ∷ ms) = go (e m) refl (emitted-gifts Q e ms)
  where
    go : (b : Bool) → e m ≡ b → emitted_tags (gifts Q e ms) ≡ owns Q (emitted e ms) → emitted_tags (gifts Q e (m ∷ ms)) ≡ owns Q (emitted e (m ∷ ms))
    go true is rest =
        ap (λ b. cond b (gift {Q = Q} e m ∷ emitted_tags (gifts Q e ms)) (emitted_tags (gifts Q e ms))) (own-gift Q e m ∙ is)
        ∙ ap₂ (λ (t : Tagged M Q) (l : List (Tagged M Q)). t ∷ l) (ap (λ b. record { mail = m; meant = if b then Meant.Own else Meant.Reply false }) is) rest
        ∙ ap (λ b. owns Q (cond b (m ∷ emitted e ms) (emitted e ms))) (sym is)
    go false is rest =
        ap (λ b. cond b (gift {Q = Q} e m ∷ emitted_tags (gifts Q e ms)) (emitted_tags (gifts Q e ms))) (own-gift Q e m ∙ is)
        ∙ rest ∙ ap (λ b. owns Q (cond b (m ∷ emitted e ms) (emitted e ms))) (sym is)

emitted-owns : {M : Type 0} (Q : Type 0) (ms : List M) → emitted_tags (owns Q ms) ≡ owns Q ms
emitted-owns Q [] = refl
emitted-owns Q (m ∷ ms) = ap (λ l. own_gift m ∷ l) (emitted-owns Q ms)

plain-owns : {M : Type 0} (Q : Type 0) (ms : List M) → plain_tags (owns Q ms) ≡ []
plain-owns Q [] = refl
plain-owns Q (m ∷ ms) = plain-owns Q ms

emitted-last : {M : Type 0} (Q : Type 0) (e : M → Bool) (ms : List M) → emitted_tags (last_gifts {Q = Q} e ms) ≡ owns Q (emitted e ms)
emitted-last Q e [] = refl
emitted-last {M} Q e (m ∷ ms) = go (e m) (emitted-last Q e ms)
  where
    go : (b : Bool) → emitted_tags (last_gifts {Q = Q} e ms) ≡ owns Q (emitted e ms) →
        emitted_tags (record { mail = m; meant = if b then Meant.Own else Meant.Reply (no_reply e ms) } ∷ last_gifts {Q = Q} e ms) ≡ owns Q (cond b (m ∷ emitted e ms) (emitted e ms))
    go true rest = ap (λ l. own_gift m ∷ l) rest
    go false rest = rest

emitted-answer : {M : Type 0} (Q : Type 0) (e : M → Bool) (m : M) (ms : List M) → emitted_tags (answer_gifts {Q = Q} e m ms) ≡ owns Q (emitted e ms)
emitted-answer {M} Q e m ms = go (no_reply e ms)
  where
    go : (b : Bool) → emitted_tags (if b then record { mail = m; meant = Meant.Reply true } ∷ last_gifts {Q = Q} e ms else last_gifts {Q = Q} e ms) ≡ owns Q (emitted e ms)
    go true = emitted-last Q e ms
    go false = emitted-last Q e ms

plain-none : {M : Type 0} (Q : Type 0) (e : M → Bool) (ms : List M) → no_reply e ms ≡ true → plain_tags (last_gifts {Q = Q} e ms) ≡ []
plain-none Q e [] quiet = refl
plain-none {M} Q e (m ∷ ms) quiet = go (e m) quiet (λ q. plain-none Q e ms q)
  where
    go : (b : Bool) → (if b then no_reply e ms else false) ≡ true → (no_reply e ms ≡ true → plain_tags (last_gifts {Q = Q} e ms) ≡ []) →
        plain_tags (record { mail = m; meant = if b then Meant.Own else Meant.Reply (no_reply e ms) } ∷ last_gifts {Q = Q} e ms) ≡ []
    go true quiet rest = rest quiet
    go false quiet rest = absurd (cc)

-- with another before it that isn't marked
before_marked : {M Q : Type 0} (t : Tagged M Q) (ts : List (Tagged M Q)) → is_mark t.meant ≡ false → ends_marked ts ≡ true → ends_marked (t ∷ ts) ≡ true
before_marked t [] not_t last = absurd (cc)
before_marked t (u ∷ ts) not_t last = ap (λ b. if b then false else ends_marked (u ∷ ts)) not_t ∙ last

marked-last : {M : Type 0} (Q : Type 0) (e : M → Bool) (ms : List M) → no_reply e ms ≡ false → ends_marked (plain_tags (last_gifts {Q = Q} e ms)) ≡ true
marked-last Q e [] loud = absurd (cc)
marked-last {M} Q e (m ∷ ms) loud = go (e m) loud (λ s. marked-last Q e ms s)
  where
    head : (b : Bool) → no_reply e ms ≡ b → (no_reply e ms ≡ false → ends_marked (plain_tags (last_gifts {Q = Q} e ms)) ≡ true) →
        ends_marked (record { mail = m; meant = Meant.Reply (no_reply e ms) } ∷ plain_tags (last_gifts {Q = Q} e ms)) ≡ true
    head true is rest = ap (λ l. ends_marked (record { mail = m; meant = Meant.Reply (no_reply e ms) } ∷ l)) (plain-none Q e ms is) ∙ is
    head false is rest = before_marked (record { mail = m; meant = Meant.Reply (no_reply e ms) }) (plain_tags (last_gifts {Q = Q} e ms)) is (rest is)

    go : (b : Bool) → (if b then no_reply e ms else false) ≡ false → (no_reply e ms ≡ false → ends_marked (plain_tags (last_gifts {Q = Q} e ms)) ≡ true) →
        ends_marked (plain_tags (record { mail = m; meant = if b then Meant.Own else Meant.Reply (no_reply e ms) } ∷ last_gifts {Q = Q} e ms)) ≡ true
    go true loud rest = rest loud
    go false loud rest = head (no_reply e ms) refl rest

pub marked-answer : {M : Type 0} (Q : Type 0) (e : M → Bool) (m : M) (ms : List M) → ends_marked (plain_tags (answer_gifts {Q = Q} e m ms)) ≡ true
marked-answer {M} Q e m ms = go (no_reply e ms) refl
  where
    go : (b : Bool) → no_reply e ms ≡ b → ends_marked (plain_tags (if b then record { mail = m; meant = Meant.Reply true } ∷ last_gifts {Q = Q} e ms else last_gifts {Q = Q} e ms)) ≡ true
    go true is = ap (λ l. ends_marked (record { mail = m; meant = Meant.Reply true } ∷ l)) (plain-none Q e ms is)
    go false is = marked-last Q e ms is

pub marked-ended : {M Q : Type 0} (hs : List (Tagged M Q)) (h : Tagged M Q) (more : List (Tagged M Q)) → ends_marked hs ≡ true → ends_marked (hs ++ h ∷ more) ≡ false
marked-ended [] h more e = absurd (cc)
marked-ended (t ∷ []) h more e = ap (λ b. if b then false else ends_marked (h ∷ more)) e
marked-ended (t ∷ (u ∷ ts)) h more e = go (is_mark t.meant) e (λ l. marked-ended (u ∷ ts) h more l)
  where
    go : (b : Bool) → (if b then false else ends_marked (u ∷ ts)) ≡ true → (ends_marked (u ∷ ts) ≡ true → ends_marked (u ∷ (ts ++ h ∷ more)) ≡ false) → (if b then false else ends_marked (u ∷ (ts ++ h ∷ more))) ≡ false
    go true e rest = absurd (cc)
    go false e rest = rest e

owns-prefix : {M : Type 0} (Q : Type 0) (xs ys : List M) → IsPrefixOf xs ys → IsPrefixOf (owns Q xs) (owns Q ys)
owns-prefix Q xs ys h = (owns Q h.0, sym (map_append (λ m. own_gift m) xs h.0) ∙ ap (owns Q) h.1)

pub same-is : (a b : ℕ) → a ≡ b → (a == b) ≡ true
same-is a b e = grind (arith, nat_tests, e)

more-isnt : (a b : ℕ) → a ≡ suc b → (a == b) ≡ false
more-isnt a b e = grind (arith, nat_tests, e)

module _ {V M Q R C : Type 0} (x : Exchange V V M Q R) (core : V → C) (law : IsServed x core) where
  serves : Rowed V M Q → Tagged M Q → Rowed V M Q × List (Tagged M Q)
  serves = (tagged x).serve

  more-after : (w : Rowed V M Q) (ms : List M) → after (tagged x).serve w (map (λ m. more_of m) ms) ≡ record w { part = w.part ++ ms }
  more-after w [] = ap (λ l. record w { part = l }) (sym (append-nil w.part))
  more-after w (m ∷ ms) = more-after (record w { part = w.part ++ m ∷ [] }) ms ∙ ap (λ l. record w { part = l }) (append_assoc w.part (m ∷ []) ms)

  more-given : (w : Rowed V M Q) (ms : List M) → given (tagged x).serve w (map (λ m. more_of m) ms) ≡ gifts Q x.speech.emission (given x.serve (real x w) ms)
  more-given w [] = refl
  more-given w (m ∷ ms) =
      ap (λ l. gifts Q x.speech.emission (x.serve (real x w) m).1 ++ l) (more-given (record w { part = w.part ++ m ∷ [] }) ms
      ∙ ap (λ v. gifts Q x.speech.emission (given x.serve v ms)) (after-append x.serve w.base w.part (m ∷ [])))
      ∙ sym (map_append (λ g. gift x.speech.emission g) (x.serve (real x w) m).1 (given x.serve (x.serve (real x w) m).0 ms))

  abbrev pub behind_told : Rowed V M Q → Q → List M → Rowed V M Q
  behind_told w q ms = record { base = ideal x w; hand = Some q; part = ms; count = rows_done x w }

  pub told-after : (w : Rowed V M Q) (q : Q) (m : M) (ms : List M) → after (tagged x).serve w (told q (m ∷ ms)) ≡ behind_told w q (m ∷ ms)
  told-after w q m ms = more-after (behind_told w q (m ∷ [])) ms

  pub told-given : (w : Rowed V M Q) (q : Q) (ms : List M) → given (tagged x).serve w (told q ms) ≡ gifts Q x.speech.emission (given x.serve (ideal x w) ms)
  told-given w q [] = refl
  told-given w q (m ∷ ms) =
      ap (λ l. gifts Q x.speech.emission (x.serve (ideal x w) m).1 ++ l) (more-given (behind_told w q (m ∷ [])) ms)
      ∙ sym (map_append (λ g. gift x.speech.emission g) (x.serve (ideal x w) m).1 (given x.serve (x.serve (ideal x w) m).0 ms))

  told-emitted : (w : Rowed V M Q) (q : Q) (ms : List M) → emitted_tags (given (tagged x).serve w (told q ms)) ≡ owns Q (emitted x.speech.emission (given x.serve (ideal x w) ms))
  told-emitted w q ms = ap emitted_tags (told-given w q ms) ∙ emitted-gifts Q x.speech.emission (given x.serve (ideal x w) ms)

  pub told-plain : (w : Rowed V M Q) (q : Q) (ms : List M) → untag (plain_tags (given (tagged x).serve w (told q ms))) ≡ plain x.speech.emission (given x.serve (ideal x w) ms)
  told-plain w q ms = ap (λ l. untag (plain_tags l)) (told-given w q ms) ∙ plain-gifts Q x.speech.emission (given x.serve (ideal x w) ms)

  before : (w : Rowed V M Q) (q : Q) (m : M) (ms : List M) → Untouched x core (ideal x w) (m ∷ ms) → Before (tagged x) w (told q (m ∷ ms))
  before w q m ms u = record {
    app = ap (ideal x) (told-after w q m ms) ∙ ap (λ b. if b then ideal x w else x.exec (ideal x w) q) (same-is _ _ u.handled);
    handled = ap (rows_done x) (told-after w q m ms) ∙ (let same = u.handled in let is : rows_done x w + (x.handled (after x.serve (ideal x w) (m ∷ ms)) - x.handled (ideal x w)) ≡ rows_done x w = omega (arith, same) in is);
    emitted = told-emitted w q (m ∷ ms) ∙ ap (owns Q) u.emitted;
  }

  behind : (w : Rowed V M Q) (q : Q) (m : M) (ms : List M) → Touched x core (ideal x w) q (m ∷ ms) → Behind (tagged x) w (Asked.Script q) (told q (m ∷ ms))
  behind w q m ms t = record {
    app = ap (ideal x) (told-after w q m ms) ∙ ap (λ b. if b then ideal x w else x.exec (ideal x w) q) (more-isnt _ _ t.handled);
    handled = ap (rows_done x) (told-after w q m ms) ∙ (let one = t.handled in let is : rows_done x w + (x.handled (after x.serve (ideal x w) (m ∷ ms)) - x.handled (ideal x w)) ≡ suc (rows_done x w) = omega (arith, one) in is);
    emitted = subst (λ l. IsPrefixOf l (owns Q (x.emits (ideal x w) q))) (sym (told-emitted w q (m ∷ ms))) (owns-prefix Q _ _ t.emitted);
  }

  empty : (w : Rowed V M Q) → Before (tagged x) w []
  empty w = record { app = refl; handled = refl; emitted = refl }

  alone_emitted : (w : Rowed V M Q) (m : M) (answers : Bool) → emitted_tags (given (tagged x).serve w (record { mail = m; meant = Meant.Alone answers } ∷ [])) ≡ (tagged x).emits (ideal x w) (Asked.Passed m answers)
  alone_emitted w m true = ap emitted_tags (append-nil (answer_gifts x.speech.emission m (x.serve (ideal x w) m).1)) ∙ emitted-answer Q x.speech.emission m (x.serve (ideal x w) m).1
  alone_emitted w m false = ap emitted_tags (append-nil (owns Q (x.serve (ideal x w) m).1)) ∙ emitted-owns Q (x.serve (ideal x w) m).1

  alone : (w : Rowed V M Q) (m : M) (answers : Bool) → Behind (tagged x) w (Asked.Passed m answers) (record { mail = m; meant = Meant.Alone answers } ∷ [])
  alone w m answers = record {
    app = refl;
    handled = let is : suc (rows_done x w) + (x.handled (x.serve (ideal x w) m).0 - x.handled (x.serve (ideal x w) m).0) ≡ suc (rows_done x w) = omega arith in is;
    emitted = ([], append-nil _ ∙ alone_emitted w m answers);
  }

  pub whole_touched : (v : V) (q : Q) → x.ready v ≡ true → x.speech.valid q ≡ true → Touched x core v q (x.full v q)
  whole_touched v q ready valid =
      let is = law.whole v q ready valid in
      record { core_is = ap core is; handled = ap x.handled is ∙ law.counts v q ready valid; emitted = ([], append-nil _ ∙ law.all_emitted v q ready valid) }

  pub full_behind : (w : Rowed V M Q) (q : Q) → x.ready (ideal x w) ≡ true → x.speech.valid q ≡ true → Behind (tagged x) w (Asked.Script q) (told q (x.full (ideal x w) q))
  full_behind w q ready valid = go (x.full (ideal x w) q) (law.some (ideal x w) q ready valid) (whole_touched (ideal x w) q ready valid)
    where
      go : (ms : List M) → ms ≢ [] → Touched x core (ideal x w) q ms → Behind (tagged x) w (Asked.Script q) (told q ms)
      go [] full t = absurd (full refl)
      go (m ∷ ms) full t = behind w q m ms t

  pub cut_alone : {X : Type 0} (y : X) (p r : List X) → y ∷ [] ≡ p ++ r → (p ≡ []) ⊎ (p ≡ y ∷ [])
  cut_alone y [] r e = inl refl
  cut_alone y (t ∷ []) r e = inr (let head : y ≡ t = cc in ap (λ z. z ∷ []) (sym head))
  cut_alone y (t ∷ (u ∷ p)) r e = absurd (cc)

  grows_tagged : (w : Rowed V M Q) (m : M) (meant : Meant Q) → rows_done x w ≤ rows_done x (serve_tagged x w m meant).0
  grows_tagged w m (Meant.First q) = omega arith
  grows_tagged w m Meant.More =
      let more = law.grows (real x w) m in
      let is = ap x.handled (after-append x.serve w.base w.part (m ∷ [])) in
      let le : w.count + (x.handled (real x w) - x.handled w.base) ≤ w.count + (x.handled (after x.serve w.base (w.part ++ m ∷ [])) - x.handled w.base) = omega (arith, more, is) in le
  grows_tagged w m (Meant.Alone answers) = omega arith
  grows_tagged w m (Meant.Reply marked) = omega arith
  grows_tagged w m Meant.Own = omega arith

  pub tagged_lawful : IsLawful (tagged x)
  tagged_lawful = record {
    ready = λ w q. ready_of w q;
    whole = λ w q. whole_of w q;
    all_emitted = λ w q. all_of w q;
    replied = λ w q. replied_of w q;
    silent = λ w q. silent_of w q;
    part = λ w q. part_of w q;
    counted = λ w q. counted_of w q;
    none = λ q. none_of q;
    ended = λ q hs h more r. ended_of q hs h more r;
    follows = λ w q. follows_of w q;
    all_planned = λ w q. planned_of w q;
    unanswered = λ q hs. unanswered_of q hs;
    some = λ w q. some_of w q;
    grows = λ w t. grows_tagged w t.mail t.meant;
  }
    where
      ready_of : (w : Rowed V M Q) (q : Asked M Q) → (tagged x).ready w ≡ true → (tagged x).speech.valid q ≡ true → (tagged x).ready (after (tagged x).serve w ((tagged x).full w q)) ≡ true
      ready_of w (Asked.Script q) ready valid = ap x.ready (full_behind w q ready valid).app ∙ law.ready (ideal x w) q ready valid
      ready_of w (Asked.Passed m answers) ready valid = law.passes (ideal x w) m ready

      whole_of : (w : Rowed V M Q) (q : Asked M Q) → (tagged x).ready w ≡ true → (tagged x).speech.valid q ≡ true → Behind (tagged x) w q ((tagged x).full w q)
      whole_of w (Asked.Script q) ready valid = full_behind w q ready valid
      whole_of w (Asked.Passed m answers) ready valid = alone w m answers

      all_of : (w : Rowed V M Q) (q : Asked M Q) → (tagged x).ready w ≡ true → (tagged x).speech.valid q ≡ true → emitted_tags (given (tagged x).serve w ((tagged x).full w q)) ≡ (tagged x).emits (ideal x w) q
      all_of w (Asked.Script q) ready valid = told-emitted w q (x.full (ideal x w) q) ∙ ap (owns Q) (law.all_emitted (ideal x w) q ready valid)
      all_of w (Asked.Passed m answers) ready valid = alone_emitted w m answers

      replied_of : (w : Rowed V M Q) (q : Asked M Q) → (tagged x).ready w ≡ true → (tagged x).speech.valid q ≡ true → (tagged x).speech.handed q ≡ false →
          (tagged x).speech.ends q (plain_tags (given (tagged x).serve w ((tagged x).full w q))) ≡ Some ((tagged x).reply (ideal x w) q)
      replied_of w (Asked.Script q) ready valid nay = ap (λ l. option_map (λ r. Some r) (x.speech.ends q l)) (told-plain w q (x.full (ideal x w) q)) ∙ ap (option_map (λ r. Some r)) (law.replied (ideal x w) q ready valid nay)
      replied_of w (Asked.Passed m true) ready valid nay =
          ap (λ l. if ends_marked (plain_tags l) then Some None else None) (append-nil (answer_gifts x.speech.emission m (x.serve (ideal x w) m).1))
          ∙ ap (λ b. if b then Some None else None) (marked-answer Q x.speech.emission m (x.serve (ideal x w) m).1)
      replied_of w (Asked.Passed m false) ready valid nay = absurd (cc)

      silent_of : (w : Rowed V M Q) (q : Asked M Q) → (tagged x).ready w ≡ true → (tagged x).speech.valid q ≡ true → (tagged x).speech.handed q ≡ true → plain_tags (given (tagged x).serve w ((tagged x).full w q)) ≡ []
      silent_of w (Asked.Script q) ready valid posts = untag-nil _ (told-plain w q (x.full (ideal x w) q) ∙ law.silent (ideal x w) q ready valid posts)
      silent_of w (Asked.Passed m true) ready valid posts = absurd (cc)
      silent_of w (Asked.Passed m false) ready valid posts = ap plain_tags (append-nil (owns Q (x.serve (ideal x w) m).1)) ∙ plain-owns Q (x.serve (ideal x w) m).1

      part_of : (w : Rowed V M Q) (q : Asked M Q) → (tagged x).ready w ≡ true → (tagged x).speech.valid q ≡ true → (p r : List (Tagged M Q)) → (tagged x).full w q ≡ p ++ r → Before (tagged x) w p ⊎ Behind (tagged x) w q p
      part_of w (Asked.Script q) ready valid p r e = go p (cut_told q (x.full (ideal x w) q) p r e)
        where
          go : (p : List (Tagged M Q)) → CutTold q (x.full (ideal x w) q) p → Before (tagged x) w p ⊎ Behind (tagged x) w (Asked.Script q) p
          go p (CutTold.nothing is) = inl (subst (Before (tagged x) w) (sym is) (empty w))
          go p (CutTold.some m front rest is told_is) = elim (law.part (ideal x w) q ready valid (m ∷ front) rest is) [
            | inl u ↦ inl (subst (Before (tagged x) w) (sym told_is) (before w q m front u))
            | inr t ↦ inr (subst (Behind (tagged x) w (Asked.Script q)) (sym told_is) (behind w q m front t))
          ]
      part_of w (Asked.Passed m answers) ready valid p r e = elim (cut_alone _ p r e) [
        | inl is ↦ inl (subst (Before (tagged x) w) (sym is) (empty w))
        | inr is ↦ inr (subst (Behind (tagged x) w (Asked.Passed m answers)) (sym is) (alone w m answers))
      ]

      counted_of : (w : Rowed V M Q) (q : Asked M Q) → (tagged x).ready w ≡ true → (tagged x).speech.valid q ≡ true → (tagged x).speech.handed q ≡ false → (p r : List (Tagged M Q)) → (tagged x).full w q ≡ p ++ r →
          plain_tags (given (tagged x).serve w p) ≡ plain_tags (given (tagged x).serve w ((tagged x).full w q)) → Behind (tagged x) w q p
      counted_of w (Asked.Script q) ready valid nay p r e same = go p (cut_told q (x.full (ideal x w) q) p r e) same
        where
          go : (p : List (Tagged M Q)) → CutTold q (x.full (ideal x w) q) p → plain_tags (given (tagged x).serve w p) ≡ plain_tags (given (tagged x).serve w (told q (x.full (ideal x w) q))) → Behind (tagged x) w (Asked.Script q) p
          go p (CutTold.nothing is) same =
              let untold : [] ≡ plain x.speech.emission (given x.serve (ideal x w) (x.full (ideal x w) q)) =
              ap (λ l. untag (plain_tags (given (tagged x).serve w l))) (sym is) ∙ ap untag same ∙ told-plain w q (x.full (ideal x w) q) in
              absurd (let reply = ap (x.speech.ends q) untold ∙ law.replied (ideal x w) q ready valid nay in let nothing = law.none q in cc)
          go p (CutTold.some m front rest is told_is) same =
              subst (Behind (tagged x) w (Asked.Script q)) (sym told_is) (behind w q m front (law.counted (ideal x w) q ready valid nay (m ∷ front) rest is
              (sym (told-plain w q (m ∷ front)) ∙ ap (λ l. untag (plain_tags (given (tagged x).serve w l))) (sym told_is) ∙ ap untag same ∙ told-plain w q (x.full (ideal x w) q))))
      counted_of w (Asked.Passed m false) ready valid nay p r e same = absurd (cc)
      counted_of w (Asked.Passed m true) ready valid nay p r e same = elim (cut_alone _ p r e) [
        | inl is ↦ absurd (let marked = marked-answer Q x.speech.emission m (x.serve (ideal x w) m).1 in
            let empty_is : ends_marked (plain_tags (answer_gifts x.speech.emission m (x.serve (ideal x w) m).1)) ≡ false =
            ap (λ l. ends_marked (plain_tags l)) (sym (append-nil (answer_gifts x.speech.emission m (x.serve (ideal x w) m).1))) ∙ ap ends_marked (sym same) ∙ ap (λ l. ends_marked (plain_tags (given (tagged x).serve w l))) is in cc)
        | inr is ↦ subst (Behind (tagged x) w (Asked.Passed m true)) (sym is) (alone w m true)
      ]

      none_of : (q : Asked M Q) → (tagged x).speech.ends q [] ≡ None
      none_of (Asked.Script q) = ap (option_map (λ r. Some r)) (law.none q)
      none_of (Asked.Passed m true) = refl
      none_of (Asked.Passed m false) = refl

      ended_of : (q : Asked M Q) (hs : List (Tagged M Q)) (h : Tagged M Q) (more : List (Tagged M Q)) (r : Option R) → (tagged x).speech.ends q hs ≡ Some r → (tagged x).speech.ends q (hs ++ h ∷ more) ≡ None
      ended_of (Asked.Script q) hs h more r e = go (x.speech.ends q (untag hs)) refl e
        where
          go : (found : Option R) → x.speech.ends q (untag hs) ≡ found → option_map (λ r. Some r) found ≡ Some r → option_map (λ r. Some r) (x.speech.ends q (untag (hs ++ h ∷ more))) ≡ None
          go None is e = absurd (cc)
          go (Some s) is e = ap (λ l. option_map (λ r. Some r) (x.speech.ends q l)) (untag-append hs (h ∷ more)) ∙ ap (option_map (λ r. Some r)) (law.ended q (untag hs) h.mail (untag more) s is)
      ended_of (Asked.Passed m false) hs h more r e = refl
      ended_of (Asked.Passed m true) hs h more r e = ap (λ b. if b then Some None else None) (marked-ended hs h more (was (ends_marked hs) e))
        where
          was : (b : Bool) → (if b then Some None else None) ≡ Some r → b ≡ true
          was true e = refl
          was false e = absurd (cc)

      follows_of : (w : Rowed V M Q) (q : Asked M Q) → (tagged x).ready w ≡ true → (tagged x).speech.valid q ≡ true → (hs more : List (Tagged M Q)) → plain_tags (given (tagged x).serve w ((tagged x).full w q)) ≡ hs ++ more →
          IsPrefixOf ((tagged x).speech.planned q hs) ((tagged x).full w q)
      follows_of w (Asked.Script q) ready valid hs more e = told-prefix q _ _ (law.follows (ideal x w) q ready valid (untag hs) (untag more) (sym (told-plain w q (x.full (ideal x w) q)) ∙ ap untag e ∙ untag-append hs more))
      follows_of w (Asked.Passed m answers) ready valid hs more e = ([], refl)

      planned_of : (w : Rowed V M Q) (q : Asked M Q) → (tagged x).ready w ≡ true → (tagged x).speech.valid q ≡ true → (tagged x).speech.planned q (plain_tags (given (tagged x).serve w ((tagged x).full w q))) ≡ (tagged x).full w q
      planned_of w (Asked.Script q) ready valid = ap (λ l. told q (x.speech.planned q l)) (told-plain w q (x.full (ideal x w) q)) ∙ ap (told q) (law.all_planned (ideal x w) q ready valid)
      planned_of w (Asked.Passed m answers) ready valid = refl

      unanswered_of : (q : Asked M Q) (hs : List (Tagged M Q)) → (tagged x).speech.handed q ≡ true → (tagged x).speech.ends q hs ≡ None
      unanswered_of (Asked.Script q) hs posts = ap (option_map (λ r. Some r)) (law.unanswered q (untag hs) posts)
      unanswered_of (Asked.Passed m true) hs posts = absurd (cc)
      unanswered_of (Asked.Passed m false) hs posts = refl

      some_of : (w : Rowed V M Q) (q : Asked M Q) → (tagged x).ready w ≡ true → (tagged x).speech.valid q ≡ true → (tagged x).speech.handed q ≡ true → (tagged x).full w q ≢ []
      some_of w (Asked.Script q) ready valid posts none = law.some (ideal x w) q ready valid (sym (untag-told q (x.full (ideal x w) q)) ∙ ap untag none)
      some_of w (Asked.Passed m answers) ready valid posts none = absurd (cc)
