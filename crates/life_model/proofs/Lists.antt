-- Parts of lists, and the first answer that lists of news give.
use Rattle.std.proofs.Common.{◌≡◌, ℕ, zero, suc, ◌+◌, ◌-◌, ◌≤◌, Option, Some, None, List, [], ◌∷◌, ◌++◌, take, drop, length, refl, ap, sym, ◌∙◌, arith, append-nil}
use Rattle.std.specs.Prelude.{⊤}
use Rattle.state_model.specs.of_segment_model.Record.{Frame, Kept, first_end, or_later, frame_news, news_each, kept_after, kept_all}
use Rattle.life_model.specs.Answers.{between}

take-nil : {X : Type 0} (n : ℕ) → take {A = X} n [] ≡ []
take-nil zero = refl
take-nil (suc n) = refl

-- the first part of a last part is the last part of a first part
pub take-drop : {X : Type 0} (k c : ℕ) (xs : List X) → take (c - k) (drop k xs) ≡ drop k (take c xs)
take-drop zero c xs = ap (λ n. take n xs) (let same : c - 0 ≡ c = omega arith in same)
take-drop (suc k) zero xs = ap (λ n. take n (drop (suc k) xs)) (let same : zero - suc k ≡ 0 = omega arith in same)
take-drop (suc k) (suc c) [] = take-nil (suc c - suc k)
take-drop (suc k) (suc c) (x ∷ xs) = ap (λ n. take n (drop k xs)) (let same : suc c - suc k ≡ c - k = omega arith in same) ∙ take-drop k c xs

pub take-less : {X : Type 0} (n m : ℕ) (xs : List X) → n ≤ m → take n (take m xs) ≡ take n xs
take-less zero m xs le = refl
take-less (suc n) zero xs le = absurd (omega (arith, le))
take-less (suc n) (suc m) [] le = refl
take-less (suc n) (suc m) (x ∷ xs) le = ap (λ l. x ∷ l) (take-less n m xs (omega (arith, le)))

pub drop-append : {X : Type 0} (k : ℕ) (xs ys : List X) → drop k (xs ++ ys) ≡ drop k xs ++ drop (k - length xs) ys
drop-append zero [] ys = ap (λ n. drop n ys) (let same : 0 ≡ 0 - 0 = omega arith in same)
drop-append zero (x ∷ xs) ys = ap (λ n. x ∷ (xs ++ drop n ys)) (let same : 0 ≡ 0 - suc (length xs) = omega arith in same)
drop-append (suc k) [] ys = ap (λ n. drop n ys) (let same : suc k ≡ suc k - 0 = omega arith in same)
drop-append (suc k) (x ∷ xs) ys = drop-append k xs ys ∙ ap (λ n. drop k xs ++ drop n ys) (let same : k - length xs ≡ suc k - suc (length xs) = omega arith in same)

drop-nil : {X : Type 0} (n : ℕ) → drop {A = X} n [] ≡ []
drop-nil zero = refl
drop-nil (suc n) = refl

pub drop-more : {X : Type 0} (n m : ℕ) (xs : List X) → drop n (drop m xs) ≡ drop (m + n) xs
drop-more n zero xs = ap (λ k. drop k xs) (let same : n ≡ 0 + n = omega arith in same)
drop-more n (suc m) [] = drop-nil n ∙ sym (drop-nil (suc m + n))
drop-more n (suc m) (x ∷ xs) = drop-more n m xs ∙ ap (λ k. drop k (x ∷ xs)) (let same : suc (m + n) ≡ suc m + n = omega arith in same)

-- a part is what a shorter one has, and then the rest
pub between-join : {X : Type 0} (a b c : ℕ) (xs : List X) → a ≤ b → b ≤ c → between a c xs ≡ between a b xs ++ between b c xs
between-join a b c xs le more =
    ap (λ n. take n (drop a xs)) (let same : c - a ≡ b - a + (c - b) = omega (arith, le, more) in same) ∙ parts (b - a) (c - b) (drop a xs)
    ∙ ap (λ l. take (b - a) (drop a xs) ++ take (c - b) l) (drop-more (b - a) a xs ∙ ap (λ n. drop n xs) (let same : a + (b - a) ≡ b = omega (arith, le) in same))
  where
    parts : {Y : Type 0} (n m : ℕ) (ys : List Y) → take (n + m) ys ≡ take n ys ++ take m (drop n ys)
    parts zero m ys = ap (λ k. take k ys) (let same : 0 + m ≡ m = omega arith in same)
    parts (suc n) m [] = take-nil (suc n + m) ∙ sym (take-nil m)
    parts (suc n) m (y ∷ ys) = ap (λ k. take k (y ∷ ys)) (let same : suc n + m ≡ suc (n + m) = omega arith in same) ∙ ap (λ l. y ∷ l) (parts n m ys)

-- nothing is told
abbrev pub AllNil : {N : Type 0} → List (List N) → Type 0
AllNil [] = ⊤
AllNil (ns ∷ nss) = (ns ≡ []) × AllNil nss

pub nil-drop : {N : Type 0} (k : ℕ) (nss : List (List N)) → AllNil nss → AllNil (drop k nss)
nil-drop zero nss q = q
nil-drop (suc k) [] q = tt
nil-drop (suc k) (ns ∷ nss) q = nil-drop k nss q.1

module _ {N R : Type 0} (e : List N → Option R) where
  quiet_end : (f : ℕ) (before : List N) (qs : List (List N)) → AllNil qs → e before ≡ None → first_end e f before qs ≡ None
  quiet_end f before [] q none = refl
  quiet_end f before (ns ∷ qs) q none =
      let same : before ++ ns ≡ before = ap (λ l. before ++ l) q.0 ∙ append-nil before in
      ap (λ r. or_later r f (first_end e (suc f) (before ++ ns) qs)) (ap e same ∙ none) ∙ quiet_end (suc f) (before ++ ns) qs q.1 (ap e same ∙ none)

  -- behind the last news that tell anything the first answer is what it is
  pub quiet_tail : (f : ℕ) (before : List N) (nss qs : List (List N)) → e before ≡ None → AllNil qs → first_end e f before (nss ++ qs) ≡ first_end e f before nss
  quiet_tail f before [] qs none q = quiet_end f before qs q none
  quiet_tail f before (ns ∷ nss) qs none q = go (e (before ++ ns)) refl (λ p. quiet_tail (suc f) (before ++ ns) nss qs p q)
    where
      go : (r : Option R) → e (before ++ ns) ≡ r → (e (before ++ ns) ≡ None → first_end e (suc f) (before ++ ns) (nss ++ qs) ≡ first_end e (suc f) (before ++ ns) nss) →
          or_later r f (first_end e (suc f) (before ++ ns) (nss ++ qs)) ≡ or_later r f (first_end e (suc f) (before ++ ns) nss)
      go None p rest = rest p
      go (Some r) p rest = refl

  -- the frame of an answer isn't below the first
  pub first_least : (f : ℕ) (before : List N) (nss : List (List N)) (r : R) (k : ℕ) → first_end e f before nss ≡ Some (r, k) → f ≤ k
  first_least f before [] r k is = absurd (cc)
  first_least f before (ns ∷ nss) r k is = go (e (before ++ ns)) is (λ q. first_least (suc f) (before ++ ns) nss r k q)
    where
      at : Option (R × ℕ) → ℕ
      at None = f
      at (Some a) = a.1

      number : (p : R) → ◌≡◌ {A = Option (R × ℕ)} (Some (p, f)) (Some (r, k)) → f ≡ k
      number p q = ap at q

      go : (o : Option R) → or_later o f (first_end e (suc f) (before ++ ns) nss) ≡ Some (r, k) → (first_end e (suc f) (before ++ ns) nss ≡ Some (r, k) → suc f ≤ k) → f ≤ k
      go None q rest = let le = rest q in omega (arith, le)
      go (Some p) q rest = let eq : f ≡ k = number p q in omega (arith, eq)

module _ {M : Type 0} (station : ℕ) where
  pub each-append : (kept : Kept) (fs gs : List (Frame M)) → news_each station kept (fs ++ gs) ≡ news_each station kept fs ++ news_each station (kept_all station kept fs) gs
  each-append kept [] gs = refl
  each-append kept (f ∷ fs) gs = ap (λ l. frame_news station kept f ∷ l) (each-append (kept_after station kept f) fs gs)

  pub each-take : (n : ℕ) (kept : Kept) (fs : List (Frame M)) → take n (news_each station kept fs) ≡ news_each station kept (take n fs)
  each-take zero kept fs = refl
  each-take (suc n) kept [] = refl
  each-take (suc n) kept (f ∷ fs) = ap (λ l. frame_news station kept f ∷ l) (each-take n (kept_after station kept f) fs)

  pub each-drop : (n : ℕ) (kept : Kept) (fs : List (Frame M)) → drop n (news_each station kept fs) ≡ news_each station (kept_all station kept (take n fs)) (drop n fs)
  each-drop zero kept fs = refl
  each-drop (suc n) kept [] = refl
  each-drop (suc n) kept (f ∷ fs) = each-drop n (kept_after station kept f) fs
