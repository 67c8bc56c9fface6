-- How far it is to a slave, on rings.
use Rattle.std.proofs.Common.{◌≡◌, ◌⊎◌, ℕ, suc, ◌+◌, ◌<◌, ◌≤◌, ◌==◌, Bool, true, false, Option, Some, None, List, [], ◌∷◌, ◌++◌, length, refl, sym, ap, ◌∙◌, arith, if◌then◌else◌, length-append, append_assoc, eqb-true, inl, inr}
use Rattle.std.proofs.lemmas.Bool.{cases_lt}
use Rattle.state_model.specs.of_segment_model.Visits.{Stop, split_behind, is_live}
use Rattle.life_model.specs.Rounds.{before, ahead, AreApart, IsIn}

-- a list of one more
in_both : (n : ℕ) (xs ys : List Stop) → is_live n xs ≡ false → is_live n (xs ++ ys) ≡ is_live n ys
in_both n [] ys e = refl
in_both n (x ∷ xs) ys e = go (x.station == n) refl (λ f. in_both n xs ys f) e
  where
    go : (b : Bool) → (x.station == n) ≡ b → (is_live n xs ≡ false → is_live n (xs ++ ys) ≡ is_live n ys) → (if b then true else is_live n xs) ≡ false → (if b then true else is_live n (xs ++ ys)) ≡ is_live n ys
    go true f r e = absurd (cc)
    go false f r e = r e

in_left : (n : ℕ) (xs ys : List Stop) → is_live n xs ≡ true → is_live n (xs ++ ys) ≡ true
in_left n [] ys e = absurd (cc)
in_left n (x ∷ xs) ys e = go (x.station == n) (λ f. in_left n xs ys f) e
  where
    go : (b : Bool) → (is_live n xs ≡ true → is_live n (xs ++ ys) ≡ true) → (if b then true else is_live n xs) ≡ true → (if b then true else is_live n (xs ++ ys)) ≡ true
    go true r e = refl
    go false r e = r e

-- it comes before all behind those among which it is
before_left : (n : ℕ) (xs ys : List Stop) → is_live n xs ≡ true → before n (xs ++ ys) ≡ before n xs
before_left n [] ys e = absurd (cc)
before_left n (x ∷ xs) ys e = go (x.station == n) (λ f. before_left n xs ys f) e
  where
    go : (b : Bool) → (is_live n xs ≡ true → before n (xs ++ ys) ≡ before n xs) → (if b then true else is_live n xs) ≡ true → (if b then 0 else suc (before n (xs ++ ys))) ≡ (if b then 0 else suc (before n xs))
    go true r e = refl
    go false r e = ap suc (r e)

before_right : (n : ℕ) (xs ys : List Stop) → is_live n xs ≡ false → before n (xs ++ ys) ≡ length xs + before n ys
before_right n [] ys e = omega arith
before_right n (x ∷ xs) ys e = go (x.station == n) (λ f. before_right n xs ys f) e
  where
    go : (b : Bool) → (is_live n xs ≡ false → before n (xs ++ ys) ≡ length xs + before n ys) → (if b then true else is_live n xs) ≡ false → (if b then 0 else suc (before n (xs ++ ys))) ≡ length (x ∷ xs) + before n ys
    go true r e = absurd (cc)
    go false r e = omega (arith, r e)

pub before_less : (n : ℕ) (xs : List Stop) → is_live n xs ≡ true → before n xs < length xs
before_less n [] e = absurd (cc)
before_less n (x ∷ xs) e = go (x.station == n) (λ f. before_less n xs f) e
  where
    go : (b : Bool) → (is_live n xs ≡ true → before n xs < length xs) → (if b then true else is_live n xs) ≡ true → (if b then 0 else suc (before n xs)) < length (x ∷ xs)
    go true r e = omega arith
    go false r e = omega (arith, r e)

-- ONE THAT STANDS BEHIND THE LAST
pub behind_it : (l n : ℕ) (passed ss : List Stop) → is_live l ss ≡ true → is_live n ss ≡ true → before l ss < before n ss → before n (split_behind l passed ss) + suc (before l ss) ≡ before n ss
behind_it l n passed [] e f less = absurd (cc)
behind_it l n passed (s ∷ ss) e f less = go (s.station == l) (s.station == n) (λ q g h k. behind_it l n q ss g h k) e f less
  where
    go : (b c : Bool) → ((q : List Stop) → is_live l ss ≡ true → is_live n ss ≡ true → before l ss < before n ss → before n (split_behind l q ss) + suc (before l ss) ≡ before n ss) →
        (if b then true else is_live l ss) ≡ true → (if c then true else is_live n ss) ≡ true → (if b then 0 else suc (before l ss)) < (if c then 0 else suc (before n ss)) →
        before n (if b then ss ++ passed ++ s ∷ [] else split_behind l (passed ++ s ∷ []) ss) + suc (if b then 0 else suc (before l ss)) ≡ (if c then 0 else suc (before n ss))
    go b true r e f less = absurd (omega (arith, less))
    go true false r e f less =
        let first = ap (before n) (append_assoc ss passed (s ∷ [])) ∙ before_left n ss (passed ++ s ∷ []) f in
        let sum : before n ((ss ++ passed) ++ s ∷ []) + suc 0 ≡ suc (before n ss) = omega (arith, first) in sum
    go false false r e f less = omega (arith, r (passed ++ s ∷ []) e f (omega (arith, less)))

-- ONE THAT WAS PASSED BEFORE THESE
passed_before : (l n : ℕ) (passed ss : List Stop) → is_live l ss ≡ true → is_live n passed ≡ true → is_live n ss ≡ false → before n (split_behind l passed ss) + suc (before l ss) ≡ length ss + before n passed
passed_before l n passed [] e f out = absurd (cc)
passed_before l n passed (s ∷ ss) e f out = go (s.station == l) (s.station == n) (λ q g h k. passed_before l n q ss g h k) e out
  where
    go : (b c : Bool) → ((q : List Stop) → is_live l ss ≡ true → is_live n q ≡ true → is_live n ss ≡ false → before n (split_behind l q ss) + suc (before l ss) ≡ length ss + before n q) →
        (if b then true else is_live l ss) ≡ true → (if c then true else is_live n ss) ≡ false →
        before n (if b then ss ++ passed ++ s ∷ [] else split_behind l (passed ++ s ∷ []) ss) + suc (if b then 0 else suc (before l ss)) ≡ length (s ∷ ss) + before n passed
    go b true r e out = absurd (cc)
    go true false r e out =
        let first = ap (before n) (append_assoc ss passed (s ∷ [])) ∙ before_right n ss (passed ++ s ∷ []) out in
        let sum : before n ((ss ++ passed) ++ s ∷ []) + suc 0 ≡ length (s ∷ ss) + before n passed = omega (arith, first, before_left n passed (s ∷ []) f) in sum
    go false false r e out = omega (arith, r (passed ++ s ∷ []) e (in_left n passed (s ∷ []) f) out, before_left n passed (s ∷ []) f)

-- ONE THAT STANDS BEFORE THE LAST, or the last itself
not_behind : (l n : ℕ) (passed ss : List Stop) → AreApart ss → is_live l ss ≡ true → is_live n ss ≡ true → is_live n passed ≡ false → before n ss ≤ before l ss →
    before n (split_behind l passed ss) + suc (before l ss) ≡ length ss + (length passed + before n ss)
not_behind l n passed [] a e f out less = absurd (cc)
not_behind l n passed (s ∷ ss) a e f out less = go (s.station == l) (s.station == n) refl (λ q g h k m. not_behind l n q ss a.1 g h k m) e f less
  where
    own : (s.station == n) ≡ true → is_live n ss ≡ false
    own is = ap (λ z. is_live z ss) (sym (eqb-true s.station n is)) ∙ a.0

    first : (s.station == n) ≡ true → before n (s ∷ []) ≡ 0
    first is = ap (λ (z : Bool). if z then 0 else suc (before n [])) is

    there : (s.station == n) ≡ true → is_live n (s ∷ []) ≡ true
    there is = ap (λ (z : Bool). if z then true else false) is

    absent : (s.station == n) ≡ false → is_live n (s ∷ []) ≡ false
    absent is = ap (λ (z : Bool). if z then true else false) is

    go : (b c : Bool) → (s.station == n) ≡ c → ((q : List Stop) → is_live l ss ≡ true → is_live n ss ≡ true → is_live n q ≡ false → before n ss ≤ before l ss → before n (split_behind l q ss) + suc (before l ss) ≡ length ss + (length q + before n ss)) →
        (if b then true else is_live l ss) ≡ true → (if c then true else is_live n ss) ≡ true → (if c then 0 else suc (before n ss)) ≤ (if b then 0 else suc (before l ss)) →
        before n (if b then ss ++ passed ++ s ∷ [] else split_behind l (passed ++ s ∷ []) ss) + suc (if b then 0 else suc (before l ss)) ≡ length (s ∷ ss) + (length passed + (if c then 0 else suc (before n ss)))
    go true true is r e f less =
        let all = ap (before n) (append_assoc ss passed (s ∷ [])) ∙ before_right n ss (passed ++ s ∷ []) (own is) in
        let sum : before n ((ss ++ passed) ++ s ∷ []) + suc 0 ≡ length (s ∷ ss) + (length passed + 0) = omega (arith, all, before_right n passed (s ∷ []) out, first is) in sum
    go true false is r e f less = absurd (omega (arith, less))
    go false true is r e f less =
        omega (arith, passed_before l n (passed ++ s ∷ []) ss e (in_both n passed (s ∷ []) out ∙ there is) (own is), before_right n passed (s ∷ []) out, first is)
    go false false is r e f less =
        omega (arith, r (passed ++ s ∷ []) e f (in_both n passed (s ∷ []) out ∙ absent is) (omega (arith, less)), length-append passed (s ∷ []))

-- HOW FAR IT IS, by the places of both
pub far_behind : (ring : List Stop) (l n : ℕ) → is_live l ring ≡ true → is_live n ring ≡ true → before l ring < before n ring → ahead ring (Some l) n + suc (before l ring) ≡ before n ring
far_behind ring l n e f less = behind_it l n [] ring e f less

pub far_round : (ring : List Stop) (l n : ℕ) → AreApart ring → is_live l ring ≡ true → is_live n ring ≡ true → before n ring ≤ before l ring → ahead ring (Some l) n + suc (before l ring) ≡ length ring + before n ring
far_round ring l n a e f less = omega (arith, not_behind l n [] ring a e f refl less)

-- IT IS LESS THAN A ROUND
pub ahead_less : (ring : List Stop) (last : Option ℕ) (n : ℕ) → AreApart ring → IsIn ring last → is_live n ring ≡ true → ahead ring last n < length ring
ahead_less ring None n a i e = before_less n ring e
ahead_less ring (Some l) n a i e = elim (cases_lt (before l ring) (before n ring)) [ inl less ↦ omega (arith, far_behind ring l n i e less, before_less n ring e) | inr less ↦ omega (arith, far_round ring l n a i e less, less) ]

-- IT COMES NEARER by each slave that is carried before it
pub nearer : (ring : List Stop) (last : Option ℕ) (c n : ℕ) → AreApart ring → IsIn ring last → is_live c ring ≡ true → is_live n ring ≡ true → ahead ring last c < ahead ring last n → ahead ring (Some c) n + suc (ahead ring last c) ≡ ahead ring last n
nearer ring None c n a i ic in' less = far_behind ring c n ic in' less
nearer ring (Some l) c n a i ic in' less = by (cases_lt (before l ring) (before n ring)) (cases_lt (before l ring) (before c ring)) (cases_lt (before c ring) (before n ring))
  where
    by : ((before l ring < before n ring) ⊎ (before n ring ≤ before l ring)) → ((before l ring < before c ring) ⊎ (before c ring ≤ before l ring)) → ((before c ring < before n ring) ⊎ (before n ring ≤ before c ring)) → ahead ring (Some c) n + suc (ahead ring (Some l) c) ≡ ahead ring (Some l) n
    by (inl p) (inl q) (inl r) = omega (arith, far_behind ring l n i in' p, far_behind ring l c i ic q, far_behind ring c n ic in' r)
    by (inl p) (inl q) (inr r) = absurd (omega (arith, less, far_behind ring l n i in' p, far_behind ring l c i ic q, r))
    by (inl p) (inr q) r = absurd (omega (arith, less, far_behind ring l n i in' p, far_round ring l c a i ic q, before_less n ring in'))
    by (inr p) (inl q) (inl r) = absurd (omega (arith, p, q, r))
    by (inr p) (inl q) (inr r) = omega (arith, far_round ring l n a i in' p, far_behind ring l c i ic q, far_round ring c n a ic in' r)
    by (inr p) (inr q) (inl r) = omega (arith, far_round ring l n a i in' p, far_round ring l c a i ic q, far_behind ring c n ic in' r)
    by (inr p) (inr q) (inr r) = absurd (omega (arith, less, far_round ring l n a i in' p, far_round ring l c a i ic q, r))
