-- What tests of entries and objects say.
use Rattle.std.proofs.Common.{◌≡◌, ℕ, zero, suc, ◌+◌, ◌<◌, Bool, true, false, ◌&&◌, List, [], ◌∷◌, length, drop, None, Some, slice_get, slice_set, refl, sym, ap, ◌∙◌, arith, add-one}
use Rattle.std.specs.List.{list_all}

-- both of two tests
pub both : (a b : Bool) → (a && b) ≡ true → (a ≡ true) × (b ≡ true)
both true true e = (refl, refl)
both true false e = absurd (cc)
both false b e = absurd (cc)

pub and_of : (a b : Bool) → a ≡ true → b ≡ true → (a && b) ≡ true
and_of true true e f = refl
and_of true false e f = absurd (cc)
and_of false b e f = absurd (cc)

-- what is at a place passes a test that all pass
pub all_get : {X : Type 0} (p : X → Bool) (xs : List X) (i : ℕ) (x : X) → list_all p xs ≡ true → slice_get xs i ≡ Some x → p x ≡ true
all_get p [] i x all at = absurd (cc)
all_get p (y ∷ ys) zero x all at = let e : y ≡ x = cc in ap p (sym e) ∙ (both (p y) (list_all p ys) all).0
all_get p (y ∷ ys) (suc i) x all at = all_get p ys i x (both (p y) (list_all p ys) all).1 at

pub all_set : {X : Type 0} (p : X → Bool) (xs : List X) (i : ℕ) (x : X) → list_all p xs ≡ true → p x ≡ true → list_all p (slice_set xs i x) ≡ true
all_set p [] i x all here = refl
all_set p (y ∷ ys) zero x all here = and_of (p x) (list_all p ys) here (both (p y) (list_all p ys) all).1
all_set p (y ∷ ys) (suc i) x all here =
    let e = both (p y) (list_all p ys) all in
    and_of (p y) (list_all p (slice_set ys i x)) e.0 (all_set p ys i x e.1 here)

drop_next : {X : Type 0} (xs : List X) (i : ℕ) (x : X) → slice_get xs i ≡ Some x → drop i xs ≡ x ∷ drop (suc i) xs
drop_next [] i x at = absurd (cc)
drop_next (y ∷ ys) zero x at = let e : y ≡ x = cc in ap (λ z. z ∷ ys) e
drop_next (y ∷ ys) (suc i) x at = drop_next ys i x at

-- a list from a place on, where something stands there
pub drop_at : {X : Type 0} (xs : List X) (i : ℕ) (x : X) → slice_get xs i ≡ Some x → drop i xs ≡ x ∷ drop (i + 1) xs
drop_at xs i x at = rw add-one (drop_next xs i x at)

-- something stands at each place within
pub stands : {X : Type 0} (xs : List X) (i : ℕ) → i < length xs → slice_get xs i ≡ None → ⊥
stands [] i within none = omega arith
stands (y ∷ ys) zero within none = cc
stands (y ∷ ys) (suc i) within none = stands ys i (omega arith) none
