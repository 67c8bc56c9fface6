-- The first visit of a frame.
use Rattle.std.proofs.Common.{◌≡◌, ℕ, zero, suc, ◌+◌, ◌-◌, ◌<◌, ◌≤◌, Bool, true, false, List, [], ◌∷◌, length, get_or, refl, sym, ap, ◌∙◌, subst, arith}
use Rattle.std.specs.Prelude.{nat_lt, if◌then◌else◌, All, ◌&&◌, not}
use Rattle.std.specs.List.{list_any}
use Rattle.std.proofs.lemmas.Bool.{ltb-true, ltb-false, lt-ltb, le-ltb}
use Rattle.std.proofs.lemmas.List.Elements.{All-nil, All-cons}
use Rattle.std.proofs.lemmas.List.Folds.{list_any_none}
use Rattle.master_tour.specs.Goes.{holds_at, BeginsLive, opened_behind}
use Rattle.master_tour.specs.Orders.{place_in}

-- what holds somewhere is inside
pub holds_inside : {S : Type 0} (test : S → Bool) (ss : List S) (p : ℕ) → holds_at test ss p ≡ true → p < length ss
holds_inside test [] p e = absurd (cc)
holds_inside test (s ∷ ss) zero e = omega arith
holds_inside test (s ∷ ss) (suc p) e = let l = holds_inside test ss p e in omega (arith, l)

pub holds_here : {S : Type 0} (test : S → Bool) (ss : List S) (place : ℕ) (s : S) → place < length ss → s ≡ get_or ss place s → test s ≡ holds_at test ss place
holds_here test [] place s l e = absurd (omega (arith, l))
holds_here test (x ∷ xs) zero s l e = ap test e
holds_here test (x ∷ xs) (suc place) s l e = holds_here test xs place s (omega (arith, l)) e

-- a slave that passes stands at some place
all_fail : {S : Type 0} (test : S → Bool) (ss : List S) → ((p : ℕ) → p < length ss → holds_at test ss p ≡ false) → All (λ x. test x ≡ false) ss
all_fail test [] h = All-nil _
all_fail test (s ∷ ss) h = All-cons (λ x. test x ≡ false) s ss (h 0 (omega arith)) (all_fail test ss (λ p l. h (suc p) (omega (arith, l))))

pub none_holds : {S : Type 0} (test : S → Bool) (ss : List S) → ((p : ℕ) → p < length ss → holds_at test ss p ≡ false) → list_any test ss ≡ false
none_holds test ss h = list_any_none test ss (all_fail test ss h)

-- each place is one of a round
pub place_met : (start count p : ℕ) → start ≤ count → p < count → (k : ℕ) × (k < count) × (place_in start count k ≡ p)
place_met start count p s l = go (nat_lt p start) refl
  where
    at : (k : ℕ) (b : Bool) → nat_lt k (count - start) ≡ b → place_in start count k ≡ (if b then start + k else k - (count - start))
    at k b e = ap (λ (z : Bool). if z then start + k else k - (count - start)) e

    go : (z : Bool) → nat_lt p start ≡ z → (k : ℕ) × (k < count) × (place_in start count k ≡ p)
    go true e =
        let a = ltb-true p start e in
        (p + (count - start), omega (arith, a, s), at (p + (count - start)) false (le-ltb (p + (count - start)) (count - start) (omega arith)) ∙ (let w : (p + (count - start)) - (count - start) ≡ p = omega arith in w))
    go false e =
        let a = ltb-false p start e in
        (p - start, omega (arith, a, l), at (p - start) true (lt-ltb (p - start) (count - start) (omega (arith, a, l, s))) ∙ (let w : start + (p - start) ≡ p = omega (arith, a) in w))

-- where a round passes none, none passes
pub none_in_round : {S : Type 0} (test : S → Bool) (ss : List S) (start count passed : ℕ) → count ≡ length ss → start ≤ count → passed ≡ 0 →
    ((k : ℕ) → passed ≤ k → k < count → holds_at test ss (place_in start count k) ≡ false) → list_any test ss ≡ false
none_in_round test ss start count passed c s z h =
    none_holds test ss (λ p l.
    let m = place_met start count p s (omega (arith, l, c)) in
    subst (λ q. holds_at test ss q ≡ false) m.2 (h m.0 (omega (arith, z)) m.1))

-- behind a lost frame the first that it carried comes first
pub begins_some : {S : Type 0} (live : S → Bool) (visit : List ℕ) (opened : ℕ) (ss : List S) → BeginsLive live true visit opened ss → 0 < length visit
begins_some live [] opened ss b = absurd b
begins_some live (p ∷ ps) opened ss b = omega arith

pub begins_at : {S : Type 0} (live : S → Bool) (visit : List ℕ) (opened : ℕ) (ss : List S) (i d : ℕ) → i ≡ 0 → BeginsLive live true visit opened ss → holds_at live ss (get_or visit i d) ≡ true
begins_at live [] opened ss i d e b = absurd b
begins_at live (p ∷ ps) opened ss i d e b = subst (λ z. holds_at live ss (get_or (p ∷ ps) z d) ≡ true) (sym e) b

-- how many have ended their first bring-up
module _ {S : Type 0} (opens : S → Bool) (opened : ℕ) (ss : List S) where
  by_both : (x y : Bool) → nat_lt opened (length ss) ≡ x → holds_at opens ss opened ≡ y → opened_behind opens opened ss ≡ (if x && not y then opened + 1 else opened)
  by_both x y p q = ap (λ z. if z && not (holds_at opens ss opened) then opened + 1 else opened) p ∙ ap (λ z. if x && not z then opened + 1 else opened) q

  pub opened_more : opened < length ss → holds_at opens ss opened ≡ false → opened_behind opens opened ss ≡ opened + 1
  opened_more l e = by_both true false (lt-ltb opened (length ss) l) e

  pub opened_here : opened < length ss → holds_at opens ss opened ≡ true → opened_behind opens opened ss ≡ opened
  opened_here l e = by_both true true (lt-ltb opened (length ss) l) e

  pub opened_out : length ss ≤ opened → opened_behind opens opened ss ≡ opened
  opened_out l = by_both false (holds_at opens ss opened) (le-ltb opened (length ss) l) refl
