-- The visits of a frame that are still to come, and the places that it carries.
use Rattle.std.proofs.Common.{◌≡◌, ℕ, zero, suc, ◌<◌, ◌==◌, Bool, true, false, Option, List, [], ◌∷◌, ◌++◌, refl, sym, ap, ◌∙◌, subst, arith, drop}
use Rattle.std.specs.Prelude.{nat_lt, if◌then◌else◌}
use Rattle.std.proofs.lemmas.Bool.{eqb-true, eq-eqb, lt-ltb, ltb-true, ltb-false}
use Rattle.life_runs.specs.of_master_tour.Made.{is_in}
use Rattle.life_runs.specs.of_master_tour.Orders.{round_left, start_of, visits_left, AreOnce}

-- all but one place
abbrev pub without : ℕ → List ℕ → List ℕ
without p [] = []
without p (q ∷ qs) = if p == q then without p qs else q ∷ without p qs

-- the places below this
abbrev pub below : ℕ → List ℕ
below zero = []
below (suc n) = n ∷ below n

pub true_false : (z : Bool) → z ≡ true → z ≡ false → ⊥
true_false true e f = cc
true_false false e f = cc

pub in_here : (k q : ℕ) (qs : List ℕ) → (k == q) ≡ true → is_in k (q ∷ qs) ≡ true
in_here k q qs e = ap (λ (z : Bool). if z then true else is_in k qs) e

pub in_there : (k q : ℕ) (qs : List ℕ) → is_in k qs ≡ true → is_in k (q ∷ qs) ≡ true
in_there k q qs e = go (k == q)
  where
    go : (z : Bool) → (if z then true else is_in k qs) ≡ true
    go true = refl
    go false = e

pub in_tail : (k q : ℕ) (qs : List ℕ) → (k == q) ≡ false → is_in k (q ∷ qs) ≡ is_in k qs
in_tail k q qs e = ap (λ (z : Bool). if z then true else is_in k qs) e

pub without_not : (p : ℕ) (qs : List ℕ) → is_in p (without p qs) ≡ false
without_not p [] = refl
without_not p (q ∷ qs) = go (p == q) refl (without_not p qs)
  where
    go : (z : Bool) → (p == q) ≡ z → is_in p (without p qs) ≡ false → is_in p (if z then without p qs else q ∷ without p qs) ≡ false
    go true e r = r
    go false e r = in_tail p q (without p qs) e ∙ r

pub without_fewer : (p k : ℕ) (qs : List ℕ) → is_in k (without p qs) ≡ true → is_in k qs ≡ true
without_fewer p k [] e = e
without_fewer p k (q ∷ qs) e = go (p == q) e (λ t. without_fewer p k qs t)
  where
    other : (y : Bool) → (k == q) ≡ y → is_in k (q ∷ without p qs) ≡ true → (is_in k (without p qs) ≡ true → is_in k qs ≡ true) → is_in k (q ∷ qs) ≡ true
    other true f t r = in_here k q qs f
    other false f t r = in_there k q qs (r (sym (in_tail k q (without p qs) f) ∙ t))

    go : (z : Bool) → is_in k (if z then without p qs else q ∷ without p qs) ≡ true → (is_in k (without p qs) ≡ true → is_in k qs ≡ true) → is_in k (q ∷ qs) ≡ true
    go true t r = in_there k q qs (r t)
    go false t r = other (k == q) refl t r

pub without_other : (p k : ℕ) (qs : List ℕ) → (k ≡ p → ⊥) → is_in k qs ≡ true → is_in k (without p qs) ≡ true
without_other p k [] n e = e
without_other p k (q ∷ qs) n e = go (p == q) refl (k == q) refl (λ t. without_other p k qs n t)
  where
    go : (z : Bool) → (p == q) ≡ z → (y : Bool) → (k == q) ≡ y → (is_in k qs ≡ true → is_in k (without p qs) ≡ true) → is_in k (if z then without p qs else q ∷ without p qs) ≡ true
    go true f true g r = absurd (n (eqb-true k q g ∙ sym (eqb-true p q f)))
    go true f false g r = r (sym (in_tail k q qs g) ∙ e)
    go false f true g r = in_here k q (without p qs) g
    go false f false g r = in_there k q (without p qs) (r (sym (in_tail k q qs g) ∙ e))

ne_below : (k n : ℕ) → k < suc n → (k == n) ≡ false → k < n
ne_below k n l d = go (nat_lt k n) refl
  where
    go : (z : Bool) → nat_lt k n ≡ z → k < n
    go true e = ltb-true k n e
    go false e = let m = ltb-false k n e in absurd (true_false (k == n) (eq-eqb k n (omega (arith, l, m))) d)

pub below_in : (n k : ℕ) → k < n → is_in k (below n) ≡ true
below_in zero k l = absurd (omega (arith, l))
below_in (suc n) k l = go (k == n) refl (λ m. below_in n k m)
  where
    go : (z : Bool) → (k == n) ≡ z → (k < n → is_in k (below n) ≡ true) → is_in k (n ∷ below n) ≡ true
    go true e r = in_here k n (below n) e
    go false e r = in_there k n (below n) (r (ne_below k n l e))

pub in_first : (k : ℕ) (ps qs : List ℕ) → is_in k ps ≡ true → is_in k (ps ++ qs) ≡ true
in_first k [] qs e = absurd (cc)
in_first k (p ∷ ps) qs e = go (k == p) refl (λ t. in_first k ps qs t)
  where
    go : (z : Bool) → (k == p) ≡ z → (is_in k ps ≡ true → is_in k (ps ++ qs) ≡ true) → is_in k (p ∷ (ps ++ qs)) ≡ true
    go true f r = in_here k p (ps ++ qs) f
    go false f r = in_there k p (ps ++ qs) (r (sym (in_tail k p ps f) ∙ e))

pub in_last : (k : ℕ) (ps qs : List ℕ) → is_in k qs ≡ true → is_in k (ps ++ qs) ≡ true
in_last k [] qs e = e
in_last k (p ∷ ps) qs e = in_there k p (ps ++ qs) (in_last k ps qs e)

-- one place more
pub in_more : (k p : ℕ) (ps : List ℕ) (P : Type 0) → (is_in k ps ≡ true → P) → (k ≡ p → P) → is_in k (ps ++ p ∷ []) ≡ true → P
in_more k p [] P a b e = b (go (k == p) refl e)
  where
    go : (z : Bool) → (k == p) ≡ z → (if z then true else false) ≡ true → k ≡ p
    go true f t = eqb-true k p f
    go false f t = absurd (cc)
in_more k p (q ∷ ps) P a b e = go (k == q) refl (λ t. in_more k p ps P (λ u. a (in_there k q ps u)) b t)
  where
    go : (z : Bool) → (k == q) ≡ z → (is_in k (ps ++ p ∷ []) ≡ true → P) → P
    go true f r = a (in_here k q ps f)
    go false f r = r (sym (in_tail k q (ps ++ p ∷ []) f) ∙ e)

pub not_in : (k : ℕ) (ps : List ℕ) → (is_in k ps ≡ true → ⊥) → is_in k ps ≡ false
not_in k ps n = go (is_in k ps) refl
  where
    go : (z : Bool) → is_in k ps ≡ z → is_in k ps ≡ false
    go true e = absurd (n e)
    go false e = e

pub once_more : (p : ℕ) (ps : List ℕ) → AreOnce ps → is_in p ps ≡ false → AreOnce (ps ++ p ∷ [])
once_more p [] o n = (refl, tt)
once_more p (q ∷ ps) o n = (
  not_in q (ps ++ p ∷ []) (λ e. in_more q p ps ⊥ (λ t. true_false (is_in q ps) t o.0) (λ t. true_false (is_in p (q ∷ ps)) (in_here p q ps (eq-eqb p q (sym t))) n) e),
  once_more p ps o.1 (go (p == q) refl),
)
  where
    go : (z : Bool) → (p == q) ≡ z → is_in p ps ≡ false
    go true f = absurd (true_false (is_in p (q ∷ ps)) (in_here p q ps f) n)
    go false f = sym (in_tail p q ps f) ∙ n

in_drop : (n k : ℕ) (ps : List ℕ) → is_in k (drop n ps) ≡ true → is_in k ps ≡ true
in_drop zero k ps e = e
in_drop (suc n) k [] e = e
in_drop (suc n) k (p ∷ ps) e = in_there k p ps (in_drop n k ps e)

in_one : (k p : ℕ) → is_in k (p ∷ []) ≡ true → k ≡ p
in_one k p e = in_more k p [] (k ≡ p) (λ t. absurd (cc)) (λ t. t) e

-- IN THE FIRST BRING-UP just the slave that is brought up is visited
pub left_alone : (again : Bool) (visit : List ℕ) (opened count : ℕ) (last : Option ℕ) (passed : ℕ) → opened < count → ((k : ℕ) → is_in k visit ≡ true → k ≡ opened) →
    (k : ℕ) → is_in k (visits_left again visit opened count last passed) ≡ true → k ≡ opened
left_alone true visit opened count last passed l a k e = a k (in_drop passed k visit e)
left_alone false visit opened count last passed l a k e =
    in_one k opened (in_drop passed k (opened ∷ []) (subst (λ (z : Bool). is_in k (if z then drop passed (opened ∷ []) else round_left (start_of count last) count passed) ≡ true) (lt-ltb opened count l) e))
