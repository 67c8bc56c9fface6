-- The visit that comes next is the first of those left.
use Rattle.std.proofs.Common.{◌≡◌, ℕ, zero, suc, ◌+◌, ◌-◌, ◌<◌, ◌≤◌, ◌==◌, Bool, true, false, Option, Some, None, List, [], ◌∷◌, length, get_or, drop, refl, sym, ap, ◌∙◌, subst, arith}
use Rattle.std.specs.Prelude.{nat_lt, if◌then◌else◌, cond, filter, slice_get}
use Rattle.std.proofs.lemmas.Bool.{ltb-true, ltb-false, lt-ltb, le-ltb}
use Rattle.master_tour.specs.Made.{is_in}
use Rattle.master_tour.specs.Orders.{start_of, place_in, places_from, round_left, visits_left, visited_of, is_fixed, last_place, last_behind, AreOnce}
use Rattle.master_tour.proofs.Orders.{drop_at, place_over, round_here, start_low}

-- of a list of places
pub list_order : (xs : List ℕ) (i p d : ℕ) → i < length xs → p ≡ get_or xs i d → drop i xs ≡ p ∷ drop (i + 1) xs
list_order xs i p d l e =
    let f : suc i ≡ i + 1 = omega arith in
    drop_at xs i d l ∙ (λ j. sym e j ∷ drop (f j) xs)

-- of a round: those that aren't live are passed
module _ (live : ℕ → Bool) (start count : ℕ) where
  skips : (i d : ℕ) → i + d < count → ((j : ℕ) → i ≤ j → j < i + d → live (place_in start count j) ≡ false) → live (place_in start count (i + d)) ≡ true →
      filter live (round_left start count i) ≡ place_in start count (i + d) ∷ filter live (round_left start count (suc (i + d)))
  skips i zero l n y =
      let e : i + 0 ≡ i = omega arith in
      let here = round_here start count i (omega (arith, l)) in
      ap (filter live) here
      ∙ ap (λ (z : Bool). cond z (place_in start count i ∷ filter live (round_left start count (suc i))) (filter live (round_left start count (suc i)))) (subst (λ z. live (place_in start count z) ≡ true) e y)
      ∙ ap (λ z. place_in start count z ∷ filter live (round_left start count (suc z))) (sym e)
  skips i (suc d) l n y =
      let e : i + suc d ≡ suc i + d = omega arith in
      let here = round_here start count i (omega (arith, l)) in
      ap (filter live) here
      ∙ ap (λ (z : Bool). cond z (place_in start count i ∷ filter live (round_left start count (suc i))) (filter live (round_left start count (suc i)))) (n i (omega arith) (omega arith))
      ∙ skips (suc i) d (omega (arith, l)) (λ j a b. n j (omega (arith, a)) (omega (arith, b))) (subst (λ z. live (place_in start count z) ≡ true) e y)
      ∙ ap (λ z. place_in start count z ∷ filter live (round_left start count (suc z))) (sym e)

  pub round_order : (i j k p : ℕ) → i ≤ k → k < count → ((j : ℕ) → i ≤ j → j < k → live (place_in start count j) ≡ false) → live (place_in start count k) ≡ true → j ≡ k + 1 → p ≡ place_in start count k →
      filter live (round_left start count i) ≡ p ∷ filter live (round_left start count j)
  round_order i j k p a l n y f e =
      let s : i + (k - i) ≡ k = omega (arith, a) in
      let g : suc k ≡ j = omega (arith, f) in
      skips i (k - i) (omega (arith, a, l)) (λ q x z. n q x (omega (arith, z, a))) (subst (λ z. live (place_in start count z) ≡ true) (sym s) y)
      ∙ ap (λ z. place_in start count z ∷ filter live (round_left start count (suc z))) s
      ∙ (λ q. sym e q ∷ filter live (round_left start count (g q)))

  none_from : (i n : ℕ) → i + n ≤ count → ((j : ℕ) → i ≤ j → j < count → live (place_in start count j) ≡ false) → filter live (places_from start count i n) ≡ []
  none_from i zero l n = refl
  none_from i (suc d) l n =
      ap (λ (z : Bool). cond z (place_in start count i ∷ filter live (places_from start count (suc i) d)) (filter live (places_from start count (suc i) d))) (n i (omega arith) (omega (arith, l)))
      ∙ none_from (suc i) d (omega (arith, l)) (λ j a b. n j (omega (arith, a)) b)

  nothing_from : (i : ℕ) → count ≤ i → filter live (round_left start count i) ≡ []
  nothing_from i l = let e : count - i ≡ 0 = omega (arith, l) in ap (λ z. filter live (places_from start count i z)) e

  pub round_none : (i : ℕ) → ((j : ℕ) → i ≤ j → j < count → live (place_in start count j) ≡ false) → filter live (round_left start count i) ≡ []
  round_none i n = go (nat_lt i count) refl
    where
      go : (z : Bool) → nat_lt i count ≡ z → filter live (round_left start count i) ≡ []
      go true e = let l = ltb-true i count e in none_from i (count - i) (omega (arith, l)) n
      go false e = nothing_from i (ltb-false i count e)

-- by which of them it is
module _ (live : ℕ → Bool) (again : Bool) (visit : List ℕ) (opened count : ℕ) (last : Option ℕ) where
  pub again_order : (i j p : ℕ) → again ≡ true → drop i visit ≡ p ∷ drop j visit → visited_of (is_fixed again opened count) live (visits_left again visit opened count last i) ≡ p ∷ visited_of (is_fixed again opened count) live (visits_left again visit opened count last j)
  again_order i j p e h = subst (λ z. visited_of (is_fixed z opened count) live (visits_left z visit opened count last i) ≡ p ∷ visited_of (is_fixed z opened count) live (visits_left z visit opened count last j)) (sym e) h

  abbrev by_test : Bool → ℕ → List ℕ
  by_test z i = visited_of z live (if z then drop i (opened ∷ []) else round_left (start_of count last) count i)

  pub first_order : (i j p : ℕ) → again ≡ false → opened < count → drop i (opened ∷ []) ≡ p ∷ drop j (opened ∷ []) →
      visited_of (is_fixed again opened count) live (visits_left again visit opened count last i) ≡ p ∷ visited_of (is_fixed again opened count) live (visits_left again visit opened count last j)
  first_order i j p e l h =
      subst (λ z. visited_of (is_fixed z opened count) live (visits_left z visit opened count last i) ≡ p ∷ visited_of (is_fixed z opened count) live (visits_left z visit opened count last j)) (sym e)
      (subst (λ z. by_test z i ≡ p ∷ by_test z j) (sym (lt-ltb opened count l)) h)

  pub later_order : (i j p : ℕ) → again ≡ false → count ≤ opened → filter live (round_left (start_of count last) count i) ≡ p ∷ filter live (round_left (start_of count last) count j) →
      visited_of (is_fixed again opened count) live (visits_left again visit opened count last i) ≡ p ∷ visited_of (is_fixed again opened count) live (visits_left again visit opened count last j)
  later_order i j p e l h =
      subst (λ z. visited_of (is_fixed z opened count) live (visits_left z visit opened count last i) ≡ p ∷ visited_of (is_fixed z opened count) live (visits_left z visit opened count last j)) (sym e)
      (subst (λ z. by_test z i ≡ p ∷ by_test z j) (sym (le-ltb opened count l)) h)

  -- none is left
  pub first_none : (i : ℕ) → again ≡ false → opened < count → 1 ≤ i → visited_of (is_fixed again opened count) live (visits_left again visit opened count last i) ≡ []
  first_none i e l h =
      subst (λ z. visited_of (is_fixed z opened count) live (visits_left z visit opened count last i) ≡ []) (sym e)
      (subst (λ z. by_test z i ≡ []) (sym (lt-ltb opened count l)) (over i h))
    where
      nil : (n : ℕ) → drop {A = ℕ} n [] ≡ []
      nil zero = refl
      nil (suc n) = refl

      over : (n : ℕ) → 1 ≤ n → drop n (opened ∷ []) ≡ []
      over zero h = absurd (omega (arith, h))
      over (suc n) h = nil n

  pub later_none : (i : ℕ) → again ≡ false → count ≤ opened → filter live (round_left (start_of count last) count i) ≡ [] → visited_of (is_fixed again opened count) live (visits_left again visit opened count last i) ≡ []
  later_none i e l h =
      subst (λ z. visited_of (is_fixed z opened count) live (visits_left z visit opened count last i) ≡ []) (sym e)
      (subst (λ z. by_test z i ≡ []) (sym (le-ltb opened count l)) h)

-- THE ONE CARRIED LAST
last_got : (p : ℕ) (ps : List ℕ) → slice_get (p ∷ ps) (length ps) ≡ Some (last_place p ps)
last_got p [] = refl
last_got p (q ∷ ps) = last_got q ps

pub last_some : (opened count : ℕ) (last : Option ℕ) (visit : List ℕ) (x : ℕ) → slice_get visit (length visit - 1) ≡ Some x → last_behind opened count last visit ≡ (if nat_lt opened count then None else Some x)
last_some opened count last [] x e = absurd (cc)
last_some opened count last (p ∷ ps) x e =
    let n : length (p ∷ ps) - 1 ≡ length ps = omega arith in
    let f : Some (last_place p ps) ≡ Some x = sym (last_got p ps) ∙ ap (slice_get (p ∷ ps)) (sym n) ∙ e in
    ap (λ z. if nat_lt opened count then None else z) f

pub last_none : (opened count : ℕ) (last : Option ℕ) (visit : List ℕ) → slice_get visit (length visit - 1) ≡ None → last_behind opened count last visit ≡ last
last_none opened count last [] e = refl
last_none opened count last (p ∷ ps) e =
    let n : length (p ∷ ps) - 1 ≡ length ps = omega arith in
    absurd (let f = sym (last_got p ps) ∙ ap (slice_get (p ∷ ps)) (sym n) ∙ e in cc)

-- NO PLACE TWICE among the visits of a frame
once_from : (start count j n : ℕ) → start ≤ count → j + n ≤ count → AreOnce (places_from start count j n)
once_from start count j zero s l = tt
once_from start count j (suc n) s l = (place_over start count j (suc j) n s (omega arith) (omega (arith, l)), once_from start count (suc j) n s (omega (arith, l)))

not_filtered : (live : ℕ → Bool) (k : ℕ) (ps : List ℕ) → is_in k ps ≡ false → is_in k (filter live ps) ≡ false
not_filtered live k [] e = refl
not_filtered live k (p ∷ ps) e = go (k == p) refl e (not_filtered live k ps)
  where
    by : (z : Bool) → (k == p) ≡ false → is_in k (filter live ps) ≡ false → is_in k (cond z (p ∷ filter live ps) (filter live ps)) ≡ false
    by true f r = ap (λ (y : Bool). if y then true else is_in k (filter live ps)) f ∙ r
    by false f r = r

    go : (z : Bool) → (k == p) ≡ z → (if z then true else is_in k ps) ≡ false → (is_in k ps ≡ false → is_in k (filter live ps) ≡ false) → is_in k (cond (live p) (p ∷ filter live ps) (filter live ps)) ≡ false
    go true f e r = absurd (cc)
    go false f e r = by (live p) f (r e)

once_filtered : (live : ℕ → Bool) (ps : List ℕ) → AreOnce ps → AreOnce (filter live ps)
once_filtered live [] o = tt
once_filtered live (p ∷ ps) o = go (live p) (once_filtered live ps o.1)
  where
    go : (z : Bool) → AreOnce (filter live ps) → AreOnce (cond z (p ∷ filter live ps) (filter live ps))
    go true r = (not_filtered live p ps o.0, r)
    go false r = r

pub visits_once : (live : ℕ → Bool) (again : Bool) (visit : List ℕ) (opened count : ℕ) (last : Option ℕ) → (again ≡ true → AreOnce visit) → AreOnce (visited_of (is_fixed again opened count) live (visits_left again visit opened count last 0))
visits_once live true visit opened count last o = o refl
visits_once live false visit opened count last o = go (nat_lt opened count)
  where
    go : (z : Bool) → AreOnce (visited_of z live (if z then drop 0 (opened ∷ []) else round_left (start_of count last) count 0))
    go true = (refl, tt)
    go false = once_filtered live (round_left (start_of count last) count 0) (once_from (start_of count last) count 0 (count - 0) (start_low count last) (omega arith))

-- the same where the same are live
pub visited_same : (fixed : Bool) (f g : ℕ → Bool) (ps : List ℕ) → ((k : ℕ) → f k ≡ g k) → visited_of fixed f ps ≡ visited_of fixed g ps
visited_same true f g ps h = refl
visited_same false f g [] h = refl
visited_same false f g (p ∷ ps) h = (λ i. cond (h p i) (p ∷ visited_same false f g ps h i) (visited_same false f g ps h i))
