-- The visit that comes next.
use Rattle.std.proofs.Common.{◌≡◌, ℕ, zero, suc, ◌+◌, ◌-◌, ◌<◌, ◌≤◌, ◌==◌, Bool, true, false, Option, Some, None, List, [], ◌∷◌, length, get_or, drop, refl, sym, ap, ◌∙◌, subst, arith, eq-eqb}
use Rattle.std.specs.Prelude.{nat_lt, if◌then◌else◌}
use Rattle.std.proofs.lemmas.Bool.{ltb-true, ltb-false, lt-ltb, le-ltb}
use Rattle.master_tour.specs.Made.{is_in}
use Rattle.master_tour.specs.Orders.{start_of, place_in, places_from, round_left, visits_left, AreOnce, IsNextOf, IsCarried}
use Rattle.master_tour.proofs.Steps.{differ}

in_behind : (k p : ℕ) (ps : List ℕ) → is_in k ps ≡ true → is_in k (p ∷ ps) ≡ true
in_behind k p ps e = go (k == p)
  where
    go : (z : Bool) → (if z then true else is_in k ps) ≡ true
    go true = refl
    go false = e

-- the first of those left
pub first_next : (p : ℕ) (ps : List ℕ) → is_in p ps ≡ false → IsNextOf p (p ∷ ps) ps
first_next p ps n = record {
  among = ap (λ (z : Bool). if z then true else is_in p ps) (eq-eqb p p refl);
  over = n;
  fewer = λ k e. in_behind k p ps e;
}

pub drop_at : (xs : List ℕ) (i d : ℕ) → i < length xs → drop i xs ≡ get_or xs i d ∷ drop (suc i) xs
drop_at [] i d l = absurd (omega (arith, l))
drop_at (x ∷ xs) zero d l = refl
drop_at (x ∷ xs) (suc i) d l = drop_at xs i d (omega (arith, l))

once_behind : (xs : List ℕ) (i : ℕ) → AreOnce xs → AreOnce (drop i xs)
once_behind [] zero o = o
once_behind [] (suc i) o = o
once_behind (x ∷ xs) zero o = o
once_behind (x ∷ xs) (suc i) o = once_behind xs i o.1

-- of a list of places, no one twice
pub list_next : (xs : List ℕ) (i j p d : ℕ) → j ≡ suc i → i < length xs → p ≡ get_or xs i d → AreOnce xs → IsNextOf p (drop i xs) (drop j xs)
list_next xs i j p d s l e o =
    let here = drop_at xs i d l in
    let once = subst AreOnce here (once_behind xs i o) in
    subst (λ z. IsNextOf z (drop i xs) (drop j xs)) (sym e)
    (subst (λ z. IsNextOf (get_or xs i d) (drop i xs) (drop z xs)) (sym s)
    (subst (λ z. IsNextOf (get_or xs i d) z (drop (suc i) xs)) (sym here) (first_next (get_or xs i d) (drop (suc i) xs) once.0)))

-- of a round
place_differs : (start count j k : ℕ) → start ≤ count → j < count → k < count → (j ≡ k → ⊥) → (place_in start count j == place_in start count k) ≡ false
place_differs start count j k s a b n = go (nat_lt j (count - start)) refl (nat_lt k (count - start)) refl
  where
    go : (y : Bool) → nat_lt j (count - start) ≡ y → (z : Bool) → nat_lt k (count - start) ≡ z →
        ((if y then start + j else j - (count - start)) == (if z then start + k else k - (count - start))) ≡ false
    go true e true f = differ (start + j) (start + k) (λ q. n (omega (arith, q)))
    go true e false f = let x = ltb-true j (count - start) e in let y = ltb-false k (count - start) f in differ (start + j) (k - (count - start)) (λ q. omega (arith, q, x, y, a, b, s))
    go false e true f = let x = ltb-false j (count - start) e in let y = ltb-true k (count - start) f in differ (j - (count - start)) (start + k) (λ q. omega (arith, q, x, y, a, b, s))
    go false e false f = let x = ltb-false j (count - start) e in let y = ltb-false k (count - start) f in differ (j - (count - start)) (k - (count - start)) (λ q. n (omega (arith, q, x, y)))

pub place_over : (start count k j n : ℕ) → start ≤ count → k < j → j + n ≤ count → is_in (place_in start count k) (places_from start count j n) ≡ false
place_over start count k j zero s a b = refl
place_over start count k j (suc n) s a b =
    ap (λ (z : Bool). if z then true else is_in (place_in start count k) (places_from start count (suc j) n)) (place_differs start count k j s (omega (arith, a, b)) (omega (arith, b)) (λ q. omega (arith, q, a)))
    ∙ place_over start count k (suc j) n s (omega (arith, a)) (omega (arith, b))

-- later ones are among those left before
later_in : (start count q j d n : ℕ) → is_in q (places_from start count (j + d) n) ≡ true → is_in q (places_from start count j (d + n)) ≡ true
later_in start count q j zero n e =
    let f : j + 0 ≡ j = omega arith in
    let g : n ≡ 0 + n = omega arith in
    subst (λ z. is_in q (places_from start count j z) ≡ true) g (subst (λ z. is_in q (places_from start count z n) ≡ true) f e)
later_in start count q j (suc d) n e =
    let f : j + suc d ≡ suc j + d = omega arith in
    let g : suc (d + n) ≡ suc d + n = omega arith in
    subst (λ z. is_in q (places_from start count j z) ≡ true) g
    (in_behind q (place_in start count j) (places_from start count (suc j) (d + n)) (later_in start count q (suc j) d n (subst (λ z. is_in q (places_from start count z n) ≡ true) f e)))

round_later : (start count q j k : ℕ) → j ≤ k → k ≤ count → is_in q (round_left start count k) ≡ true → is_in q (round_left start count j) ≡ true
round_later start count q j k a b e =
    let f : k ≡ j + (k - j) = omega (arith, a) in
    let g : (k - j) + (count - k) ≡ count - j = omega (arith, a, b) in
    subst (λ z. is_in q (places_from start count j z) ≡ true) g
    (later_in start count q j (k - j) (count - k) (subst (λ z. is_in q (places_from start count z (count - k)) ≡ true) f e))

pub round_here : (start count k : ℕ) → k < count → round_left start count k ≡ place_in start count k ∷ round_left start count (suc k)
round_here start count k l = let e : count - k ≡ suc (count - suc k) = omega (arith, l) in ap (places_from start count k) e

pub round_next : (start count i j k p : ℕ) → start ≤ count → i ≤ k → k < count → j ≡ k + 1 → p ≡ place_in start count k → IsNextOf p (round_left start count i) (round_left start count j)
round_next start count i j k p s a b c e =
    let f : j ≡ suc k = omega (arith, c) in
    subst (λ z. IsNextOf z (round_left start count i) (round_left start count j)) (sym e)
    (subst (λ z. IsNextOf (place_in start count k) (round_left start count i) (round_left start count z)) (sym f)
    (record {
      among = round_later start count (place_in start count k) i k a (omega (arith, b))
          (subst (λ z. is_in (place_in start count k) z ≡ true) (sym (round_here start count k b)) (ap (λ (z : Bool). if z then true else is_in (place_in start count k) (round_left start count (suc k))) (eq-eqb (place_in start count k) (place_in start count k) refl)));
      over = place_over start count k (suc k) (count - suc k) s (omega arith) (omega (arith, b));
      fewer = λ q t. round_later start count q i (suc k) (omega (arith, a)) (omega (arith, b)) t;
    }))

pub start_low : (count : ℕ) (last : Option ℕ) → start_of count last ≤ count
start_low count None = omega arith
start_low count (Some last) = go (nat_lt last count) refl
  where
    go : (z : Bool) → nat_lt last count ≡ z → (if z then last + 1 else 0) ≤ count
    go true e = let l = ltb-true last count e in omega (arith, l)
    go false e = omega arith

pub one_next : (p i : ℕ) → i ≡ 0 → IsNextOf p (drop i (p ∷ [])) (drop 1 (p ∷ []))
one_next p i e = subst (λ z. IsNextOf p (drop z (p ∷ [])) []) (sym e) (first_next p [] refl)

-- by which of them it is
module _ (again : Bool) (visit : List ℕ) (opened count : ℕ) (last : Option ℕ) (i j p : ℕ) where
  pub again_next : again ≡ true → (again ≡ true → AreOnce visit) → (AreOnce visit → IsNextOf p (drop i visit) (drop j visit)) → IsNextOf p (visits_left again visit opened count last i) (visits_left again visit opened count last j)
  again_next e o h = subst (λ z. IsNextOf p (visits_left z visit opened count last i) (visits_left z visit opened count last j)) (sym e) (h (o e))

  pub first_of : again ≡ false → opened < count → IsNextOf p (drop i (opened ∷ [])) (drop j (opened ∷ [])) → IsNextOf p (visits_left again visit opened count last i) (visits_left again visit opened count last j)
  first_of e l h =
      subst (λ z. IsNextOf p (visits_left z visit opened count last i) (visits_left z visit opened count last j)) (sym e)
      (subst (λ (z : Bool). IsNextOf p (if z then drop i (opened ∷ []) else round_left (start_of count last) count i) (if z then drop j (opened ∷ []) else round_left (start_of count last) count j)) (sym (lt-ltb opened count l)) h)

  pub round_of : again ≡ false → count ≤ opened → IsNextOf p (round_left (start_of count last) count i) (round_left (start_of count last) count j) → IsNextOf p (visits_left again visit opened count last i) (visits_left again visit opened count last j)
  round_of e l h =
      subst (λ z. IsNextOf p (visits_left z visit opened count last i) (visits_left z visit opened count last j)) (sym e)
      (subst (λ (z : Bool). IsNextOf p (if z then drop i (opened ∷ []) else round_left (start_of count last) count i) (if z then drop j (opened ∷ []) else round_left (start_of count last) count j)) (sym (le-ltb opened count l)) h)

-- a datagram more is counted
pub counted_carried : (under again : Bool) (count count' place : ℕ) (old new : List ℕ) → IsCarried under again place old new → (under ≡ true → count' ≡ count + 1) → (under ≡ false → count' ≡ count) → IsCarried (nat_lt count count') again place old new
counted_carried true again count count' place old new c a b = let e = a refl in subst (λ z. IsCarried z again place old new) (sym (lt-ltb count count' (omega (arith, e)))) c
counted_carried false again count count' place old new c a b = let e = b refl in subst (λ z. IsCarried z again place old new) (sym (le-ltb count count' (omega (arith, e)))) c
