-- A frame that carries the first live slaves of a round brings each other one nearer.
use Rattle.std.proofs.Common.{◌≡◌, ℕ, zero, suc, ◌+◌, ◌-◌, ◌<◌, ◌≤◌, ◌==◌, Bool, true, false, cond, Option, Some, List, [], ◌∷◌, ◌++◌, filter, length, refl, sym, ap, ◌∙◌, subst, arith, if◌then◌else◌, inl, inr, eq-eqb}
use Rattle.std.specs.Prelude.{nat_le, nat_lt}
use Rattle.std.proofs.lemmas.Bool.{leb-true, leb-false, cases_lt}
use Rattle.run_frames.specs.Clocks.{start_of, before_in, ahead_at}
use Rattle.run_frames.specs.Orders.{is_in, place_in, places_from, AreFirst, last_of}
use Rattle.run_frames.proofs.Clocking.{start_in, before_less}

-- the slave carried last, by its number in the round; and each live one that isn't carried comes behind it
pub record Carried (live : ℕ → Bool) (start count k n : ℕ) (ps : List ℕ) : Type 0 where
  pub j : ℕ
  pub least : k ≤ j
  pub most : j < k + n
  pub last : (prev : Option ℕ) → last_of prev ps ≡ Some (place_in start count j)
  pub behind : (i : ℕ) → k ≤ i → i < k + n → live (place_in start count i) ≡ true → is_in (place_in start count i) ps ≡ false → suc j ≤ i

own_in : (p : ℕ) (ps : List ℕ) → is_in p (p ∷ ps) ≡ true
own_in p ps = ap (λ (z : Bool). if z then true else is_in p ps) (eq-eqb p p refl)

not_in : (q p : ℕ) (ps : List ℕ) → is_in q (p ∷ ps) ≡ false → is_in q ps ≡ false
not_in q p ps e = go (q == p) e
  where
    go : (b : Bool) → (if b then true else is_in q ps) ≡ false → is_in q ps ≡ false
    go true e = absurd (cc)
    go false e = e

abbrev head_of : List ℕ → ℕ
head_of [] = 0
head_of (x ∷ xs) = x

abbrev tail_of : List ℕ → List ℕ
tail_of [] = []
tail_of (x ∷ xs) = xs

pub walk : (live : ℕ → Bool) (start count k n : ℕ) (ps rest : List ℕ) → filter live (places_from start count k n) ≡ ps ++ rest → 1 ≤ length ps → Carried live start count k n ps
walk live start count k n [] rest e some = absurd (omega (arith, some))
walk live start count k zero (p ∷ ps) rest e some = absurd (let no : 0 ≡ suc (length (ps ++ rest)) = ap length e in omega (arith, no))
walk live start count k (suc n) (p ∷ ps) rest e some = go (live (place_in start count k)) refl e (λ zs f g. walk live start count (suc k) n zs rest f g)
  where
    q : ℕ
    q = place_in start count k

    go : (b : Bool) → live q ≡ b → cond b (q ∷ filter live (places_from start count (suc k) n)) (filter live (places_from start count (suc k) n)) ≡ (p ∷ ps) ++ rest →
        ((zs : List ℕ) → filter live (places_from start count (suc k) n) ≡ zs ++ rest → 1 ≤ length zs → Carried live start count (suc k) n zs) → Carried live start count k (suc n) (p ∷ ps)
    go true f g rec =
        let same : q ≡ p = ap head_of g in
        let others : filter live (places_from start count (suc k) n) ≡ ps ++ rest = ap tail_of g in
        more ps others same
      where
        more : (ps' : List ℕ) → filter live (places_from start count (suc k) n) ≡ ps' ++ rest → q ≡ p → Carried live start count k (suc n) (p ∷ ps')
        more [] others same = record {
          j = k;
          least = omega arith;
          most = omega arith;
          last = λ prev. ap Some (sym same);
          behind = λ i l m is out. elim (cases_lt k i) [
            | inl less ↦ less
            | inr less ↦ absurd (
                let at : place_in start count i ≡ p = ap (place_in start count) (omega (arith, l, less)) ∙ same in
                let yes = ap (λ z. is_in z (p ∷ [])) at ∙ own_in p [] in
                cc)
          ];
        }
        more (x ∷ xs) others same =
            let r = rec (x ∷ xs) others (omega arith) in
            record {
              j = r.j;
              least = omega (arith, r.least);
              most = omega (arith, r.most);
              last = λ prev. r.last (Some p);
              behind = λ i l m is out. elim (cases_lt k i) [
                | inl less ↦ r.behind i less (omega (arith, m)) is (not_in (place_in start count i) p (x ∷ xs) out)
                | inr less ↦ absurd (
                    let at : place_in start count i ≡ p = ap (place_in start count) (omega (arith, l, less)) ∙ same in
                    let yes = ap (λ z. is_in z (p ∷ x ∷ xs)) at ∙ own_in p (x ∷ xs) in
                    cc)
              ];
            }
    go false f g rec =
        let r = rec (p ∷ ps) g some in
        record {
          j = r.j;
          least = omega (arith, r.least);
          most = omega (arith, r.most);
          last = r.last;
          behind = λ i l m is out. elim (cases_lt k i) [
            | inl less ↦ r.behind i less (omega (arith, m)) is out
            | inr less ↦ absurd (
                let at : place_in start count i ≡ q = ap (place_in start count) (omega (arith, l, less)) in
                let is' = ap live (sym at) ∙ is in
                cc)
          ];
        }

-- the slave at a place is the one of that number
pub place_back : (count start place : ℕ) → start ≤ count → place < count → place_in start count (before_in count start place) ≡ place
place_back count start place s p = go (nat_le start place) refl
  where
    go : (b : Bool) → nat_le start place ≡ b → place_in start count (if b then place - start else place + (count - start)) ≡ place
    go true e = (
        let less = leb-true start place e in
        by (nat_lt (place - start) (count - start)) refl less)
      where
        by : (c : Bool) → nat_lt (place - start) (count - start) ≡ c → start ≤ place → (if c then start + (place - start) else (place - start) - (count - start)) ≡ place
        by true f less = omega (arith, less)
        by false f less = absurd (let no = leb-false (suc (place - start)) (count - start) f in omega (arith, no, less, p))
    go false e = (
        let less = leb-false start place e in
        by (nat_lt (place + (count - start)) (count - start)) refl less)
      where
        by : (c : Bool) → nat_lt (place + (count - start)) (count - start) ≡ c → suc place ≤ start → (if c then start + (place + (count - start)) else (place + (count - start)) - (count - start)) ≡ place
        by true f less = absurd (let no = leb-true (suc (place + (count - start))) (count - start) f in omega (arith, no))
        by false f less = omega arith

-- and it is of the ring
pub place_in_less : (count start j : ℕ) → start ≤ count → j < count → place_in start count j < count
place_in_less count start j s p = go (nat_lt j (count - start)) refl
  where
    go : (b : Bool) → nat_lt j (count - start) ≡ b → (if b then start + j else j - (count - start)) < count
    go true e = (let less = leb-true (suc j) (count - start) e in omega (arith, less, s))
    go false e = omega (arith, p)

-- behind the slave number j of a round, one that came behind it is nearer by all up to that one
pub next_round : (count start j place : ℕ) → start ≤ count → j < count → place < count → suc j ≤ before_in count start place →
    suc j + ahead_at count (Some (place_in start count j)) place ≡ before_in count start place
next_round count start j place s l p less = by (nat_lt (place_in start count j) count) refl
  where
    there : place_in start count j < count
    there = place_in_less count start j s l

    sums : (a b c : Bool) → nat_lt j (count - start) ≡ a → nat_le start place ≡ b → nat_le ((if a then start + j else j - (count - start)) + 1) place ≡ c → suc j ≤ (if b then place - start else place + (count - start)) →
        suc j + (if c then place - ((if a then start + j else j - (count - start)) + 1) else place + (count - ((if a then start + j else j - (count - start)) + 1))) ≡ (if b then place - start else place + (count - start))
    sums true true true e f g less = (let k = leb-true (start + j + 1) place g in omega (arith, k))
    sums true true false e f g less = absurd (let k = leb-false (start + j + 1) place g in let m = leb-true start place f in omega (arith, k, m, less))
    sums true false true e f g less = absurd (let k = leb-true (start + j + 1) place g in let m = leb-false start place f in omega (arith, k, m))
    sums true false false e f g less = (let k = leb-true (suc j) (count - start) e in omega (arith, k, s, p))
    sums false true c e f g less = absurd (let k = leb-false (suc j) (count - start) e in let m = leb-true start place f in omega (arith, k, m, less, p))
    sums false false true e f g less = (let k = leb-false (suc j) (count - start) e in let m = leb-true (j - (count - start) + 1) place g in omega (arith, k, m))
    sums false false false e f g less = absurd (let k = leb-false (suc j) (count - start) e in let m = leb-false (j - (count - start) + 1) place g in omega (arith, k, m, less))

    by : (b : Bool) → nat_lt (place_in start count j) count ≡ b → suc j + before_in count (if b then place_in start count j + 1 else 0) place ≡ before_in count start place
    by false e = absurd (let no = leb-false (suc (place_in start count j)) count e in omega (arith, no, there))
    by true e = sums (nat_lt j (count - start)) (nat_le start place) (nat_le (place_in start count j + 1) place) refl refl refl less

-- EACH LIVE SLAVE THAT ISN'T CARRIED COMES NEARER
pub comes_nearer : (live : ℕ → Bool) (count : ℕ) (last prev : Option ℕ) (ps qs : List ℕ) (place : ℕ) → qs ≡ filter live (places_from (start_of count last) count 0 count) → AreFirst ps qs → place < count → live place ≡ true → is_in place ps ≡ false →
    suc (ahead_at count (last_of prev ps) place) ≤ ahead_at count last place
comes_nearer live count last prev ps qs place are first p is out =
    let start = start_of count last in
    let s = start_in count last in
    let r = walk live start count 0 count ps first.rest (sym are ∙ first.whole) first.some in
    let i = before_in count start place in
    let less : i < count = before_less count start place s p in
    let at : place_in start count i ≡ place = place_back count start place s p in
    let behind : suc r.j ≤ i = r.behind i (omega arith) (omega (arith, less)) (ap live at ∙ is) (ap (λ z. is_in z ps) at ∙ out) in
    let sum : suc r.j + ahead_at count (Some (place_in start count r.j)) place ≡ i = next_round count start r.j place s (omega (arith, r.most)) p behind in
    let one : suc (ahead_at count (Some (place_in start count r.j)) place) ≤ i = omega (arith, sum) in
    subst (λ z. suc (ahead_at count z place) ≤ i) (sym (r.last prev)) one
