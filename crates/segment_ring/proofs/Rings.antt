-- Frames and steps along a ring.
use Rattle.std.proofs.Common.{◌≡◌, ℕ, zero, suc, ◌-◌, ◌≤◌, ◌<◌, get_or, List, [], ◌∷◌, ◌++◌, length, take, drop, refl, sym, ap, ap₂, ◌∙◌, subst, arith, append_assoc}
use Rattle.std.specs.Prelude.{if◌then◌else◌, slice_set}
use Rattle.segment_ring.specs.Ring.{ArePaces, AllFew, nodes_passed, nodes_stepped, is_in_pace}

-- a list with one cell set
module _ {X : Type 0} where
  take_set : (xs : List X) (at : ℕ) (x : X) → at < length xs → take (suc at) (slice_set xs at x) ≡ take at xs ++ x ∷ []
  take_set [] at x inside = absurd (omega (arith, inside))
  take_set (y ∷ xs) zero x inside = refl
  take_set (y ∷ xs) (suc at) x inside = ap (λ l. y ∷ l) (take_set xs at x (omega (arith, inside)))

  drop_set : (xs : List X) (at : ℕ) (x : X) → drop (suc at) (slice_set xs at x) ≡ drop (suc at) xs
  drop_set [] at x = refl
  drop_set (y ∷ xs) zero x = refl
  drop_set (y ∷ xs) (suc at) x = drop_set xs at x

  pub length_set : (xs : List X) (at : ℕ) (x : X) → length (slice_set xs at x) ≡ length xs
  length_set [] at x = refl
  length_set (y ∷ xs) zero x = refl
  length_set (y ∷ xs) (suc at) x = ap suc (length_set xs at x)

  cell : (xs : List X) (at : ℕ) (d : X) → at < length xs → drop at xs ≡ get_or xs at d ∷ drop (suc at) xs
  cell [] at d inside = absurd (omega (arith, inside))
  cell (y ∷ xs) zero d inside = refl
  cell (y ∷ xs) (suc at) d inside = cell xs at d (omega (arith, inside))

module _ {N : Type 0} (passed : N → List ℕ → N × List ℕ) where
  -- a frame that is to meet more slaves than there are meets all
  pub all_met : (nodes : List N) (octets : List ℕ) (count : ℕ) → length nodes ≤ count → nodes_passed passed count nodes octets ≡ nodes_passed passed (length nodes) nodes octets
  all_met [] octets zero le = refl
  all_met [] octets (suc count) le = refl
  all_met (n ∷ nodes) octets zero le = absurd (omega (arith, le))
  all_met (n ∷ nodes) octets (suc count) le = ap (λ (o : List N × List ℕ). ((passed n octets).0 ∷ o.0, o.1)) (all_met nodes (passed n octets).1 count (omega (arith, le)))

module _ {N : Type 0} (handled : N → ℕ) where
  pub few_more : (nodes : List N) (a b : ℕ) → a ≤ b → AllFew handled a nodes → AllFew handled b nodes
  few_more [] a b le few = tt
  few_more (n ∷ nodes) a b le few = (let low = few.0 in omega (arith, le, low), few_more nodes a b le few.1)

  pub few_at : (nodes : List N) (at most : ℕ) (d : N) → at < length nodes → AllFew handled most nodes → handled (get_or nodes at d) ≤ most
  few_at [] at most d inside few = absurd (omega (arith, inside))
  few_at (n ∷ nodes) zero most d inside few = few.0
  few_at (n ∷ nodes) (suc at) most d inside few = few_at nodes at most d (omega (arith, inside)) few.1

  pub few_set : (nodes : List N) (at most : ℕ) (n : N) → handled n ≤ most → AllFew handled most nodes → AllFew handled most (slice_set nodes at n)
  few_set [] at most n low few = tt
  few_set (m ∷ nodes) zero most n low few = (low, few.1)
  few_set (m ∷ nodes) (suc at) most n low few = (few.0, few_set nodes at most n low few.1)

  few_drop : (nodes : List N) (at most : ℕ) → AllFew handled most nodes → AllFew handled most (drop at nodes)
  few_drop nodes zero most few = few
  few_drop [] (suc at) most few = tt
  few_drop (n ∷ nodes) (suc at) most few = few_drop nodes at most few.1

  few_append : (xs ys : List N) (most : ℕ) → AllFew handled most xs → AllFew handled most ys → AllFew handled most (xs ++ ys)
  few_append [] ys most few more = more
  few_append (x ∷ xs) ys most few more = (few.0, few_append xs ys most few.1 more)

  -- the slave whose turn it is has carried out no more than at first
  pub few_here : (nodes first : List N) (at most : ℕ) (d : N) → at < length nodes → drop at nodes ≡ drop at first → AllFew handled most first → handled (get_or nodes at d) ≤ most
  few_here nodes first at most d inside same few = (subst (AllFew handled most) (sym same ∙ cell nodes at d inside) (few_drop first at most few)).0

  pub few_taken : (nodes : List N) (at more most : ℕ) (n : N) → more ≡ suc at → at < length nodes → handled n ≤ most → AllFew handled most (take at nodes) → AllFew handled most (take more (slice_set nodes at n))
  few_taken nodes at more most n is inside low few =
      subst (AllFew handled most) (sym (ap (λ k. take k (slice_set nodes at n)) is ∙ take_set nodes at n inside)) (few_append (take at nodes) (n ∷ []) most few (low, tt))

-- the rest of the slaves behind one of them
pub rest_same : {N : Type 0} (nodes first : List N) (at more : ℕ) (n : N) → more ≡ suc at → drop at nodes ≡ drop at first → drop more (slice_set nodes at n) ≡ drop more first
rest_same nodes first at more n is same =
    ap (λ k. drop k (slice_set nodes at n)) is ∙ drop_set nodes at n ∙ one nodes at ∙ ap (drop 1) same ∙ sym (one first at) ∙ ap (λ k. drop k first) (sym is)
  where
    one : {X : Type 0} (xs : List X) (at : ℕ) → drop (suc at) xs ≡ drop 1 (drop at xs)
    one [] zero = refl
    one [] (suc at) = refl
    one (x ∷ xs) zero = refl
    one (x ∷ xs) (suc at) = one xs at

-- one slave more has met the frame
module _ {N : Type 0} (passed : N → List ℕ → N × List ℕ) where
  -- these slaves have met it, and so many of these are to
  abbrev pub Left : List N → ℕ → List N → List ℕ → List N × List ℕ
  Left front count left octets = (front ++ (nodes_passed passed count left octets).0, (nodes_passed passed count left octets).1)

  abbrev Turn : List N → ℕ → List N → N × List ℕ → List N × List ℕ
  Turn front count left p = (front ++ p.0 ∷ (nodes_passed passed count left p.1).0, (nodes_passed passed count left p.1).1)

  pub met_more : (count at more : ℕ) (nodes : List N) (old n : N) (octets new_octets : List ℕ) → more ≡ suc at → at < count → at < length nodes → old ≡ get_or nodes at old → (let p : N × List ℕ = (n, new_octets) in p) ≡ passed old octets →
      Left (take at nodes) (count - at) (drop at nodes) octets ≡ Left (take more (slice_set nodes at n)) (count - more) (drop more (slice_set nodes at n)) new_octets
  met_more count at more nodes old n octets new_octets is few inside here pass =
      let rest = drop (suc at) nodes in
      let left : count - at ≡ suc (count - suc at) = omega (arith, few) in
      let turn : drop at nodes ≡ old ∷ rest = cell nodes at old inside ∙ ap (λ o. o ∷ rest) (sym here) in
      let behind = nodes_passed passed (count - suc at) rest new_octets in
      ap₂ (λ (k : ℕ) (l : List N). Left (take at nodes) k l octets) left turn
      ∙ ap (Turn (take at nodes) (count - suc at) rest) (sym pass)
      ∙ ap (λ (l : List N). (let p : List N × List ℕ = (l, behind.1) in p)) (sym (append_assoc (take at nodes) (n ∷ []) behind.0))
      ∙ ap₂ (λ (t d : List N). Left t (count - suc at) d new_octets) (sym (take_set nodes at n inside)) (sym (drop_set nodes at n))
      ∙ ap (λ (k : ℕ). Left (take k (slice_set nodes at n)) (count - k) (drop k (slice_set nodes at n)) new_octets) (sym is)

-- one slave more has made its step, or none
module _ {N : Type 0} (stepped : N → N) where
  pub stepped_more : (paces : List ℕ) (number at more : ℕ) (nodes : List N) (old n : N) → more ≡ suc at → at < length paces → at < length nodes → old ≡ get_or nodes at old →
      n ≡ (if is_in_pace (get_or paces at 0) number then stepped old else old) →
      take at nodes ++ nodes_stepped stepped (drop at paces) number (drop at nodes) ≡ take more (slice_set nodes at n) ++ nodes_stepped stepped (drop more paces) number (drop more (slice_set nodes at n))
  stepped_more paces number at more nodes old n is paced inside here step =
      let rest = drop (suc at) nodes in
      let turn : drop at nodes ≡ old ∷ rest = cell nodes at old inside ∙ ap (λ o. o ∷ rest) (sym here) in
      let behind = nodes_stepped stepped (drop (suc at) paces) number rest in
      ap₂ (λ (p : List ℕ) (l : List N). take at nodes ++ nodes_stepped stepped p number l) (cell paces at 0 paced) turn
      ∙ ap (λ o. take at nodes ++ o ∷ behind) (sym step)
      ∙ sym (append_assoc (take at nodes) (n ∷ []) behind)
      ∙ ap₂ (λ (t d : List N). t ++ nodes_stepped stepped (drop (suc at) paces) number d) (sym (take_set nodes at n inside)) (sym (drop_set nodes at n))
      ∙ ap (λ (k : ℕ). take k (slice_set nodes at n) ++ nodes_stepped stepped (drop k paces) number (drop k (slice_set nodes at n))) (sym is)

pub pace_at : (paces : List ℕ) (at : ℕ) → at < length paces → ArePaces paces → 1 ≤ get_or paces at 0
pace_at [] at inside are = absurd (omega (arith, inside))
pace_at (pace ∷ paces) zero inside are = are.0
pace_at (pace ∷ paces) (suc at) inside are = pace_at paces at (omega (arith, inside)) are.2
