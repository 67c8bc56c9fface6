-- Indexes that rise, as a loop adds them.
use Rattle.std.proofs.Common.{◌≡◌, ℕ, ◌<◌, true, List, [], ◌∷◌, ◌++◌, nat_lt, nat_le, refl, arith}
use Rattle.std.specs.List.{list_all}
use Rattle.std.proofs.lemmas.List.Folds.{list_all-append}
use Rattle.segment_plan.specs.of_object_dictionary.Sound.{is_rising}
use Rattle.segment_plan.specs.declared.slave.ObjectSpec.{ObjectSpec}
use Rattle.segment_plan.specs.Sound.{indexes}

-- these rise, and none is above the last
pub record RisesTo (last : ℕ) (xs : List ℕ) : Type 0 where
  pub rising : is_rising xs ≡ true
  pub within : list_all (λ x. nat_le x last) xs ≡ true

rising_more : (xs : List ℕ) (last x : ℕ) → is_rising xs ≡ true → list_all (λ y. nat_le y last) xs ≡ true → last < x → is_rising (xs ++ x ∷ []) ≡ true
rising_more [] last x r w lt = refl
rising_more (y ∷ ys) last x r w lt = grind (arith, list_all-append (nat_lt y) ys (x ∷ []), rising_more ys last x)

within_more : (xs : List ℕ) (last x : ℕ) → list_all (λ y. nat_le y last) xs ≡ true → last < x → list_all (λ y. nat_le y x) (xs ++ x ∷ []) ≡ true
within_more [] last x w lt = grind arith
within_more (y ∷ ys) last x w lt = grind (arith, within_more ys last x)

indexes_more : (os : List ObjectSpec) (o : ObjectSpec) → indexes (os ++ o ∷ []) ≡ indexes os ++ o.index ∷ []
indexes_more [] o = refl
indexes_more (p ∷ ps) o = grind (arith, indexes_more ps o)

-- one more object, whose index is above the last
pub rises_on : (os : List ObjectSpec) (o : ObjectSpec) (last : ℕ) (os' : List ObjectSpec) → os' ≡ os ++ o ∷ [] → last < o.index → RisesTo last (indexes os) → RisesTo o.index (indexes os')
rises_on os o last os' more lt r = rw (more, indexes_more os o) (record {
  rising = rising_more (indexes os) last o.index r.rising r.within lt;
  within = within_more (indexes os) last o.index r.within lt;
})
