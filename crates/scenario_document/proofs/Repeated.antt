-- The first value of a list that one before it equals, as a loop looks for it.
use Rattle.std.proofs.Common.{◌≡◌, ℕ, ◌+◌, ◌<◌, ◌≤◌, Bool, true, false, List, [], ◌∷◌, ◌++◌, length, get_or, take, drop, Some, None, refl, sym, ap, ◌∙◌}
use Rattle.std.specs.List.{list_any}
use Rattle.std.proofs.lemmas.List.{drop_more, take_more}
use Rattle.std.proofs.Math.ListN.{drop_of_length-le}
use Rattle.scenario_services.specs.of_segment_plan.Sound.{repeated_from}

module _ {K : Type 0} (same : K → K → Bool) where
  split : (ks : List K) (i : ℕ) (k : K) → i < length ks → k ≡ get_or ks i k → drop i ks ≡ k ∷ drop (i + 1) ks
  split ks i k lt is =
      let here : drop i ks ≡ get_or ks i k ∷ drop (i + 1) ks = drop_more ks i k lt in
      here ∙ ap (λ x. x ∷ drop (i + 1) ks) (sym is)

  grown : (ks : List K) (i : ℕ) (k : K) → i < length ks → k ≡ get_or ks i k → take (i + 1) ks ≡ take i ks ++ k ∷ []
  grown ks i k lt is = take_more ks i k lt ∙ ap (λ x. take i ks ++ x ∷ []) (sym is)

  -- the value at a place equals one before it
  pub repeats : (ks : List K) (i : ℕ) (k : K) → i < length ks → k ≡ get_or ks i k → list_any (same k) (take i ks) ≡ true
      → repeated_from same (take i ks) i (drop i ks) ≡ Some i
  repeats ks i k lt is any = rw (split ks i k lt is, any) refl

  -- it doesn't
  pub goes_on : (ks : List K) (i : ℕ) (k : K) → i < length ks → k ≡ get_or ks i k → list_any (same k) (take i ks) ≡ false
      → repeated_from same (take i ks) i (drop i ks) ≡ repeated_from same (take (i + 1) ks) (i + 1) (drop (i + 1) ks)
  goes_on ks i k lt is any = rw (split ks i k lt is, any, grown ks i k lt is) refl

  -- none does
  pub never : (ks : List K) (i : ℕ) → length ks ≤ i → repeated_from same (take i ks) i (drop i ks) ≡ None
  never ks i le = rw (drop_of_length-le ks le) refl
