-- Lists of TOML values, and keys.
use Rattle.std.proofs.Common.{◌≡◌, ◌<◌, ◌≤◌, ◌||◌, Bool, List, [], ◌∷◌, length, map, None, refl, ap, arith}
use Rattle.std.specs.List.{list_any}
use Rattle.toml.specs.View.{items_view, view}
use Rattle.toml.specs.declared.value.Value.{Value}
use Rattle.scenario_keys.specs.Keys.{two_numbers, list_of}

pub list_any_map : {A B : Type 0} (p : B → Bool) (f : A → B) (xs : List A) → list_any p (map f xs) ≡ list_any (λ x. p (f x)) xs
list_any_map p f [] = refl
list_any_map p f (x ∷ xs) = ap (λ b. p (f x) || b) (list_any_map p f xs)

pub list_of_items_view : (vs : List Value) → list_of (items_view vs) ≡ map view vs
list_of_items_view [] = refl
list_of_items_view (v ∷ vs) = ap (λ ds. view v ∷ ds) (list_of_items_view vs)

pub two_numbers-few : (vs : List Value) → length vs < 2 → two_numbers (items_view vs) ≡ None
two_numbers-few [] few = refl
two_numbers-few (a ∷ []) few = refl
two_numbers-few (a ∷ b ∷ vs) few = absurd (omega arith)

pub two_numbers-many : (vs : List Value) → 3 ≤ length vs → two_numbers (items_view vs) ≡ None
two_numbers-many [] many = refl
two_numbers-many (a ∷ []) many = refl
two_numbers-many (a ∷ b ∷ []) many = absurd (omega arith)
two_numbers-many (a ∷ b ∷ c ∷ vs) many = refl
