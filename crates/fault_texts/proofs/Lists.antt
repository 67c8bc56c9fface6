-- Lists of characters and of values that are told one by one.
use Rattle.std.proofs.Common.{◌≡◌, ℕ, ◌+◌, ◌<◌, ◌≤◌, ◌&&◌, Bool, List, [], ◌∷◌, ◌++◌, length, map, get_or, drop, codes, refl, sym, ap, ◌∙◌, append_assoc, arith}
use Rattle.std.proofs.lemmas.List.{drop_all, append-nil, length-map}
use Rattle.std.specs.List.{flat_map, list_all}
use Rattle.toml.specs.View.{items_view, view}
use Rattle.toml.specs.declared.value.Value.{Value}
use Rattle.scenario_keys.specs.Keys.{list_of}
use Rattle.fault_texts.specs.Values.{is_plain, is_table, listed}

-- the items of a list of values
pub list_of_items_view : (vs : List Value) → list_of (items_view vs) ≡ map view vs
list_of_items_view [] = refl
list_of_items_view (v ∷ vs) = ap (λ ds. view v ∷ ds) (list_of_items_view vs)

-- whether each passes, of what is seen of it
pub list_all_map : {A B : Type 0} (p : B → Bool) (f : A → B) (xs : List A) → list_all p (map f xs) ≡ list_all (λ x. p (f x)) xs
list_all_map p f [] = refl
list_all_map p f (x ∷ xs) = ap (λ b. p (f x) && b) (list_all_map p f xs)

pub are_plain : (vs : List Value) → list_all is_plain (map view vs) ≡ list_all (λ v. is_plain (view v)) vs
are_plain vs = list_all_map is_plain view vs

pub are_tables : (vs : List Value) → list_all is_table (map view vs) ≡ list_all (λ v. is_table (view v)) vs
are_tables vs = list_all_map is_table view vs

pub are_many : (vs : List Value) → length (map view vs) ≡ length vs
are_many vs = length-map vs view

-- items of which none is left
pub all_told : {X : Type 0} (f : X → List ℕ) (xs : List X) (i : ℕ) (old new : List ℕ) → length xs ≤ i → new ++ flat_map f (drop i xs) ≡ old ++ flat_map f xs → new ≡ old ++ flat_map f xs
all_told f xs i old new le told =
    let none : flat_map f (drop i xs) ≡ [] = ap (λ ys. flat_map f ys) (drop_all i xs le) in
    sym (append-nil new) ∙ ap (λ t. new ++ t) (sym none) ∙ told

-- values of which none is left
pub all_listed : (between : List ℕ) (vs : List Value) (i : ℕ) (old new : List ℕ) → length vs ≤ i → new ++ listed between (map view (drop i vs)) ≡ old ++ listed [] (map view vs) → new ≡ old ++ listed [] (map view vs)
all_listed between vs i old new le told =
    let none : listed between (map view (drop i vs)) ≡ [] = ap (λ ys. listed between (map view ys)) (drop_all i vs le) in
    sym (append-nil new) ∙ ap (λ t. new ++ t) (sym none) ∙ told
