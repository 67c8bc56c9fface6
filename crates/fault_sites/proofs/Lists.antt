-- Lists that are gone through from the front.
use Rattle.std.proofs.Common.{◌≡◌, ℕ, ◌+◌, ◌<◌, ◌≤◌, ◌||◌, Bool, true, false, List, [], ◌∷◌, ◌++◌, length, map, find, filter, Option, Some, None, get_or, drop, refl, sym, ap, ◌∙◌, append_assoc, arith}
use Rattle.std.proofs.lemmas.List.{drop_more, drop_all, append-nil}
use Rattle.std.specs.List.{list_any}
use Rattle.toml.specs.Data.{as_str}
use Rattle.toml.specs.View.{items_view, view}
use Rattle.toml.specs.declared.value.Value.{Value}
use Rattle.scenario_keys.specs.Keys.{list_of}
use Rattle.fault_sites.specs.Values.{is_text}

-- the items of a list of values
pub list_of_items_view : (vs : List Value) → list_of (items_view vs) ≡ map view vs
list_of_items_view [] = refl
list_of_items_view (v ∷ vs) = ap (λ ds. view v ∷ ds) (list_of_items_view vs)

-- whether one passes, of what is seen of it
pub list_any_map : {A B : Type 0} (p : B → Bool) (f : A → B) (xs : List A) → list_any p (map f xs) ≡ list_any (λ x. p (f x)) xs
list_any_map p f [] = refl
list_any_map p f (x ∷ xs) = ap (λ b. p (f x) || b) (list_any_map p f xs)

-- whether a word stands among values
pub words : (word : List ℕ) (vs : List Value) → list_any (λ d. is_text (as_str d) word) (list_of (items_view vs)) ≡ list_any (λ v. is_text (as_str (view v)) word) vs
words word vs =
    ap (list_any (λ d. is_text (as_str d) word)) (list_of_items_view vs) ∙ list_any_map (λ d. is_text (as_str d) word) view vs

-- the items from a place on
pub here : {X : Type 0} (xs : List X) (i : ℕ) (x : X) → i < length xs → x ≡ get_or xs i x → drop i xs ≡ x ∷ drop (i + 1) xs
here xs i x lt is = rw (← is) at (drop_more xs i x lt)

-- the first that passes, as it is seen, is this one
pub found : {X Y : Type 0} (p : Y → Bool) (f : X → Y) (xs : List X) (i : ℕ) (x : X) → i < length xs → x ≡ get_or xs i x → p (f x) ≡ true → find p (map f (drop i xs)) ≡ find p (map f xs) → Some (f x) ≡ find p (map f xs)
found p f xs i x lt is passes before = rw (here xs i x lt is, passes) at before

-- it is none so far
pub passed : {X Y : Type 0} (p : Y → Bool) (f : X → Y) (xs : List X) (i : ℕ) (x : X) → i < length xs → x ≡ get_or xs i x → p (f x) ≡ false → find p (map f (drop i xs)) ≡ find p (map f xs) → find p (map f (drop (i + 1) xs)) ≡ find p (map f xs)
passed p f xs i x lt is fails before = rw (here xs i x lt is, fails) at before

-- it is none
pub none_found : {X Y : Type 0} (p : Y → Bool) (f : X → Y) (xs : List X) (i : ℕ) → length xs ≤ i → find p (map f (drop i xs)) ≡ find p (map f xs) → None ≡ find p (map f xs)
none_found p f xs i le before = sym (ap (λ ys. find p (map f ys)) (drop_all i xs le)) ∙ before

-- those that pass so far, and those that are still looked at
pub record Kept {X Y : Type 0} (p : Y → Bool) (g : Y → List ℕ) (f : X → Y) (xs : List X) (i : ℕ) (ys : List (List ℕ)) : Type 0 where
  pub kept : ys ++ map g (filter p (map f (drop i xs))) ≡ map g (filter p (map f xs))

-- one more that passes
pub kept_more : {X Y : Type 0} (p : Y → Bool) (g : Y → List ℕ) (f : X → Y) (xs : List X) (i : ℕ) (x : X) (ys zs : List (List ℕ)) → i < length xs → x ≡ get_or xs i x → p (f x) ≡ true → zs ≡ ys ++ g (f x) ∷ [] → Kept p g f xs i ys → Kept p g f xs (i + 1) zs
kept_more p g f xs i x ys zs lt is passes more h =
    let step : ys ++ g (f x) ∷ map g (filter p (map f (drop (i + 1) xs))) ≡ map g (filter p (map f xs)) = rw (here xs i x lt is, passes) at h.kept in
    rw more (record { kept = append_assoc ys (g (f x) ∷ []) (map g (filter p (map f (drop (i + 1) xs)))) ∙ step })

-- one that doesn't
pub left_out : {X Y : Type 0} (p : Y → Bool) (g : Y → List ℕ) (f : X → Y) (xs : List X) (i : ℕ) (x : X) (ys : List (List ℕ)) → i < length xs → x ≡ get_or xs i x → p (f x) ≡ false → Kept p g f xs i ys → Kept p g f xs (i + 1) ys
left_out p g f xs i x ys lt is fails h =
    let step : ys ++ map g (filter p (map f (drop (i + 1) xs))) ≡ map g (filter p (map f xs)) = rw (here xs i x lt is, fails) at h.kept in
    record { kept = step }

-- all
pub all_kept : {X Y : Type 0} (p : Y → Bool) (g : Y → List ℕ) (f : X → Y) (xs : List X) (i : ℕ) (ys : List (List ℕ)) → length xs ≤ i → Kept p g f xs i ys → ys ≡ map g (filter p (map f xs))
all_kept p g f xs i ys le h =
    let none : map g (filter p (map f (drop i xs))) ≡ [] = ap (λ zs. map g (filter p (map f zs))) (drop_all i xs le) in
    sym (append-nil ys) ∙ ap (λ t. ys ++ t) (sym none) ∙ h.kept
