-- Rows that are looked up and told.
use Rattle.std.proofs.Common.{◌≡◌, ℕ, ◌≤◌, Bool, true, false, List, [], ◌∷◌, ◌++◌, length, map, cond, drop, Option, Some, None, option_copied, Bor, refl, sym, ap, ◌∙◌, append_assoc}
use Rattle.std.proofs.lemmas.List.{drop_all, append-nil}
use Rattle.std.specs.List.{find, flat_map}

seen_one : (p : List ℕ → Bool) (b : Bool) (row : Bor (List ℕ)) (found : Option (Bor (List ℕ))) (rest : Option (List ℕ)) → option_copied found ≡ rest → option_copied (cond b (Some row) found) ≡ cond b (Some row.now) rest
seen_one p true row found rest same = refl
seen_one p false row found rest same = same

-- what is found of borrowed rows is found of the rows
seen : (p : List ℕ → Bool) (rows : List (Bor (List ℕ))) → option_copied (find (λ row. p row.now) rows) ≡ find p (map (λ row. row.now) rows)
seen p [] = refl
seen p (row ∷ rows) = seen_one p (p row.now) row (find (λ row. p row.now) rows) (find p (map (λ row. row.now) rows)) (seen p rows)

-- a row that was found, and none
pub copied_seen : (p : List ℕ → Bool) (rows : List (Bor (List ℕ))) (found : Option (Bor (Bor (List ℕ)))) (row : Option (Bor (List ℕ))) → option_copied found ≡ find (λ row. p row.now) rows → row ≡ option_copied found → option_copied row ≡ find p (map (λ row. row.now) rows)
copied_seen p rows found row same is = ap option_copied (is ∙ same) ∙ seen p rows

-- items of which none is left
pub all_told : {X : Type 0} (f : X → List ℕ) (xs : List X) (i : ℕ) (old new : List ℕ) → length xs ≤ i → new ++ flat_map f (drop i xs) ≡ old ++ flat_map f xs → new ≡ old ++ flat_map f xs
all_told f xs i old new le told =
    let none : flat_map f (drop i xs) ≡ [] = ap (λ ys. flat_map f ys) (drop_all i xs le) in
    sym (append-nil new) ∙ ap (λ t. new ++ t) (sym none) ∙ told

-- and items that were all seen
pub all_seen : {X Y : Type 0} (f : X → Y) (xs : List X) (i : ℕ) (so : List Y) → length xs ≤ i → so ++ map f (drop i xs) ≡ map f xs → so ≡ map f xs
all_seen f xs i so le is =
    let none : map f (drop i xs) ≡ [] = ap (map f) (drop_all i xs le) in
    sym (append-nil so) ∙ ap (λ t. so ++ t) (sym none) ∙ is

-- what is seen of what was seen
pub seen_twice : {X Y Z : Type 0} (g : Y → Z) (f : X → Y) (xs : List X) → map (λ x. g (f x)) xs ≡ map g (map f xs)
seen_twice g f [] = refl
seen_twice g f (x ∷ xs) = ap (λ ys. g (f x) ∷ ys) (seen_twice g f xs)

-- three pieces put one behind the other
pub three : (old a word b d one two new : List ℕ) → one ≡ old ++ a → two ≡ one ++ word → word ≡ b → new ≡ two ++ d → new ≡ old ++ (a ++ (b ++ d))
three old a word b d one two new first second same third =
    third ∙ ap (λ t. t ++ d) (second ∙ ap (λ t. one ++ t) same ∙ ap (λ t. t ++ b) first) ∙ append_assoc (old ++ a) b d ∙ append_assoc old a (b ++ d)

-- five pieces, of which the first begins the text
pub five : (a word b d e f one two mid last new : List ℕ) → one ≡ a → two ≡ one ++ word → word ≡ b → mid ≡ two ++ d → last ≡ mid ++ e → new ≡ last ++ f → new ≡ a ++ (b ++ (d ++ (e ++ f)))
five a word b d e f one two mid last new first second same third fourth fifth =
    let begun : mid ≡ a ++ (b ++ d) = third ∙ ap (λ t. t ++ d) (second ∙ ap (λ t. one ++ t) same ∙ ap (λ t. t ++ b) first) ∙ append_assoc a b d in
    fifth ∙ ap (λ t. t ++ f) (fourth ∙ ap (λ t. t ++ e) begun) ∙ append_assoc (a ++ (b ++ d)) e f ∙ append_assoc a (b ++ d) (e ++ f) ∙ ap (λ t. a ++ t) (append_assoc b d (e ++ f))
