-- Items told one behind the other.
use Rattle.std.proofs.Common.{◌≡◌, ℕ, ◌≤◌, List, [], ◌++◌, length, drop, ap, sym, ◌∙◌, append_assoc}
use Rattle.std.proofs.lemmas.List.{drop_all, append-nil}
use Rattle.std.specs.List.{flat_map}

-- none is left
pub all_told : {X Y : Type 0} (f : X → List Y) (xs : List X) (i : ℕ) (text : List Y) → length xs ≤ i → text ++ flat_map f (drop i xs) ≡ flat_map f xs → text ≡ flat_map f xs
all_told f xs i text le told =
    let none : flat_map f (drop i xs) ≡ [] = ap (λ ys. flat_map f ys) (drop_all i xs le) in
    sym (append-nil text) ∙ ap (λ t. text ++ t) (sym none) ∙ told

-- a head and items without the comma of the first
pub cut_behind : (old head items all octets cut one two : List ℕ) → one ≡ old ++ head → octets ≡ items → items ≡ all → cut ≡ drop 2 octets → two ≡ one ++ cut → two ≡ old ++ (head ++ drop 2 all)
cut_behind old head items all octets cut one two first seen same is put =
    put ∙ ap (λ t. t ++ cut) first ∙ append_assoc old head cut ∙ ap (λ t. old ++ (head ++ t)) (is ∙ ap (λ t. drop 2 t) (seen ∙ same))
