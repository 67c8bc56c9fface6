-- The heads of equal lists, and their rests; and none is equal to some.
use Rattle.std.proofs.Common.{◌≡◌, List, [], ◌∷◌}

pub heads : {T : Type 0} (x y : T) (xs ys : List T) → x ∷ xs ≡ y ∷ ys → x ≡ y
heads x y xs ys e = cc

pub rests : {T : Type 0} (x y : T) (xs ys : List T) → x ∷ xs ≡ y ∷ ys → xs ≡ ys
rests x y xs ys e = cc

pub not_none : {T : Type 0} (x : T) (xs : List T) → [] ≡ x ∷ xs → ⊥
not_none x xs e = absurd (cc)
