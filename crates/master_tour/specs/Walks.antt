-- Lists that go on place by place.
use Rattle.std.specs.Prelude.{◌≡◌, ℕ, zero, suc, List, [], ◌∷◌, ⊤}

-- two lists, place by place
abbrev pub EachPair : {S : Type 0} → (S → S → Type 0) → List S → List S → Type 0
EachPair P [] [] = ⊤
EachPair P (x ∷ xs) (y ∷ ys) = P x y × EachPair P xs ys
EachPair P _ _ = ⊥

-- the first so many places have gone on, and the rest are as they were
abbrev pub Walked : {S : Type 0} → (S → S → Type 0) → ℕ → List S → List S → Type 0
Walked P zero xs ys = ys ≡ xs
Walked P (suc i) (x ∷ xs) (y ∷ ys) = P x y × Walked P i xs ys
Walked P (suc i) _ _ = ⊥

-- the one at this place has gone on, and the rest are as they were
abbrev pub StepsAt : {S : Type 0} → (S → S → Type 0) → ℕ → List S → List S → Type 0
StepsAt P zero (x ∷ xs) (y ∷ ys) = P x y × (ys ≡ xs)
StepsAt P (suc i) (x ∷ xs) (y ∷ ys) = (y ≡ x) × StepsAt P i xs ys
StepsAt P i _ _ = ⊥
