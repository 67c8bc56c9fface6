-- A walk over all places of a list.
use Rattle.std.proofs.Common.{◌≡◌, ℕ, zero, suc, ◌<◌, ◌≤◌, List, [], ◌∷◌, sym, ap, ◌∙◌, subst, arith, length, drop, get_or, set, refl}
use Rattle.std.specs.Prelude.{IfSome, slice_get}
use Rattle.std.proofs.lemmas.Option.{slice_get_read}
use Rattle.master_tour.specs.Walks.{EachPair, Walked, StepsAt}

pub walk_step : {S : Type 0} (P : S → S → Type 0) (i : ℕ) (xs ys : List S) (v w : S) → Walked P i xs ys → i < length ys → v ≡ get_or ys i v → P v w → Walked P (suc i) xs (set ys i w)
walk_step P zero xs [] v w e l g p = absurd (omega (arith, l))
walk_step P zero [] (y ∷ ys) v w e l g p = absurd (cc)
walk_step P zero (x ∷ xs) (y ∷ ys) v w e l g p = (subst (λ z. P z w) (g ∙ ap (λ z. get_or z 0 v) e) p, ap (drop 1) e)
walk_step P (suc i) [] ys v w e l g p = absurd e
walk_step P (suc i) (x ∷ xs) [] v w e l g p = absurd e
walk_step P (suc i) (x ∷ xs) (y ∷ ys) v w e l g p = (e.0, walk_step P i xs ys v w e.1 (omega (arith, l)) g p)

pub walk_end : {S : Type 0} (P : S → S → Type 0) (i : ℕ) (xs ys : List S) → length ys ≤ i → Walked P i xs ys → EachPair P xs ys
walk_end P zero [] [] l e = tt
walk_end P zero (x ∷ xs) [] l e = absurd (cc)
walk_end P zero xs (y ∷ ys) l e = absurd (omega (arith, l))
walk_end P (suc i) [] ys l e = absurd e
walk_end P (suc i) (x ∷ xs) [] l e = absurd e
walk_end P (suc i) (x ∷ xs) (y ∷ ys) l e = (e.0, walk_end P i xs ys (omega (arith, l)) e.1)

pub walked_length : {S : Type 0} (P : S → S → Type 0) (i : ℕ) (xs ys : List S) → Walked P i xs ys → length xs ≡ length ys
walked_length P zero xs ys e = ap length (sym e)
walked_length P (suc i) [] ys e = absurd e
walked_length P (suc i) (x ∷ xs) [] e = absurd e
walked_length P (suc i) (x ∷ xs) (y ∷ ys) e = ap suc (walked_length P i xs ys e.1)

pub walk_on : {S : Type 0} (P : S → S → Type 0) (i j : ℕ) (xs ys : List S) (v w : S) → j ≡ suc i → Walked P i xs ys → i < length xs → v ≡ get_or ys i v → P v w → Walked P j xs (set ys i w)
walk_on P i j xs ys v w k e l g p = let n = walked_length P i xs ys e in subst (λ z. Walked P z xs (set ys i w)) (sym k) (walk_step P i xs ys v w e (omega (arith, l, n)) g p)

pub walk_over : {S : Type 0} (P : S → S → Type 0) (i : ℕ) (xs ys : List S) → length xs ≤ i → Walked P i xs ys → EachPair P xs ys
walk_over P i xs ys l e = let n = walked_length P i xs ys e in walk_end P i xs ys (omega (arith, l, n)) e

pub each_map : {S : Type 0} (P T : S → S → Type 0) (xs ys : List S) → ((x y : S) → P x y → T x y) → EachPair P xs ys → EachPair T xs ys
each_map P T [] [] h e = tt
each_map P T (x ∷ xs) (y ∷ ys) h e = (h x y e.0, each_map P T xs ys h e.1)
each_map P T [] (y ∷ ys) h e = absurd e
each_map P T (x ∷ xs) [] h e = absurd e

pub steps_set : {S : Type 0} (P : S → S → Type 0) (i : ℕ) (xs : List S) (v w : S) → i < length xs → v ≡ get_or xs i v → P v w → StepsAt P i xs (set xs i w)
steps_set P zero [] v w l g p = absurd (omega (arith, l))
steps_set P (suc i) [] v w l g p = absurd (omega (arith, l))
steps_set P zero (x ∷ xs) v w l g p = (subst (λ z. P z w) g p, refl)
steps_set P (suc i) (x ∷ xs) v w l g p = (refl, steps_set P i xs v w (omega (arith, l)) g p)

pub steps_both : {S : Type 0} (P T : S → S → Type 0) (i : ℕ) (xs ys : List S) → StepsAt P i xs ys → StepsAt T i xs ys → StepsAt (λ s t. P s t × T s t) i xs ys
steps_both P T zero [] ys a b = absurd a
steps_both P T (suc i) [] ys a b = absurd a
steps_both P T zero (x ∷ xs) [] a b = absurd a
steps_both P T (suc i) (x ∷ xs) [] a b = absurd a
steps_both P T zero (x ∷ xs) (y ∷ ys) a b = ((a.0, b.0), a.1)
steps_both P T (suc i) (x ∷ xs) (y ∷ ys) a b = (a.0, steps_both P T i xs ys a.1 b.1)

pub each_same : {S : Type 0} (P : S → S → Type 0) (xs : List S) → ((x : S) → P x x) → EachPair P xs xs
each_same P [] h = tt
each_same P (x ∷ xs) h = (h x, each_same P xs h)

-- what holds of the one at a place
pub at_place : {S : Type 0} (P : S → Type 0) (xs : List S) (at : ℕ) (v : S) → at < length xs → v ≡ get_or xs at v → IfSome (slice_get xs at) P → P v
at_place P xs at v l g h = subst (λ o. IfSome o P) (slice_get_read xs (length xs) at v refl l g) h
