-- THREE LISTS IN STEP, as slaves, mails and stops are: what goes from one stop to another goes for all.
use Rattle.std.proofs.Common.{ℕ, suc, List, [], ◌∷◌}
use Rattle.std.specs.Prelude.{map}
use Rattle.life_runs.specs.of_frame_view.Shares.{AllFrom, AllThree}
use Rattle.life_runs.specs.of_master_tour.Walks.{EachPair}
use Rattle.master_node.specs.Passes.{ThreeFrom}

-- where each goes so
pub three_each : {A B S : Type 0} (P T : ℕ → A → B → S → Type 0) (K : S → S → Type 0) → ((i : ℕ) (a : A) (b : B) (s t : S) → P i a b s → K s t → T i a b t) → (i : ℕ) (as' : List A) (bs : List B) (ss ts : List S) → ThreeFrom P i as' bs ss → EachPair K ss ts → ThreeFrom T i as' bs ts
three_each P T K h i [] [] [] [] p k = tt
three_each P T K h i [] [] [] (t ∷ ts) p k = absurd k
three_each P T K h i [] [] (s ∷ ss) ts p k = absurd p
three_each P T K h i [] (b ∷ bs) [] ts p k = absurd p
three_each P T K h i [] (b ∷ bs) (s ∷ ss) ts p k = absurd p
three_each P T K h i (a ∷ as') [] [] ts p k = absurd p
three_each P T K h i (a ∷ as') [] (s ∷ ss) ts p k = absurd p
three_each P T K h i (a ∷ as') (b ∷ bs) [] ts p k = absurd p
three_each P T K h i (a ∷ as') (b ∷ bs) (s ∷ ss) [] p k = absurd k
three_each P T K h i (a ∷ as') (b ∷ bs) (s ∷ ss) (t ∷ ts) p k = (h i a b s t p.0 k.0, three_each P T K h (suc i) as' bs ss ts p.1 k.1)

-- with what two of the lists say
pub three_with : {A B C S : Type 0} (f : A → C) (Q : ℕ → C → S → Type 0) (P : ℕ → A → B → S → Type 0) (i : ℕ) (as' : List A) (bs : List B) (ss : List S) → AllFrom Q i (map f as') ss → ThreeFrom P i as' bs ss → ThreeFrom (λ j a b s. Q j (f a) s × P j a b s) i as' bs ss
three_with f Q P i [] [] [] q p = tt
three_with f Q P i [] [] (s ∷ ss) q p = absurd p
three_with f Q P i [] (b ∷ bs) [] q p = absurd p
three_with f Q P i [] (b ∷ bs) (s ∷ ss) q p = absurd p
three_with f Q P i (a ∷ as') [] [] q p = absurd p
three_with f Q P i (a ∷ as') [] (s ∷ ss) q p = absurd p
three_with f Q P i (a ∷ as') (b ∷ bs) [] q p = absurd p
three_with f Q P i (a ∷ as') (b ∷ bs) (s ∷ ss) q p = ((q.0, p.0), three_with f Q P (suc i) as' bs ss q.1 p.1)

-- where the first two go so, by their places
pub three_from : {A B S : Type 0} (P : A → B → S → Type 0) (K : S → S → Type 0) (T : ℕ → A → S → Type 0) → ((i : ℕ) (a : A) (b : B) (s t : S) → P a b s → K s t → T i a t) → (i : ℕ) (as' : List A) (bs : List B) (ss ts : List S) → AllThree P as' bs ss → EachPair K ss ts → AllFrom T i as' ts
three_from P K T h i [] [] [] [] p k = tt
three_from P K T h i [] [] [] (t ∷ ts) p k = absurd k
three_from P K T h i [] [] (s ∷ ss) ts p k = absurd p
three_from P K T h i [] (b ∷ bs) [] ts p k = absurd p
three_from P K T h i [] (b ∷ bs) (s ∷ ss) ts p k = absurd p
three_from P K T h i (a ∷ as') [] [] ts p k = absurd p
three_from P K T h i (a ∷ as') [] (s ∷ ss) ts p k = absurd p
three_from P K T h i (a ∷ as') (b ∷ bs) [] ts p k = absurd p
three_from P K T h i (a ∷ as') (b ∷ bs) (s ∷ ss) [] p k = absurd k
three_from P K T h i (a ∷ as') (b ∷ bs) (s ∷ ss) (t ∷ ts) p k = (h i a b s t p.0 k.0, three_from P K T h (suc i) as' bs ss ts p.1 k.1)
