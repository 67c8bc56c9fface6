-- Reading a list row by row, as a loop does.
use Rattle.std.proofs.Common.{◌≡◌, ℕ, ◌+◌, ◌<◌, ◌≤◌, List, [], ◌∷◌, ◌++◌, length, get_or, drop, map, All, Result, Ok, Err, refl, sym, ap, ◌∙◌, append_assoc, arith}
use Rattle.std.proofs.lemmas.List.{append-nil, drop_more, drop-map, length-map, length-append}
use Rattle.std.proofs.lemmas.List.Elements.{All-push}
use Rattle.std.proofs.Math.ListN.{drop_of_length-le}
use Rattle.scenario_keys.specs.declared.refusal.Refusal.{Refusal}
use Rattle.scenario_keys.specs.declared.refusal.Stop.{Stop}
use Rattle.scenario_keys.specs.declared.refusal.Stop.TheVariants as stops
use Rattle.scenario_keys.specs.Reading.{◌>>=◌, Fails, each_after}

-- what was read before, and what is still read
abbrev pub with_front : {B : Type 0} → List B → Result (List B) Refusal → Result (List B) Refusal
with_front front read = read >>= λ ys. Ok (front ++ ys)

regroup : {B : Type 0} (front : List B) (y : B) (read : Result (List B) Refusal) → with_front front (read >>= λ ys. Ok (y ∷ ys)) ≡ with_front (front ++ y ∷ []) read
regroup front y (Ok ys) = simp append_assoc
regroup front y (Err e) = refl

-- The first i rows were read, each as reading says, and all of them are sound.
pub record HasRead {A B S : Type 0} (P : B → Type 0) (left : S → B → S) (read : ℕ → S → A → Result B Refusal) (first : S) (xs : List A) (i : ℕ) (before : S) (ys : List B) : Type 0 where
  pub rest : with_front ys (each_after left read i before (drop i xs)) ≡ each_after left read 0 first xs
  pub many : length ys ≡ i
  pub sound : All P ys

module _ {X A B S : Type 0} (P : B → Type 0) (left : S → B → S) (read : ℕ → S → A → Result B Refusal) (first : S) (f : X → A) where
  at_row : (xs : List X) (i : ℕ) (x : X) → i < length xs → x ≡ get_or xs i x → drop i (map f xs) ≡ f x ∷ drop (i + 1) (map f xs)
  at_row xs i x lt is =
      let split : drop i xs ≡ get_or xs i x ∷ drop (i + 1) xs = drop_more xs i x lt in
      drop-map f i xs ∙ ap (map f) split ∙ rw (← is, drop-map f (i + 1) xs) refl

  -- one more row
  pub goes_on : (xs : List X) (i : ℕ) (before : S) (ys : List B) (x : X) (y : B) (ys' : List B) → i < length xs → x ≡ get_or xs i x → read i before (f x) ≡ Ok y → P y → ys' ≡ ys ++ y ∷ []
      → HasRead P left read first (map f xs) i before ys → HasRead P left read first (map f xs) (i + 1) (left before y) ys'
  goes_on xs i before ys x y ys' lt is gives sound more h =
      let step : with_front ys (each_after left read i before (drop i (map f xs))) ≡ with_front (ys ++ y ∷ []) (each_after left read (i + 1) (left before y) (drop (i + 1) (map f xs))) =
      rw (at_row xs i x lt is, gives) (regroup ys y (each_after left read (i + 1) (left before y) (drop (i + 1) (map f xs)))) in
      rw more (record {
        rest = sym step ∙ h.rest;
        many = omega (arith, h.many, length-append ys (y ∷ []));
        sound = All-push P ys y h.sound sound;
      })

  -- a row that is refused, or want of memory
  pub ends : (xs : List X) (i : ℕ) (before : S) (ys : List B) (x : X) (e : Stop) → i < length xs → x ≡ get_or xs i x → Fails e (read i before (f x))
      → HasRead P left read first (map f xs) i before ys → Fails e (each_after left read 0 first (map f xs))
  ends xs i before ys x stops.NoMemory lt is fails h = tt
  ends xs i before ys x (stops.Refused e) lt is fails h =
      let step : with_front ys (each_after left read i before (drop i (map f xs))) ≡ Err e = rw (at_row xs i x lt is, fails) refl in
      sym h.rest ∙ step

  -- all rows
  pub whole : (xs : List X) (i : ℕ) (before : S) (ys : List B) → length xs ≤ i → HasRead P left read first (map f xs) i before ys → each_after left read 0 first (map f xs) ≡ Ok ys
  whole xs i before ys le h =
      let none : drop i (map f xs) ≡ [] = drop_of_length-le (map f xs) (omega (arith, length-map xs f)) in
      let step : with_front ys (each_after left read i before (drop i (map f xs))) ≡ Ok ys = rw none (ap Ok (append-nil ys)) in
      sym h.rest ∙ step
