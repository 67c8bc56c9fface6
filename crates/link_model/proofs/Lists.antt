-- Counters and lists with one more mail at the end.
use Rattle.std.proofs.Common.{◌≡◌, ℕ, zero, suc, ◌+◌, Some, List, [], ◌∷◌, ◌++◌, length, arith, refl, ap, ◌∙◌, length-append}
use Rattle.link_model.specs.Counters.{next_counter, counter_of}
use Rattle.link_model.specs.Agree.{last_body}

pub next_counter-counter_of : (n : ℕ) → counter_of (n + 1) ≡ next_counter (counter_of n)
next_counter-counter_of zero = refl
next_counter-counter_of (suc n) = let e : suc n + 1 ≡ suc (suc n) = omega arith in rw e (omega arith)

-- the counter of a side that has one more mail
pub counter_of-push : {B : Type 0} (xs : List B) (x : B) → counter_of (length (xs ++ x ∷ [])) ≡ next_counter (counter_of (length xs))
counter_of-push xs x = ap counter_of (length-append xs (x ∷ [])) ∙ next_counter-counter_of (length xs)

pub last_body-push : {B : Type 0} (xs : List B) (x : B) → last_body (xs ++ x ∷ []) ≡ Some x
last_body-push [] x = refl
last_body-push (y ∷ []) x = refl
last_body-push (y ∷ (z ∷ xs)) x = last_body-push (z ∷ xs) x

pub ruleset pushes = (counter_of-push, last_body-push)
