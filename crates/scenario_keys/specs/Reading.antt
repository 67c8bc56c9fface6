-- Reading that stops at the first refusal.
use Rattle.std.specs.Prelude.{◌≡◌, ℕ, ◌+◌, List, [], ◌∷◌, ◌++◌, Option, Some, None, Result, Ok, Err, Bool, true, false}
use Rattle.scenario_keys.specs.declared.place.Place.{Place}
use Rattle.scenario_keys.specs.declared.refusal.Rule.{Rule}
use Rattle.scenario_keys.specs.declared.refusal.Refusal.{Refusal}
use Rattle.scenario_keys.specs.declared.refusal.Stop.{Stop}
use Rattle.scenario_keys.specs.declared.refusal.Stop.TheVariants as stops

-- what is read next, where nothing was refused before
infixl 10 ◌>>=◌
-- one reading behind another
abbrev pub ◌>>=◌ : {A B : Type 0} → Result A Refusal → (A → Result B Refusal) → Result B Refusal
(Ok x) >>= f = f x
(Err e) >>= f = Err e

-- a refusal by a rule, at a place
abbrev pub refuse : {A : Type 0} → Rule → Place → Result A Refusal
refuse rule place = Err (record { rule = rule; place = place })

-- the value, which has to be there
abbrev pub wanted : {A : Type 0} → Rule → Place → Option A → Result A Refusal
wanted rule place None = refuse rule place
wanted rule place (Some x) = Ok x

-- what has to hold
abbrev pub unless_refused : Rule → Place → Bool → Result (Unit {0}) Refusal
unless_refused rule place true = Ok tt
unless_refused rule place false = refuse rule place

-- the value, read where it is there
abbrev pub optional : {A B : Type 0} → (A → Result B Refusal) → Option A → Result (Option B) Refusal
optional read None = Ok None
optional read (Some x) = read x >>= λ y. Ok (Some y)

-- the rows of a list in order, each read with its number and with what the rows before it left
abbrev pub each_after : {A B S : Type 0} → (S → B → S) → (ℕ → S → A → Result B Refusal) → ℕ → S → List A → Result (List B) Refusal
each_after left read i before [] = Ok []
each_after left read i before (x ∷ xs) = read i before x >>= λ y. each_after left read (i + 1) (left before y) xs >>= λ ys. Ok (y ∷ ys)

-- the rows of a list in order, each read with its number alone
abbrev pub each : {A B : Type 0} → (ℕ → A → Result B Refusal) → ℕ → List A → Result (List B) Refusal
each read i xs = each_after {S = Unit {0}} (λ _ _. tt) (λ k _ x. read k x) i tt xs

-- the rows of a list in order, each read with its number and with the rows before it
abbrev pub each_behind : {A B : Type 0} → (ℕ → List B → A → Result B Refusal) → List A → Result (List B) Refusal
each_behind read xs = each_after (λ before y. before ++ y ∷ []) read 0 [] xs

-- A reader that stopped met this refusal, or want of memory.
abbrev pub Fails : {Y : Type 0} → Stop → Result Y Refusal → Type 0
Fails stops.NoMemory read = Unit {0}
Fails (stops.Refused e) read = read ≡ Err e

-- What a reader answered, seen by view, is what reading gives, unless memory ran out.
abbrev pub Gives : {X Y : Type 0} → (X → Y) → Result X Stop → Result Y Refusal → Type 0
Gives view (Ok x) read = read ≡ Ok (view x)
Gives view (Err e) read = Fails e read
