-- How a call puts its text and ends.
use Rattle.std.specs.Prelude.{◌≡◌, ℕ, ◌⊎◌, List, [], ◌∷◌, ◌++◌, Option}
use Rattle.ec_outside.specs.Sink.{Wrote, WrotePrefix}
use Rattle.ecmbx_words.specs.declared.status.Status.{Status}
use Rattle.ecmbx_words.specs.declared.status.Status.TheVariants as statuses

-- the lines put together
abbrev pub text_of : List (List ℕ) → List ℕ
text_of [] = []
text_of (line ∷ lines) = line ++ text_of lines

-- The text was put and the status is the planned one; or a sink's fault left a prefix of the text.
abbrev pub Ended : Status → List ℕ → Option (List ℕ) → Option (List ℕ) → Status → Type 0
Ended planned text old new status = ((status ≡ planned) × Wrote old new text) ⊎ ((status ≡ statuses.SinkFault) × WrotePrefix old new text)

-- the same, unless memory ran out
abbrev pub PutAll : Status → List ℕ → Option (List ℕ) → Option (List ℕ) → Status → Type 0
PutAll planned text old new status = (status ≡ statuses.NoMemory) ⊎ Ended planned text old new status

-- a status out of some
abbrev pub IsAmong : List Status → Status → Type 0
IsAmong [] status = ⊥
IsAmong (one ∷ others) status = (status ≡ one) ⊎ IsAmong others status
