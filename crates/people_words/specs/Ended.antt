-- How a form for people puts its text and ends.
use Rattle.std.specs.Prelude.{◌≡◌, ℕ, ◌⊎◌, List, Option}
use Rattle.ec_outside.specs.Sink.{Wrote, WrotePrefix}
use Rattle.ecmbx_words.specs.Status.{number_of as number_of_status}
use Rattle.ecmbx_words.specs.declared.status.Status.TheVariants as statuses
use Rattle.people_words.specs.declared.ended.Ended.{Ended}
use Rattle.people_words.specs.declared.ended.Ended.TheVariants as ends

-- what the program ends with
abbrev pub number_of : Ended → ℕ
number_of (ends.As status) = number_of_status status
number_of ends.ServiceRefused = 13

-- The text was put and the end is the planned one; or a sink's fault left a prefix of the text; or memory ran out.
abbrev pub Told : Ended → List ℕ → Option (List ℕ) → Option (List ℕ) → Ended → Type 0
Told planned text old new end =
    (end ≡ ends.As statuses.NoMemory) ⊎ (((end ≡ planned) × Wrote old new text) ⊎ ((end ≡ ends.As statuses.SinkFault) × WrotePrefix old new text))
