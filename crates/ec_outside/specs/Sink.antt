use Rattle.std.specs.Prelude.{◌≡◌, ℕ, List, ◌++◌, Option, Some, None, Result, Ok, Err}
use Rattle.ec_outside.specs.declared.sink.SinkErr.{SinkErr}
use Rattle.ec_outside.specs.declared.sink.SinkErr.TheVariants.{Failed, NoMemory}

-- the text was appended, where what is written is told
abbrev pub Wrote : Option (List ℕ) → Option (List ℕ) → List ℕ → Type 0
Wrote None new text = Unit {0}
Wrote (Some old) new text = new ≡ Some (old ++ text)

-- a prefix of the text was appended, where what is written is told
abbrev pub WrotePrefix : Option (List ℕ) → Option (List ℕ) → List ℕ → Type 0
WrotePrefix old new text = (front : List ℕ) × (behind : List ℕ) × Wrote old new front × (text ≡ front ++ behind)

-- what a put leaves
abbrev pub Puts : Option (List ℕ) → Option (List ℕ) → List ℕ → Result (Unit {0}) SinkErr → Type 0
Puts old new bytes (Ok done) = Wrote old new bytes
Puts old new bytes (Err Failed) = WrotePrefix old new bytes
Puts old new bytes (Err NoMemory) = new ≡ old
