-- The IDNs of a slave on whole elements, of whatever kind their table is. S: its state.
use Rattle.std.specs.Prelude.{◌≡◌, ℕ, ◌≤◌, ◌<◌, Bool, true, List, length, Result, Ok, Err}

-- what a request is about: an IDN of a drive, and the flags of its elements
pub record Target : Type 0 where
  pub drive : ℕ
  pub idn : ℕ
  pub elements : ℕ

-- the target of these
abbrev pub target : ℕ → ℕ → ℕ → Target
target drive idn elements = record { drive = drive; idn = idn; elements = elements }

-- each refusal is an SoE error code
pub record Elements (S : Type 0) : Type 0 where
  -- the states of which the laws speak
  pub valid : S → Bool
  -- the octets of an element
  pub read : S → Target → Result (List ℕ) ℕ
  -- the table behind a write of a whole element
  pub write : S → Target → List ℕ → Result S ℕ

-- what a server needs of the table
pub record AreLawful {S : Type 0} (o : Elements S) : Type 0 where
  -- no element is longer than a transfer
  pub short : (s : S) (t : Target) (bytes : List ℕ) → o.valid s ≡ true → o.read s t ≡ Ok bytes → length bytes ≤ 16384
  -- a code has 16 bits
  pub read_code : (s : S) (t : Target) (code : ℕ) → o.valid s ≡ true → o.read s t ≡ Err code → code < 65536
  pub write_code : (s : S) (t : Target) (bytes : List ℕ) (code : ℕ) → o.valid s ≡ true → o.write s t bytes ≡ Err code → code < 65536
  -- a write leaves such a state
  pub stays : (s changed : S) (t : Target) (bytes : List ℕ) → o.valid s ≡ true → o.write s t bytes ≡ Ok changed → o.valid changed ≡ true
