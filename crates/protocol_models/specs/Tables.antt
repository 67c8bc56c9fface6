-- The object dictionary on whole values, of whatever kind its tables are. S: their state, the AL state in it.
use Rattle.std.specs.Prelude.{◌≡◌, ℕ, ◌≤◌, Bool, true, false, List, length, Option, Some, Result, Ok, Err}

-- what a transfer is about: an entry by its subindex, or, by complete access, the object from this subindex on
pub record Target : Type 0 where
  pub index : ℕ
  pub sub : ℕ
  pub all : Bool

-- the target that an abort names where there is no transfer
abbrev pub nowhere : Target
nowhere = record { index = 0; sub = 0; all = false }

-- what an information request is about
pub data Ask : Type 0 where
  list : (kind : ℕ) → Ask
  object : (index : ℕ) → Ask
  entry : (index sub info : ℕ) → Ask

-- each refusal is an SDO abort code (CiA 301)
pub record Tables (S : Type 0) : Type 0 where
  -- the states of which the laws speak
  pub valid : S → Bool
  -- what refuses a download by the size of its value alone
  pub check : S → Target → ℕ → Option ℕ
  -- the tables behind a download of a whole value
  pub download : S → Target → List ℕ → Result S ℕ
  -- the whole value of an upload, or of an information request: the octets behind the information header
  pub upload : S → Target → Result (List ℕ) ℕ
  pub info : S → Ask → Result (List ℕ) ℕ
  -- what an emitted packet does to the state, and the bodies of its fragments
  pub packet : S → List ℕ → S × List (List ℕ)

-- what a server needs of the tables
pub record AreLawful {S : Type 0} (o : Tables S) : Type 0 where
  -- by the size alone they refuse only what they refuse
  pub early : (s : S) (t : Target) (bytes : List ℕ) (code : ℕ) → o.valid s ≡ true → o.check s t (length bytes) ≡ Some code → o.download s t bytes ≡ Err code
  -- no value is longer than a transfer
  pub short : (s : S) (t : Target) (bytes : List ℕ) → o.valid s ≡ true → o.upload s t ≡ Ok bytes → length bytes ≤ 16384
  pub short_info : (s : S) (a : Ask) (bytes : List ℕ) → o.valid s ≡ true → o.info s a ≡ Ok bytes → length bytes ≤ 16384
  -- a download and an emitted packet leave such a state
  pub stays : (s changed : S) (t : Target) (bytes : List ℕ) → o.valid s ≡ true → o.download s t bytes ≡ Ok changed → o.valid changed ≡ true
  pub stays_cut : (s : S) (octets : List ℕ) → o.valid s ≡ true → o.valid (o.packet s octets).0 ≡ true
