-- The files of a slave on whole values, of whatever kind their store is. S: its state, the AL state in it.
use Rattle.std.specs.Prelude.{◌≡◌, ℕ, ◌≤◌, ◌<◌, Bool, true, false, List, length, Option, None, Some}

-- each refusal is an FoE error code
pub record Files (S : Type 0) : Type 0 where
  -- the states of which the laws speak
  pub valid : S → Bool
  -- what refuses a request for a file by this name and password, to write it or to read it
  pub allowed : S → List ℕ → ℕ → Bool → Option ℕ
  -- whether the free blocks hold a new version of so many octets
  pub has_room : S → ℕ → Bool
  -- the files with a new version of one in place of the old
  pub put : S → List ℕ → List ℕ → S
  -- a file's octets
  pub get : S → List ℕ → List ℕ
  -- how often the last packet of a write is answered by busy
  pub busy : S → List ℕ → ℕ

-- what a server needs of the files
pub record AreLawful {S : Type 0} (o : Files S) : Type 0 where
  -- what has room for more has room for less
  pub less : (s : S) (few more : ℕ) → few ≤ more → o.has_room s more ≡ true → o.has_room s few ≡ true
  -- no file is longer than a transfer
  pub short : (s : S) (name : List ℕ) (pass : ℕ) → o.valid s ≡ true → o.allowed s name pass false ≡ None → length (o.get s name) ≤ 131072
  -- a new version leaves such a state
  pub stays : (s : S) (name bytes : List ℕ) (pass : ℕ) → o.valid s ≡ true → o.allowed s name pass true ≡ None → o.has_room s (length bytes) ≡ true →
      o.valid (o.put s name bytes) ≡ true

-- and besides, so that each answer has a spelling: codes of 32 bits, and numbers of busy answers of 16
pub record AreSpelled {S : Type 0} (o : Files S) : Type 0 where
  pub code : (s : S) (name : List ℕ) (pass : ℕ) (write : Bool) (code : ℕ) → o.valid s ≡ true → o.allowed s name pass write ≡ Some code → code < 4294967296
  pub busy : (s : S) (name : List ℕ) → o.valid s ≡ true → o.busy s name < 65536
