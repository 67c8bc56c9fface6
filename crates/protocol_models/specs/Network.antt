-- The application of a slave that serves EoE, on whole packets and whole address blocks, of whatever kind it is. S: its state.
use Rattle.std.specs.Prelude.{◌≡◌, ℕ, ◌≤◌, ◌&&◌, nat_lt, Bool, true, List, length, Option, Some}

-- what a server stands on
pub record Network (S : Type 0) : Type 0 where
  -- the states of which the laws speak
  pub valid : S → Bool
  -- a whole packet taken: the state behind it, and the packet that the slave sends then
  pub packet : S → List ℕ → S × Option (List ℕ)
  -- the state behind a new address block, None where the addresses are fixed
  pub set_ip : S → List ℕ → Option S
  -- the address block
  pub block : S → List ℕ

-- what a server needs of it: a packet and an address block leave such a state
pub record IsSound {S : Type 0} (o : Network S) : Type 0 where
  pub packet : (s : S) (octets : List ℕ) → o.valid s ≡ true → o.valid (o.packet s octets).0 ≡ true
  pub set_ip : (s changed : S) (block : List ℕ) → o.valid s ≡ true → o.set_ip s block ≡ Some changed → o.valid changed ≡ true

-- an application, and the frame number of the next packet that the slave sends of itself
pub record Station (S : Type 0) : Type 0 where
  pub app : S
  pub frame : ℕ

-- a station of which the laws speak: such a state, and a frame number of 4 bits
abbrev pub is_ready : {S : Type 0} → Network S → Station S → Bool
is_ready o station = o.valid station.app && nat_lt station.frame 16

-- what a server needs of its application besides, so that each mail has a spelling: no packet that it sends is too long
pub record IsSpelled {S : Type 0} (o : Network S) : Type 0 where
  pub sent : (s : S) (octets sent : List ℕ) → o.valid s ≡ true → (o.packet s octets).1 ≡ Some sent → length sent ≤ 1514
