-- What a packet comes to.
use Rattle.std.specs.Prelude.{ℕ, ◌+◌, ◌*◌, ◌/◌, ◌==◌, ◌&&◌, Bool, if◌then◌else◌, List, [], ◌∷◌, length, slice_index}
use Rattle.arrayvec.specs.ArrayVec.{ArrayVec}

-- the fragments of a packet, at most
abbrev pub cuts : List ℕ → ℕ
cuts octets = (length octets + 31) / 32

-- EtherType 88B5: a slave may send it back
abbrev pub may_echo : List ℕ → Bool
may_echo octets = slice_index octets 12 == 0x88 && slice_index octets 13 == 0xB5

-- of n slaves: a packet that waits at one of them is written there; its echo is read, and written at the others
abbrev pub waiting_work : ℕ → List ℕ → ℕ
waiting_work n octets = cuts octets * (if may_echo octets then n + 1 else 1)

-- all of these
abbrev pub queue_work : ℕ → List (ArrayVec ℕ) → ℕ
queue_work n [] = 0
queue_work n (p ∷ ps) = waiting_work n p.items + queue_work n ps
