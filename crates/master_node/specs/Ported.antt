-- The ports of the slaves at the switch.
use Rattle.std.specs.Prelude.{ℕ, ◌&&◌, Bool, true, nat_lt, nat_le, List, [], ◌∷◌, length, Option, Some, None}
use Rattle.arrayvec.specs.ArrayVec.{ArrayVec}
use Rattle.eoe_switch.specs.declared.port.Port.{Port}

-- a slave that serves EoE has a port of the switch, behind that of the host
abbrev pub is_port : ℕ → Option ℕ → Bool
is_port ports None = true
is_port ports (Some port) = nat_lt 0 port && nat_lt port ports

-- each slave
abbrev pub are_ports : ℕ → List (Option ℕ) → Bool
are_ports ports [] = true
are_ports ports (p ∷ ps) = is_port ports p && are_ports ports ps

-- each of these packets has at least its addresses and its EtherType
abbrev pub are_long : List (ArrayVec ℕ) → Bool
are_long [] = true
are_long (p ∷ ps) = nat_le 14 (length p.items) && are_long ps

-- so has each that waits at one of these ports
abbrev pub are_queued : List Port → Bool
are_queued [] = true
are_queued (p ∷ ps) = are_long p.queue && are_queued ps
