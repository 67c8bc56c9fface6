-- THE PACKETS THAT WAIT FOR A SLAVE at its port of the switch.
use Rattle.std.specs.Prelude.{ℕ, List, [], Option, Some, None, slice_get}
use Rattle.arrayvec.specs.ArrayVec.{ArrayVec}
use Rattle.eoe_switch.specs.Switch.{Switched, queue_at}

-- the port of a slave, if it has one
abbrev pub port_by : Option (Option ℕ) → Option ℕ
port_by None = None
port_by (Some port) = port

-- the packets that wait at a port, the oldest first
abbrev pub waiting_by : Switched → Option ℕ → List (ArrayVec ℕ)
waiting_by switch None = []
waiting_by switch (Some port) = queue_at switch port

-- THE PACKETS FORWARDED TO A SLAVE that did not begin yet, the oldest first, by the ports of all slaves
abbrev pub forwarded : Switched → List (Option ℕ) → ℕ → List (ArrayVec ℕ)
forwarded switch ports slave = waiting_by switch (port_by (slice_get ports slave))
