-- The ports of the switch between the host and the slaves.
use Rattle.std.specs.Prelude.{◌<◌, ◌≤◌, ℕ, ◌+◌, Bool, true, false, Option, Some, None, List, [], ◌∷◌, length, count_by}
use Rattle.eoe_switch.specs.declared.switching.SwitchEvent.{SwitchEvent}
use Rattle.eoe_switch.specs.declared.switching.SwitchEvent.TheVariants.{Arrive, Begun, Down}
use Rattle.life_runs.specs.of_segment_plan.declared.slave.SlaveSpec.{SlaveSpec}

-- the host's port, and one for each slave that serves EoE
abbrev pub ports_of : List SlaveSpec → ℕ
ports_of specs = 1 + count_by (λ (s : SlaveSpec). s.eoe) specs

-- an event at one of so many ports; a packet has at least its addresses and its EtherType
abbrev pub IsAtPort : ℕ → SwitchEvent → Type 0
IsAtPort ports (Arrive port packet) = (port < ports) × (14 ≤ length packet.items)
IsAtPort ports (Begun port) = port < ports
IsAtPort ports (Down port) = port < ports

-- the port of a slave that serves EoE, or doesn't, where so many ports stand before it, and how many stand before the next slave's
abbrev pub port_where : Bool → ℕ → Option ℕ
port_where true last = Some (last + 1)
port_where false last = None

-- the last port behind it
abbrev pub last_where : Bool → ℕ → ℕ
last_where true last = last + 1
last_where false last = last

-- THE PORTS OF SLAVES in ring order, behind this one: each that serves EoE has the next
abbrev pub ports_behind : ℕ → List SlaveSpec → List (Option ℕ)
ports_behind last [] = []
ports_behind last (s ∷ ss) = port_where s.eoe last ∷ ports_behind (last_where s.eoe last) ss
