use Rattle.std.specs.Prelude.{ℕ, ◌+◌, ◌^◌, ◌==◌, true, false, if◌then◌else◌, List, [], ◌∷◌, ◌++◌, slice_get, slice_set, drop, replicate, Option, None, Some}
use Rattle.arrayvec.specs.ArrayVec.{ArrayVec}
use Rattle.eoe_switch.specs.declared.addresses.Learned.{Learned}
use Rattle.eoe_switch.specs.declared.port.Offered.{Offered}
use Rattle.eoe_switch.specs.declared.port.Offered.TheVariants.{Taken, Full}
use Rattle.eoe_switch.specs.declared.port.Port.{Port}
use Rattle.eoe_switch.specs.declared.port.Route.{Route}
use Rattle.eoe_switch.specs.declared.switching.SwitchEvent.{SwitchEvent}
use Rattle.eoe_switch.specs.declared.switching.SwitchEvent.TheVariants.{Arrive, Begun, Down}
use Rattle.eoe_switch.specs.Addresses.{address_at, is_group, port_of, learned_with}
use Rattle.eoe_switch.specs.Ports.{offered}

-- the switch: its ports, and the addresses that it knows
pub record Switched : Type 0 where
  pub ports : List Port
  pub learned : List Learned

-- a port that is up, at which nothing waits
abbrev pub first_port : Port
first_port = record { up = true; queue = [] }

-- the ports of a new switch
abbrev pub first_ports : ℕ → List Port
first_ports n = replicate n first_port

-- a packet offered to each port, of which the first has number `at`: the ports behind it
abbrev pub ports_behind : Route → ArrayVec ℕ → ℕ → List Port → List Port
ports_behind route packet at [] = []
ports_behind route packet at (p ∷ ps) = (offered route at packet p).port ∷ ports_behind route packet (at + 1) ps

-- a bit for each port at which something became of it
abbrev pub bit_where : Offered → Offered → ℕ → ℕ
bit_where Taken Taken at = 2 ^ at
bit_where Full Full at = 2 ^ at
bit_where _ _ at = 0

-- the ports that took it
abbrev pub bits_of_taken : Route → ArrayVec ℕ → ℕ → List Port → ℕ
bits_of_taken route packet at [] = 0
bits_of_taken route packet at (p ∷ ps) = bit_where Taken (offered route at packet p).offered at + bits_of_taken route packet (at + 1) ps

-- the ports where it was dropped
abbrev pub bits_of_full : Route → ArrayVec ℕ → ℕ → List Port → ℕ
bits_of_full route packet at [] = 0
bits_of_full route packet at (p ∷ ps) = bit_where Full (offered route at packet p).offered at + bits_of_full route packet (at + 1) ps

-- where a packet goes that came in at a port: a group's destination, or one that isn't known, has no port
abbrev pub route_of : List Learned → ℕ → List ℕ → Route
route_of learned from packet =
    record { from = from; known = if is_group packet 0 then None else port_of (address_at packet 0) learned }

-- the addresses behind a packet that came in at a port: its source is learned, unless it is a group's
abbrev pub learned_from : List Learned → ℕ → List ℕ → List Learned
learned_from learned from packet =
    if is_group packet 6 then learned else learned_with learned (address_at packet 6) from

-- what an arrival leaves: the switch, and the ports that took the packet and that dropped it
pub record Arrived : Type 0 where
  pub switch : Switched
  pub taken : ℕ
  pub full : ℕ

-- a packet that goes its way
abbrev pub sent_by : Switched → Route → ArrayVec ℕ → Arrived
sent_by s route packet = record {
  switch = record s { ports = ports_behind route packet 0 s.ports };
  taken = bits_of_taken route packet 0 s.ports;
  full = bits_of_full route packet 0 s.ports;
}

-- a packet that came in at a port: its source is learned first
abbrev pub arrived : Switched → ℕ → ArrayVec ℕ → Arrived
arrived s from packet =
    let learned = learned_from s.learned from packet.items in
    sent_by (record s { learned = learned }) (route_of learned from packet.items) packet

-- the packets that wait at a port
abbrev pub queue_of : Option Port → List (ArrayVec ℕ)
queue_of None = []
queue_of (Some port) = port.queue

-- the packets that wait at a port of a switch, none where it has no such port
abbrev pub queue_at : Switched → ℕ → List (ArrayVec ℕ)
queue_at s port = queue_of (slice_get s.ports port)

-- the ports with the one at a place changed
abbrev pub changed : (Port → Port) → List Port → ℕ → Option Port → List Port
changed f ports at None = ports
changed f ports at (Some port) = slice_set ports at (f port)

-- the oldest packet of a port was taken
abbrev pub begun_at : Switched → ℕ → Switched
begun_at s port =
    record s { ports = changed (λ (p : Port). record p { queue = drop 1 p.queue }) s.ports port (slice_get s.ports port) }

-- a port went down: what waited there is discarded
abbrev pub downed_at : Switched → ℕ → Switched
downed_at s port = record s { ports = changed (λ (p : Port). record { up = false; queue = [] }) s.ports port (slice_get s.ports port) }

-- what a list of events made of a switch: the switch, the packets forwarded to each port, and the drops
pub record Flow : Type 0 where
  pub switch : Switched
  pub forwards : List (List (ArrayVec ℕ))
  pub drops : ℕ

-- the forwards with a packet that was offered to each port, of which the first has number `at`
abbrev pub forwards_behind : Route → ArrayVec ℕ → ℕ → List Port → List (List (ArrayVec ℕ)) → List (List (ArrayVec ℕ))
forwards_behind route packet at [] fs = fs
forwards_behind route packet at (p ∷ ps) [] = []
forwards_behind route packet at (p ∷ ps) (f ∷ fs) =
    (if bit_where Taken (offered route at packet p).offered at == 0 then f else f ++ packet ∷ [])
    ∷ forwards_behind route packet (at + 1) ps fs

-- how many ports dropped it
abbrev pub drops_of : Route → ArrayVec ℕ → ℕ → List Port → ℕ
drops_of route packet at [] = 0
drops_of route packet at (p ∷ ps) =
    (if bit_where Full (offered route at packet p).offered at == 0 then 0 else 1) + drops_of route packet (at + 1) ps

-- one more event
abbrev pub flow_behind : Flow → SwitchEvent → Flow
flow_behind flow (Arrive port packet) =
    let route = route_of (learned_from flow.switch.learned port packet.items) port packet.items in
    record {
      switch = (arrived flow.switch port packet).switch;
      forwards = forwards_behind route packet 0 flow.switch.ports flow.forwards;
      drops = flow.drops + drops_of route packet 0 flow.switch.ports;
    }
flow_behind flow (Begun port) = record flow { switch = begun_at flow.switch port }
flow_behind flow (Down port) = record flow { switch = downed_at flow.switch port }

-- the fold over events in order
abbrev pub flow_of : Flow → List SwitchEvent → Flow
flow_of flow [] = flow
flow_of flow (e ∷ es) = flow_of (flow_behind flow e) es

-- a new switch
abbrev pub first_switch : ℕ → Switched
first_switch ports = record { ports = first_ports ports; learned = [] }

-- what events make of a new switch with this many ports, the host's among them
abbrev pub switched : ℕ → List SwitchEvent → Flow
switched ports events = flow_of (record { switch = first_switch ports; forwards = replicate ports []; drops = 0 }) events
