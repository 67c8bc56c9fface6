-- WHAT HAPPENED AT THE SWITCH from its beginning on, and the switch that a master has behind it.
use Rattle.std.specs.Prelude.{◌≡◌, ◌≤◌, ◌<◌, ℕ, ◌+◌, ◌%◌, ◌==◌, if◌then◌else◌, List, [], ◌∷◌, ◌++◌, map, take, length, All}
use Rattle.arrayvec.specs.ArrayVec.{ArrayVec}
use Rattle.eoe_switch.specs.Switch.{Switched, switched, arrived, queue_at}
use Rattle.eoe_switch.specs.declared.switching.SwitchEvent.{SwitchEvent}
use Rattle.eoe_switch.specs.declared.switching.SwitchEvent.TheVariants.{Arrive, Begun, Down}
use Rattle.master_node.specs.Ports.{IsAtPort}
use Rattle.master_node.specs.declared.happened.Happening.{Happening}
use Rattle.master_node.specs.declared.lan.Lan.{Lan}

-- the events of the switch
abbrev pub events_of : List Happening → List SwitchEvent
events_of rows = map (λ (r : Happening). r.event) rows

-- the packet that came in by an event, at whichever port
abbrev pub packet_of : SwitchEvent → List (ArrayVec ℕ)
packet_of (Arrive port packet) = packet ∷ []
packet_of (Begun port) = []
packet_of (Down port) = []

-- the packets that the host was handed, in order
abbrev pub handed_by : Happening → List (ArrayVec ℕ)
handed_by r = if r.handed then packet_of r.event else []

abbrev pub handed_in : List Happening → List (ArrayVec ℕ)
handed_in [] = []
handed_in (r ∷ rs) = handed_by r ++ handed_in rs

-- the packets that came in at a port, in order
abbrev pub arrived_by : ℕ → SwitchEvent → List (ArrayVec ℕ)
arrived_by port (Arrive at packet) = if at == port then packet ∷ [] else []
arrived_by port (Begun at) = []
arrived_by port (Down at) = []

abbrev pub arrivals_at : ℕ → List SwitchEvent → List (ArrayVec ℕ)
arrivals_at port [] = []
arrivals_at port (e ∷ es) = arrived_by port e ++ arrivals_at port es

-- no packet waits at any port of a switch
abbrev pub NoneWaits : Switched → Type 0
NoneWaits s = (port : ℕ) → queue_at s port ≡ []

-- THE HOST WAITS: where one of its packets comes in, none waits at any port, by the events before it
abbrev pub HostWaits : ℕ → List SwitchEvent → Type 0
HostWaits ports es = (before after : List SwitchEvent) (packet : ArrayVec ℕ) → es ≡ before ++ Arrive 0 packet ∷ after → NoneWaits (switched ports before).switch

-- THE SWITCH BEHIND ALL THIS: it is what the events make of a new switch with so many ports; the host was handed just the packets that they forward to the
-- first port, which is its own; those that came in there are the first of the host's packets, in order, each where none waited; and each event is at one of
-- the ports
pub record HasHappened (ports : ℕ) (host : List (ArrayVec ℕ)) (rows : List Happening) (l : Lan) : Type 0 where
  pub switch : (switched ports (events_of rows)).switch ≡ l.switch
  pub others : List (List (ArrayVec ℕ))
  pub handed : (switched ports (events_of rows)).forwards ≡ handed_in rows ∷ others
  pub entered : arrivals_at 0 (events_of rows) ≡ take l.entered l.host
  pub own : l.host ≡ host
  pub at_port : All (IsAtPort ports) (events_of rows)
  pub many : length l.switch.ports ≡ ports
  pub waits : HostWaits ports (events_of rows)

-- A PACKET COMES IN at a port: so it stands in the list of the step, where that has room for it, marked where it is forwarded to the host
pub record Comes (port : ℕ) (packet : ArrayVec ℕ) (l l' : Lan) : Type 0 where
  pub few : length l'.happened ≤ length l.happened + 1
  pub listed : length l.happened < 17 → l'.happened ≡ l.happened ++ record { event = Arrive port packet; handed = (arrived l.switch port packet).taken % 2 == 1 } ∷ []
  pub switch : l'.switch ≡ (arrived l.switch port packet).switch
  pub many : length l'.switch.ports ≡ length l.switch.ports
  pub host : l'.host ≡ l.host
  pub entered : l'.entered ≡ l.entered
  pub ports : l'.ports ≡ l.ports
  pub full : 17 ≤ length l.happened → l'.happened ≡ l.happened

-- SO MUCH MORE HAPPENS IN A STEP, at most: where the list of the step has room for it, the switch goes with what it has
pub record Happens (more : ℕ) (l l' : Lan) : Type 0 where
  pub few : length l'.happened ≤ length l.happened + more
  pub goes : (ports : ℕ) (host : List (ArrayVec ℕ)) (rows : List Happening) → length l.happened + more ≤ 17 →
      HasHappened ports host (rows ++ l.happened) l → HasHappened ports host (rows ++ l'.happened) l'

-- ONE STEP, whatever happened before: the switch goes with just what the list of the step has
abbrev pub HappensSo : Lan → Lan → Type 0
HappensSo l l' = (ports : ℕ) (host : List (ArrayVec ℕ)) (rows : List Happening) → HasHappened ports host rows l → HasHappened ports host (rows ++ l'.happened) l'
