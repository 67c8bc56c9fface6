-- WHICH PACKETS BEGIN while a frame is made: of each slave the oldest that waits at its port.
use Rattle.std.specs.Prelude.{◌≡◌, ◌<◌, ℕ, zero, suc, Bool, true, false, Option, Some, None, List, [], ◌∷◌, ◌++◌, length, slice_get, ⊤}
use Rattle.arrayvec.specs.ArrayVec.{ArrayVec}
use Rattle.eoe_switch.specs.Switch.{Switched, arrived, begun_at, downed_at, queue_at}
use Rattle.eoe_switch.specs.declared.switching.SwitchEvent.{SwitchEvent}
use Rattle.eoe_switch.specs.declared.switching.SwitchEvent.TheVariants.{Arrive, Begun, Down}
use Rattle.life_runs.specs.Led.{Leads, Turn}
use Rattle.life_runs.specs.of_state_model.Stated.{Service}
use Rattle.life_runs.specs.of_protocol_models.EoeClient as EoeClient
use Rattle.life_runs.specs.of_master_hand.Spoken.{Asked, sdo, file, drive, net, passed}
use Rattle.life_runs.specs.of_master_hand.declared.hand.InHand.{InHand}
use Rattle.life_runs.specs.of_master_hand.declared.laying.Laid.{Laid}
use Rattle.life_runs.specs.of_master_side.declared.hand.Hand.{Ghosts}
use Rattle.life_runs.specs.of_master_tour.Made.{is_in}
use Rattle.life_runs.specs.of_master_tour.Orders.{AreOnce}
use Rattle.life_runs.specs.of_master_tour.declared.stop.Stop.{Stop}
use Rattle.master_node.specs.Forwards.{forwarded, port_by}
use Rattle.master_node.specs.Happened.{events_of}
use Rattle.master_node.specs.declared.coming.Coming.{Coming}
use Rattle.master_node.specs.declared.lan.Lan.{Lan}

-- a packet that is taken: at which port, if the slave has one, and the packet itself, if one waits there
pub record Taken : Type 0 where
  pub port : Option ℕ
  pub packet : Option (ArrayVec ℕ)

-- the switch behind an event
abbrev pub switch_on : Switched → SwitchEvent → Switched
switch_on s (Arrive port packet) = (arrived s port packet).switch
switch_on s (Begun port) = begun_at s port
switch_on s (Down port) = downed_at s port

-- and behind all of these
abbrev pub switch_behind : Switched → List SwitchEvent → Switched
switch_behind s [] = s
switch_behind s (e ∷ es) = switch_behind (switch_on s e) es

-- the oldest packet that waits at a port
abbrev pub oldest_at : Switched → ℕ → Taken
oldest_at s port = record { port = Some port; packet = slice_get (queue_at s port) 0 }

-- what an event takes
abbrev pub taken_by : Switched → SwitchEvent → List Taken
taken_by s (Arrive port packet) = []
taken_by s (Begun port) = oldest_at s port ∷ []
taken_by s (Down port) = []

-- WHAT EVENTS TAKE from a switch, in order: each the oldest packet of its port, as the switch then stands
abbrev pub taken_in : Switched → List SwitchEvent → List Taken
taken_in s [] = []
taken_in s (e ∷ es) = taken_by s e ++ taken_in (switch_on s e) es

-- a service is a packet, for the port of its slave, or none
abbrev pub packet_asked : Option ℕ → Asked → List Taken
packet_asked port (sdo q) = []
packet_asked port (file q) = []
packet_asked port (drive q) = []
packet_asked port (net (EoeClient.set_ip block)) = []
packet_asked port (net EoeClient.get_ip) = []
packet_asked port (net (EoeClient.packet octets frame)) = record { port = port; packet = Some (record { items = octets }) } ∷ []
packet_asked port (passed m) = []

-- a packet came into hand of a slave with this port, or none did
abbrev pub begins_by : Option ℕ → Option (Service Asked) → List Taken
begins_by port None = []
begins_by port (Some (Service.Mails q)) = packet_asked port q
begins_by port (Some (Service.State target)) = []

-- what came into hand of the slave at a place
abbrev pub begun_of : List Turn → ℕ → Option (Service Asked)
begun_of [] k = None
begun_of (u ∷ us) zero = u.begun
begun_of (u ∷ us) (suc k) = begun_of us k

-- the same, by the places of the slaves in their ring
abbrev pub begun_for : (ℕ → Option (Service Asked)) → List Leads → ℕ → Option (Service Asked)
begun_for begun [] k = None
begun_for begun (a ∷ as') zero = begun a.lived.spot.place
begun_for begun (a ∷ as') (suc k) = begun_for begun as' k

-- THE PACKETS that came into hand of the slaves at these places, in order, each for the port of its slave
abbrev pub begins_in : List (Option ℕ) → (ℕ → Option (Service Asked)) → List ℕ → List Taken
begins_in ports begun [] = []
begins_in ports begun (p ∷ ps) = begins_by (port_by (slice_get ports p)) (begun p) ++ begins_in ports begun ps

-- A STEP OF A SWITCH that stood so before it: its events led to the switch as it is, and took this
pub record HasTaken (from : Switched) (taken : List Taken) (l : Lan) : Type 0 where
  pub switch : switch_behind from (events_of l.happened) ≡ l.switch
  pub taken_is : taken_in from (events_of l.happened) ≡ taken

-- THIS IS TAKEN BESIDES, where the list of the step has room for it; each slave keeps its port
pub record TakesOn (more : List Taken) (l l' : Lan) : Type 0 where
  pub ports : l'.ports ≡ l.ports
  pub takes : (from : Switched) (taken : List Taken) → length l.happened < 17 → HasTaken from taken l → HasTaken from (taken ++ more) l'

-- the oldest at the port of a slave, if that has one
abbrev pub oldest_by : Switched → Option ℕ → List Taken
oldest_by s None = []
oldest_by s (Some port) = oldest_at s port ∷ []

-- what is taken from the switch as this comes into hand of the slave at a place
abbrev pub taken_for : Lan → ℕ → Option Coming → List Taken
taken_for l place None = []
taken_for l place (Some Coming.Packet) = oldest_by l.switch (port_by (slice_get l.ports.items place))
taken_for l place (Some Coming.Mail) = []
taken_for l place (Some Coming.Script) = []
taken_for l place (Some (Coming.State target)) = []

-- where it did
abbrev pub taken_where : Bool → Lan → ℕ → Option Coming → List Taken
taken_where true l place coming = taken_for l place coming
taken_where false l place coming = []

-- a packet that is laid ready is the oldest that waits at the port of the slave at a place
abbrev pub IsOldest : {G : Ghosts InHand} → Lan → ℕ → Stop InHand G → Type 0
IsOldest l place t = t.side.hand.laying.laid ≡ Laid.Packet → slice_get (forwarded l.switch l.ports.items place) 0 ≡ Some (record { items = t.side.hand.laying.packet })

-- so it is where a packet is what may come
abbrev pub LaysOldest : {G : Ghosts InHand} → Lan → ℕ → Option Coming → Stop InHand G → Type 0
LaysOldest l place None t = ⊤
LaysOldest l place (Some Coming.Packet) t = IsOldest l place t
LaysOldest l place (Some Coming.Mail) t = ⊤
LaysOldest l place (Some Coming.Script) t = ⊤
LaysOldest l place (Some (Coming.State target)) t = ⊤

-- where no packet waits for a slave none does behind
abbrev pub NoneMore : Lan → Lan → Type 0
NoneMore l l' = (k : ℕ) → forwarded l.switch l.ports.items k ≡ [] → forwarded l'.switch l'.ports.items k ≡ []

-- packets come first: nothing else may come while one waits for the slave at a place
abbrev pub PacketFirst : Lan → ℕ → Option Coming → Type 0
PacketFirst l place None = ⊤
PacketFirst l place (Some Coming.Packet) = ⊤
PacketFirst l place (Some Coming.Mail) = forwarded l.switch l.ports.items place ≡ []
PacketFirst l place (Some Coming.Script) = forwarded l.switch l.ports.items place ≡ []
PacketFirst l place (Some (Coming.State target)) = forwarded l.switch l.ports.items place ≡ []

-- a service that is no packet
abbrev pub is_other : Asked → Bool
is_other (sdo q) = true
is_other (file q) = true
is_other (drive q) = true
is_other (net (EoeClient.set_ip block)) = true
is_other (net EoeClient.get_ip) = true
is_other (net (EoeClient.packet octets frame)) = false
is_other (passed m) = true

-- such a one came into hand
abbrev pub begins_other : Option (Service Asked) → Bool
begins_other None = false
begins_other (Some (Service.Mails q)) = is_other q
begins_other (Some (Service.State target)) = true

-- WHAT HAS BEGUN SO FAR while a frame is made, where the visits of these places are still to come
pub record HasBegun (from : Switched) (left : List ℕ) (begun : ℕ → Option (Service Asked)) (as' : List Leads) (l : Lan) : Type 0 where
  pub visited : List ℕ
  pub once : AreOnce visited
  pub over : (k : ℕ) → is_in k visited ≡ true → is_in k left ≡ false
  pub took : HasTaken from (begins_in l.ports.items (begun_for begun as') visited) l
  pub others : (k : ℕ) (port : Option ℕ) → is_in k visited ≡ false → begins_by port (begun_for begun as' k) ≡ []
  pub quiet : (k : ℕ) → begins_other (begun_for begun as' k) ≡ true → forwarded l.switch l.ports.items k ≡ []

-- JUST THE PACKETS THAT CAME INTO HAND BEGIN, of the slaves that were visited, in order, each slave once: each is the oldest that waits at the port of its
-- slave, as the switch then stands; and where another service came into hand none waits there
pub record PacketsBegin (from : Switched) (us : List Turn) (l : Lan) : Type 0 where
  pub visited : List ℕ
  pub once : AreOnce visited
  pub taken : taken_in from (events_of l.happened) ≡ begins_in l.ports.items (begun_of us) visited
  pub others : (k : ℕ) (port : Option ℕ) → is_in k visited ≡ false → begins_by port (begun_of us k) ≡ []
  pub quiet : (k : ℕ) → begins_other (begun_of us k) ≡ true → forwarded l.switch l.ports.items k ≡ []
