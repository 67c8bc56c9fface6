-- THE PACKETS THAT BEGIN over the frames of a run.
use Rattle.std.specs.Prelude.{◌≡◌, ℕ, zero, suc, ◌+◌, ◌==◌, true, false, if◌then◌else◌, Option, Some, None, List, [], ◌∷◌, ◌++◌, slice_get, All, ⊤}
use Rattle.arrayvec.specs.ArrayVec.{ArrayVec}
use Rattle.master_node.specs.of_eoe_switch.Switch.{switched}
use Rattle.master_node.specs.of_eoe_switch.declared.switching.SwitchEvent.{SwitchEvent}
use Rattle.master_node.specs.of_eoe_switch.declared.switching.SwitchEvent.TheVariants.{Arrive, Begun, Down}
use Rattle.master_node.specs.of_frame_view.View.{Lens}
use Rattle.master_node.specs.of_life_runs.Led.{Exchanged, Leads, Turn, IsLed}
use Rattle.slave_server.specs.of_protocol_models.EoeClient as EoeClient
use Rattle.master_node.specs.of_master_hand.Spoken.{Asked, sdo, file, drive, net, passed}
use Rattle.master_node.specs.Begins.{begins_by, begins_in, begins_other, begun_of, taken_in}
use Rattle.master_node.specs.Forwards.{port_by, waiting_by}
use Rattle.slave_server.specs.of_state_model.Stated.{Service}
use Rattle.master_node.specs.of_master_tour.Made.{is_in}
use Rattle.master_node.specs.of_master_tour.Orders.{AreOnce}

-- how often a packet begins at a port by an event
abbrev pub begun_by_event : ℕ → SwitchEvent → ℕ
begun_by_event port (Arrive at packet) = 0
begun_by_event port (Begun at) = if at == port then 1 else 0
begun_by_event port (Down at) = 0

-- and by all of them
abbrev pub begun_at : ℕ → List SwitchEvent → ℕ
begun_at port [] = 0
begun_at port (e ∷ es) = begun_by_event port e + begun_at port es

-- the packets that were forwarded to a port, where those of each are in order
abbrev pub forwarded_to : ℕ → List (List (ArrayVec ℕ)) → List (ArrayVec ℕ)
forwarded_to port [] = []
forwarded_to zero (f ∷ fs) = f
forwarded_to (suc port) (f ∷ fs) = forwarded_to port fs

-- a service is a packet, and no other is
abbrev pub packet_of : Asked → List (ArrayVec ℕ)
packet_of (sdo q) = []
packet_of (file q) = []
packet_of (drive q) = []
packet_of (net (EoeClient.set_ip block)) = []
packet_of (net EoeClient.get_ip) = []
packet_of (net (EoeClient.packet octets frame)) = record { items = octets } ∷ []
packet_of (passed m) = []

-- the packet that came into hand, if one did
abbrev pub packet_begun : Option (Service Asked) → List (ArrayVec ℕ)
packet_begun None = []
packet_begun (Some (Service.Mails q)) = packet_of q
packet_begun (Some (Service.State target)) = []

-- THE PACKETS THAT CAME INTO HAND of the slave at a place, over the frames of a run
abbrev pub packets_begun : {lens : ℕ → Lens} {recover retry : ℕ} {first : List Leads} {fs : List Exchanged} {missed : ℕ} {as' : List Leads} → IsLed lens recover retry first fs missed as' → ℕ → List (ArrayVec ℕ)
packets_begun IsLed.start k = []
packets_begun (IsLed.on fs missed as' f us led frame) k = packets_begun led k ++ packet_begun (begun_of us k)

-- no packet begins by an event
abbrev pub IsNoBegun : SwitchEvent → Type 0
IsNoBegun (Arrive at packet) = ⊤
IsNoBegun (Begun at) = ⊥
IsNoBegun (Down at) = ⊤

-- ONE FRAME MORE: while it is made just the packets begin that came into hand, each the oldest at the port of its slave, of a switch with so many ports that the
-- events before it made; where another service came into hand none waits at the slave's port then; and none begins by the frame's return or its loss
pub record BegunOn (before : List SwitchEvent → Type 0) (ports : List (Option ℕ)) (many : ℕ) (us : List Turn) (es : List SwitchEvent) : Type 0 where
  pub old : List SwitchEvent
  pub was : before old
  pub making : List SwitchEvent
  pub visited : List ℕ
  pub once : AreOnce visited
  pub taken : taken_in (switched many old).switch making ≡ begins_in ports (begun_of us) visited
  pub others : (k : ℕ) (port : Option ℕ) → is_in k visited ≡ false → begins_by port (begun_of us k) ≡ []
  pub quiet : (k : ℕ) → begins_other (begun_of us k) ≡ true → waiting_by (switched many (old ++ making)).switch (port_by (slice_get ports k)) ≡ []
  pub behind : List SwitchEvent
  pub none : All IsNoBegun behind
  pub whole : es ≡ old ++ (making ++ behind)

-- THE EVENTS OF A RUN, frame by frame
abbrev pub AreBegun : {lens : ℕ → Lens} {recover retry : ℕ} {first : List Leads} {fs : List Exchanged} {missed : ℕ} {as' : List Leads} → List (Option ℕ) → ℕ → IsLed lens recover retry first fs missed as' → List SwitchEvent → Type 0
AreBegun ports many IsLed.start es = es ≡ []
AreBegun ports many (IsLed.on fs missed as' f us led frame) es = BegunOn (λ old. AreBegun ports many led old) ports many us es
