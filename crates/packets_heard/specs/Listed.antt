-- THE EVENTS OF A SWITCH over the frames of a run: what comes in of the slaves, and which of their ports go down.
use Rattle.std.specs.Prelude.{◌≡◌, ◌≤◌, ℕ, zero, suc, ◌+◌, ◌==◌, nat_lt, if◌then◌else◌, Bool, true, false, Option, Some, List, [], ◌∷◌, ◌++◌, map, length, slice_get, All}
use Rattle.arrayvec.specs.ArrayVec.{ArrayVec}
use Rattle.master_node.specs.of_eoe.declared.joining.Unfinished.{Unfinished}
use Rattle.master_node.specs.of_eoe_switch.declared.switching.SwitchEvent.{SwitchEvent}
use Rattle.master_node.specs.of_eoe_switch.declared.switching.SwitchEvent.TheVariants.{Arrive, Begun, Down}
use Rattle.master_node.specs.of_frame_view.View.{Lens}
use Rattle.master_node.specs.of_frame_view.Seen.{seen}
use Rattle.master_node.specs.of_life_runs.Led.{Exchanged, Leads, Turn, IsLed, led_behind, gives_up_at}
use Rattle.master_node.specs.Arrivals.{arrivals_in, completed_at}
use Rattle.master_node.specs.Downs.{downs_in, goes_down}
use Rattle.master_node.specs.Forwards.{port_by}
use Rattle.master_node.specs.Made.{IsOfMaking}
use Rattle.master_node.specs.Shows.{is_carried}
use Rattle.master_node.specs.of_master_tour.Goes.{holds_at}
use Rattle.master_node.specs.of_master_tour.Made.{is_in}
use Rattle.master_node.specs.of_master_tour.Orders.{AreOnce}
use Rattle.packets_heard.specs.Heard.{Joined, joined_in}
use Rattle.master_node.specs.of_segment_ring.declared.wire.Fate.{Fate}
use Rattle.master_node.specs.of_segment_ring.declared.wire.Fate.TheVariants.{Pass, Lost}

-- how often a port goes down by an event
abbrev pub down_by_event : ℕ → SwitchEvent → ℕ
down_by_event port (Arrive at packet) = 0
down_by_event port (Begun at) = 0
down_by_event port (Down at) = if at == port then 1 else 0

-- and by all of them
abbrev pub downs_at : ℕ → List SwitchEvent → ℕ
downs_at port [] = 0
downs_at port (e ∷ es) = down_by_event port e + downs_at port es

-- a packet that has at least its addresses and its EtherType, and none that is shorter
abbrev pub long_where : Bool → List ℕ → List (ArrayVec ℕ)
long_where true octets = []
long_where false octets = record { items = octets } ∷ []

-- those of these packets
abbrev pub long_ones : List (List ℕ) → List (ArrayVec ℕ)
long_ones [] = []
long_ones (p ∷ ps) = long_where (nat_lt (length p) 14) p ++ long_ones ps

-- the packets of the slave at a place that were completed so far
abbrev pub packets_at : List Joined → ℕ → List (List ℕ)
packets_at [] k = []
packets_at (j ∷ js) zero = j.packets
packets_at (j ∷ js) (suc k) = packets_at js k

-- what is unfinished of each slave
abbrev pub unfinished_of : List Joined → List (Option Unfinished)
unfinished_of js = map (λ (j : Joined). j.unfinished) js

-- the slave at a place has this port, and no other has it
pub record IsOwn (ports : List (Option ℕ)) (k port : ℕ) : Type 0 where
  pub has : port_by (slice_get ports k) ≡ Some port
  pub alone : (q : ℕ) → port_by (slice_get ports q) ≡ Some port → q ≡ k
  pub behind : 1 ≤ port

-- THE SLAVES THAT A FRAME CARRIES are at these places, none twice; and no packet of another slave is completed by it
pub record CarriesAll (visit : List ℕ) (us : List Turn) (packets : ℕ → List (List ℕ)) : Type 0 where
  pub once : AreOnce visit
  pub all : (k : ℕ) → holds_at is_carried us k ≡ true → is_in k visit ≡ true
  pub quiet : (k : ℕ) → is_in k visit ≡ false → packets k ≡ []

module _ (lens : ℕ → Lens) (recover retry : ℕ) (ports : List (Option ℕ)) where
  -- the packets that a frame of this fate completes of the slave at a place: a lost one none
  abbrev pub packets_by : Exchanged → Fate → List Turn → List Joined → ℕ → List (List ℕ)
  packets_by f Pass us js k = completed_at (seen lens f.back) us (unfinished_of js) k
  packets_by f (Lost after) us js k = []

  -- WHAT A FRAME'S RETURN OR LOSS LISTS, for the slaves of its visit, by the lives behind it: the packets that it completed, or the ports of those that it took
  -- from the ring
  abbrev pub listed_behind : Exchanged → Fate → List Turn → List Leads → List Joined → List ℕ → List SwitchEvent
  listed_behind f Pass us leads js visit = arrivals_in ports (λ k. completed_at (seen lens f.back) us (unfinished_of js) k) visit
  listed_behind f (Lost after) us leads js visit = downs_in ports (λ k. goes_down us leads k) visit

  -- ONE FRAME MORE: behind the events before it come those of its making, then those of its return or loss
  pub record ListedOn (before : List SwitchEvent → Type 0) (f : Exchanged) (us : List Turn) (leads : List Leads) (js : List Joined) (es : List SwitchEvent) : Type 0 where
    pub old : List SwitchEvent
    pub was : before old
    pub making : List SwitchEvent
    pub only : All IsOfMaking making
    pub visit : List ℕ
    pub carries : CarriesAll visit us (λ k. packets_by f f.fate us js k)
    pub whole : es ≡ old ++ (making ++ listed_behind f f.fate us leads js visit)

  -- THE EVENTS OF A RUN, frame by frame
  abbrev pub Listed : {first : List Leads} {fs : List Exchanged} {missed : ℕ} {as' : List Leads} → IsLed lens recover retry first fs missed as' → List SwitchEvent → Type 0
  Listed IsLed.start es = es ≡ []
  Listed (IsLed.on fs missed as' f us led frame) es = ListedOn (λ old. Listed led old) f us (map (led_behind lens recover retry (gives_up_at lens recover retry missed) (length fs) f) us) (joined_in led) es
