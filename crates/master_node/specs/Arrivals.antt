-- WHICH PACKETS COME IN at the ports of slaves behind a frame that came back, by the mails accepted of the slaves.
use Rattle.std.specs.Prelude.{◌≡◌, ℕ, zero, suc, nat_lt, Bool, true, false, Option, Some, None, List, [], ◌∷◌, ◌++◌, length, slice_get}
use Rattle.eoe_switch.specs.of_eoe.declared.joining.Unfinished.{Unfinished}
use Rattle.eoe_switch.specs.declared.switching.SwitchEvent.{SwitchEvent}
use Rattle.eoe_switch.specs.declared.switching.SwitchEvent.TheVariants.{Arrive}
use Rattle.life_runs.specs.Led.{Turn}
use Rattle.life_runs.specs.of_segment_model.Slaves.{Datagram}
use Rattle.life_runs.specs.of_master_hand.Brings.{as_list}
use Rattle.life_runs.specs.of_master_hand.Joins.{packet_kept, packets_in}
use Rattle.life_runs.specs.of_master_hand.declared.hand.InHand.{InHand}
use Rattle.life_runs.specs.of_link_mails.Body.{Body}
use Rattle.life_runs.specs.of_master_side.declared.hand.Hand.{Ghosts}
use Rattle.life_runs.specs.of_master_side.declared.hand.Heard.{Heard}
use Rattle.life_runs.specs.of_master_tour.declared.stop.Stop.{Stop}
use Rattle.master_node.specs.Forwards.{port_by}
use Rattle.master_node.specs.Happened.{events_of}
use Rattle.master_node.specs.Joined.{mails_back}
use Rattle.master_node.specs.declared.node.MasterNode.{MasterNode}

-- a packet comes in at a port, unless it is shorter than its addresses and its EtherType
abbrev pub arrive_where : Bool → ℕ → List ℕ → List SwitchEvent
arrive_where true port octets = []
arrive_where false port octets = Arrive port (record { items = octets }) ∷ []

-- these packets, in order
abbrev pub arrive_at : ℕ → List (List ℕ) → List SwitchEvent
arrive_at port [] = []
arrive_at port (p ∷ ps) = arrive_where (nat_lt (length p) 14) port p ++ arrive_at port ps

-- those of a slave that has this port, or none
abbrev pub arrive_by : Option ℕ → List (List ℕ) → List SwitchEvent
arrive_by None ps = []
arrive_by (Some port) ps = arrive_at port ps

-- THE PACKETS THAT COME IN of the slaves at these places, in order, each at the port of its slave
abbrev pub arrivals_in : List (Option ℕ) → (ℕ → List (List ℕ)) → List ℕ → List SwitchEvent
arrivals_in ports packets [] = []
arrivals_in ports packets (p ∷ ps) = arrive_by (port_by (slice_get ports p)) (packets p) ++ arrivals_in ports packets ps

-- the packet that the mail heard last completed, if one was heard
abbrev pub packets_of : Option Heard → List (List ℕ) → List (List ℕ)
packets_of None ps = []
packets_of (Some what) ps = ps

-- as a slave's hand has it
abbrev pub packets_kept : {G : Ghosts InHand} → Stop InHand G → List (List ℕ)
packets_kept s = as_list (packet_kept s.side.hand.found)

-- of the slave at a place, whichever mail it was of
abbrev pub kept_at : {G : Ghosts InHand} → List (Stop InHand G) → ℕ → List (List ℕ)
kept_at [] p = []
kept_at (s ∷ ss) zero = packets_kept s
kept_at (s ∷ ss) (suc p) = kept_at ss p

-- of the slave at a place, by what was heard of it
abbrev pub heard_at : {G : Ghosts InHand} → List (Stop InHand G) → ℕ → List (List ℕ)
heard_at [] p = []
heard_at (s ∷ ss) zero = packets_of s.side.heard (packets_kept s)
heard_at (s ∷ ss) (suc p) = heard_at ss p

-- by the lives: the packets that the mails accepted of the slave at a place complete, of what was unfinished before them
abbrev pub completed_at : List (Datagram Body) → List Turn → List (Option Unfinished) → ℕ → List (List ℕ)
completed_at back [] js p = []
completed_at back (u ∷ us) [] p = []
completed_at back (u ∷ us) (j ∷ js) zero = packets_in j (mails_back back u)
completed_at back (u ∷ us) (j ∷ js) (suc p) = completed_at back us js p

-- THE STEP LISTS JUST THE PACKETS that came in: of the slaves that its frame carried, in order, those that their mails completed with it, whole
pub record ComeIn (m : MasterNode) (packets : ℕ → List (List ℕ)) (n : MasterNode) : Type 0 where
  pub ports : n.lan.ports ≡ m.lan.ports
  pub events : events_of n.lan.happened ≡ arrivals_in m.lan.ports.items packets m.tour.visit.items
