-- WHICH PORTS GO DOWN behind a frame that was lost, by the lives of the slaves.
use Rattle.std.specs.Prelude.{◌≡◌, ◌≤◌, ℕ, ◌+◌, ◌&&◌, not, Bool, true, false, Option, Some, None, List, [], ◌∷◌, ◌++◌, length, slice_get}
use Rattle.eoe_switch.specs.declared.switching.SwitchEvent.{SwitchEvent}
use Rattle.eoe_switch.specs.declared.switching.SwitchEvent.TheVariants.{Down}
use Rattle.life_runs.specs.Led.{Leads, Turn}
use Rattle.life_runs.specs.of_master_hand.declared.hand.InHand.{InHand}
use Rattle.life_runs.specs.of_master_side.declared.hand.Hand.{Ghosts}
use Rattle.life_runs.specs.of_master_tour.Goes.{is_live, holds_at}
use Rattle.life_runs.specs.of_master_tour.declared.stop.Stop.{Stop}
use Rattle.life_runs.specs.of_master_tour.declared.stop.Turned.{Turned}
use Rattle.master_node.specs.Forwards.{port_by}
use Rattle.master_node.specs.Happened.{events_of}
use Rattle.master_node.specs.Shows.{is_live_turn, is_live_lead}
use Rattle.master_node.specs.declared.lan.Lan.{Lan}
use Rattle.master_node.specs.declared.node.MasterNode.{MasterNode}

-- JUST THESE EVENTS ARE LISTED BESIDES, in this order, where the list of the step has room for them; each slave keeps its port
pub record Lists (es : List SwitchEvent) (l l' : Lan) : Type 0 where
  pub ports : l'.ports ≡ l.ports
  pub listed : length l.happened + length es ≤ 17 → events_of l'.happened ≡ events_of l.happened ++ es

-- a slave that has this port, or none, goes, or doesn't
abbrev pub down_by : Option ℕ → Bool → List SwitchEvent
down_by None goes = []
down_by (Some port) false = []
down_by (Some port) true = Down port ∷ []

-- THE PORTS THAT GO DOWN of the slaves at these places, in order, each once
abbrev pub downs_in : List (Option ℕ) → (ℕ → Bool) → List ℕ → List SwitchEvent
downs_in ports goes [] = []
downs_in ports goes (p ∷ ps) = down_by (port_by (slice_get ports p)) (goes p) ++ downs_in ports goes ps

-- a frame turned a slave into one that is given up
abbrev pub is_given_up : Option Turned → Bool
is_given_up None = false
is_given_up (Some Turned.GivenUp) = true
is_given_up (Some Turned.Cleared) = false
is_given_up (Some Turned.Opened) = false

-- the slave at a place was given up by the last frame, for good
abbrev pub gives_at : {G : Ghosts InHand} → List (Stop InHand G) → ℕ → Bool
gives_at ss p = holds_at (λ s. is_given_up s.news) ss p && holds_at (λ s. not (is_live s.stand)) ss p

-- by the lives before a frame and behind it: the slave at a place was live, and isn't any more
abbrev pub goes_down : List Turn → List Leads → ℕ → Bool
goes_down us as' p = holds_at is_live_turn us p && not (holds_at is_live_lead as' p)

-- THE STEP LISTS JUST THE PORTS that went down: of the slaves that its frame carried, in order, those that it took from the ring for good
pub record GoDown (m : MasterNode) (us : List Turn) (as' : List Leads) (n : MasterNode) : Type 0 where
  pub ports : n.lan.ports ≡ m.lan.ports
  pub events : events_of n.lan.happened ≡ downs_in m.lan.ports.items (goes_down us as') m.tour.visit.items
