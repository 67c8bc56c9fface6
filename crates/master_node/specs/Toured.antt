-- THE TOUR OF A MASTER: what its frames carry of the tour, and where that stands behind them.
use Rattle.std.specs.Prelude.{◌≡◌, ◌≤◌, ℕ, Bool, true, false, Option, Some, None, List, [], ◌++◌, length}
use Rattle.life_runs.specs.of_frame_view.Frames.{Share}
use Rattle.life_runs.specs.Led.{Turn}
use Rattle.life_runs.specs.of_master_hand.declared.hand.InHand.{InHand}
use Rattle.life_runs.specs.of_master_side.declared.hand.Hand.{Ghosts}
use Rattle.life_runs.specs.of_master_tour.Goes.{is_live, holds_at}
use Rattle.life_runs.specs.of_master_tour.Orders.{AreOnce}
use Rattle.life_runs.specs.of_master_tour.Toured.{Tour, Carries, visit_of, visit_on}
use Rattle.life_runs.specs.of_master_tour.declared.stop.Stop.{Stop}
use Rattle.master_node.specs.Rooms.{FitAgain, FitFrom, IsSentStop, LeavesFull}
use Rattle.master_node.specs.declared.node.MasterNode.{MasterNode}

-- a slave's share of the frame, by its place in the tour and by its life
abbrev pub stop_share : {G : Ghosts InHand} → Stop InHand G → Share
stop_share s = record { under = s.under; at = s.at }

-- a slave's share of the frame, by its life
abbrev pub turn_share : Turn → Share
turn_share u = u.share

-- these come again, or none do
abbrev pub again_of : Bool → List ℕ → Option (List ℕ)
again_of true visit = Some visit
again_of false visit = None

-- THE TOUR, as the master has it: before a frame, and the same while that is under way
abbrev pub tour_of : MasterNode → Tour
tour_of m = record { again = again_of m.tour.again m.tour.visit.items; opened = m.tour.opened; last = m.tour.last; missed = m.tour.missed }

-- a slave stays where it stands, with its share of the frame
abbrev pub StaysPut : {G : Ghosts InHand} → Stop InHand G → Stop InHand G → Type 0
StaysPut s t = (t.stand ≡ s.stand) × (t.under ≡ s.under) × (t.at ≡ s.at)

-- a visit gives it the datagram of this number, or none
abbrev pub TakesPart : {G : Ghosts InHand} → Bool → ℕ → Stop InHand G → Stop InHand G → Type 0
TakesPart true at s t = (t.stand ≡ s.stand) × (t.under ≡ true) × (t.at ≡ at)
TakesPart false at s t = (t.stand ≡ s.stand) × (t.under ≡ true → s.under ≡ true)

-- BEFORE THE FIRST VISIT of a frame no slave has a datagram of it, and those that come again are different ones, and have room in it
pub record IsBare (m : MasterNode) : Type 0 where
  pub count : m.tour.count ≡ 0
  pub passed : m.tour.passed ≡ 0
  pub under : (k : ℕ) → holds_at (λ s. s.under) m.tour.stops.items k ≡ false
  pub again : m.tour.again ≡ true → AreOnce m.tour.visit.items
  pub anew : m.tour.again ≡ false → m.tour.visit.items ≡ []
  pub fits : m.tour.again ≡ true → FitAgain m.tour.visit.items m.tour.stops.items

-- BEHIND THE LAST it carries the first slaves of its visit, and leaves out none that would fit
pub record HasVisited (octets : List ℕ) (m n : MasterNode) : Type 0 where
  pub places : List ℕ
  pub rest : List ℕ
  pub count : length places ≡ n.tour.count
  pub long : length n.tour.stops.items ≡ length m.tour.stops.items
  pub alive : (k : ℕ) → holds_at (λ s. is_live s.stand) n.tour.stops.items k ≡ holds_at (λ s. is_live s.stand) m.tour.stops.items k
  pub carries : Carries (λ s. stop_share s) n.tour.stops.items places
  pub split : visit_of (λ k. holds_at (λ s. is_live s.stand) m.tour.stops.items k) (length m.tour.stops.items) (again_of m.tour.again m.tour.visit.items) m.tour.opened m.tour.last ≡ places ++ rest
  pub comes : n.tour.visit.items ≡ visit_on (again_of m.tour.again m.tour.visit.items) places
  pub leaves : LeavesFull octets n.tour.stops.items m.tour.again rest
  pub most : n.tour.count ≤ 16
  pub way : FitFrom (λ s. IsSentStop s) n.tour.stops.items (length octets) 16 places
