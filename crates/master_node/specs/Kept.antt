-- WHAT STAYS of a master where it only tells what happened, or lays a service ready.
use Rattle.std.specs.Prelude.{◌≡◌, ℕ, All}
use Rattle.life_runs.specs.of_master_hand.Shown.{SameHand}
use Rattle.life_runs.specs.of_master_hand.declared.hand.InHand.{InHand}
use Rattle.life_runs.specs.of_master_side.Sent.{SameSide}
use Rattle.life_runs.specs.of_master_side.declared.hand.Hand.{Ghosts}
use Rattle.life_runs.specs.of_master_side.declared.side.Side.{Side}
use Rattle.life_runs.specs.of_master_tour.Walks.{EachPair}
use Rattle.life_runs.specs.of_master_tour.declared.stop.Stop.{Stop}
use Rattle.master_node.specs.declared.node.MasterNode.{MasterNode}
use Rattle.master_node.specs.Numbered.{StaysNumbered}
use Rattle.master_node.specs.Origins.{forwards_at}
use Rattle.master_node.specs.Shows.{WaitsNone}

-- a slave's side has the same service in hand, the same halves and the same script, of which this number is next; and what the last frame brought
pub record SideKept {G : Ghosts InHand} (n : ℕ) (s t : Side InHand G) : Type 0 where
  pub hand : SameHand s.hand.course s.hand.which s.hand.clients t.hand.course t.hand.which t.hand.clients
  pub script : t.hand.laying.script ≡ s.hand.laying.script
  pub number : t.hand.laying.number ≡ n
  pub side : SameSide s.out s.inn s.fresh s.duty t.out t.inn t.fresh t.duty
  pub station : t.station ≡ s.station
  pub passing : t.passing ≡ s.passing
  pub turn : t.turn ≡ s.turn
  pub paused : t.paused ≡ s.paused
  pub carried : t.carried ≡ s.carried
  pub heard : t.heard ≡ s.heard
  pub found : t.hand.found ≡ s.hand.found
  pub read : t.read_at ≡ s.read_at
  pub pace : t.pace ≡ s.pace

-- and so has its place in the tour
pub record StopKept {G : Ghosts InHand} (n : ℕ) (s t : Stop InHand G) : Type 0 where
  pub side : SideKept n s.side t.side
  pub stand : t.stand ≡ s.stand
  pub place : t.place ≡ s.place
  pub start : t.start ≡ s.start
  pub spare : t.spare ≡ s.spare
  pub under : t.under ≡ s.under
  pub at : t.at ≡ s.at

-- the next service of its script stays too
abbrev pub StopStays : {G : Ghosts InHand} → Stop InHand G → Stop InHand G → Type 0
StopStays s t = StopKept s.side.hand.laying.number s t

-- where the tour stands
pub record TourKept (m n : MasterNode) : Type 0 where
  pub again : n.tour.again ≡ m.tour.again
  pub visit : n.tour.visit ≡ m.tour.visit
  pub opened : n.tour.opened ≡ m.tour.opened
  pub last : n.tour.last ≡ m.tour.last
  pub missed : n.tour.missed ≡ m.tour.missed
  pub retry : n.tour.retry ≡ m.tour.retry
  pub count : n.tour.count ≡ m.tour.count
  pub passed : n.tour.passed ≡ m.tour.passed
  pub made : n.made ≡ m.made

-- it does while a slave is visited, but for what the frame carries
pub record TourOn (m n : MasterNode) : Type 0 where
  pub again : n.tour.again ≡ m.tour.again
  pub opened : n.tour.opened ≡ m.tour.opened
  pub last : n.tour.last ≡ m.tour.last
  pub missed : n.tour.missed ≡ m.tour.missed
  pub retry : n.tour.retry ≡ m.tour.retry
  pub made : n.made ≡ m.made

-- THE MASTER: its slaves, its tour, that no mail waits to be passed on, how many packets came into hand of each slave, and which number its oldest mail has
pub record NodeKept (m n : MasterNode) : Type 0 where
  pub each : EachPair (λ s t. StopStays s t) m.tour.stops.items n.tour.stops.items
  pub tour : TourKept m n
  pub quiet : All WaitsNone m.posts.items → All WaitsNone n.posts.items
  pub counts : (k : ℕ) → forwards_at n.posts.items k ≡ forwards_at m.posts.items k
  pub numbered : EachPair (λ p q. StaysNumbered p q) m.posts.items n.posts.items
