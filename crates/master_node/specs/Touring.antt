-- A FRAME OF A SERVING IS A VISIT OF ITS MASTER'S TOUR.
use Rattle.std.specs.Prelude.{◌≡◌, ℕ, List, map, length}
use Rattle.life_runs.specs.of_frame_view.Seen.{seen}
use Rattle.life_runs.specs.of_frame_view.View.{Lens}
use Rattle.life_runs.specs.of_master_tour.Goes.{holds_at}
use Rattle.life_runs.specs.of_master_tour.Sizes.{frame_size}
use Rattle.life_runs.specs.of_master_tour.Toured.{IsOfTour}
use Rattle.life_runs.specs.Served.{Serves, ServedTurn}
use Rattle.master_node.specs.Asks.{AllAsk}
use Rattle.master_node.specs.Begins.{PacketsBegin}
use Rattle.master_node.specs.Eager.{AllTakeUp, recalls}
use Rattle.master_node.specs.Entering.{EntersFirst, HostMayEnter}
use Rattle.master_node.specs.Rooms.{area_at}
use Rattle.master_node.specs.ServedEager.{AllServedAsk, AllServedBegin, AllServedRest, AllServedStill}
use Rattle.master_node.specs.Serving.{run_lead, run_turn}
use Rattle.master_node.specs.Starts.{AllUnvisited}
use Rattle.master_node.specs.Shows.{is_live_lead}
use Rattle.master_node.specs.Toured.{tour_of, turn_share}
use Rattle.master_node.specs.declared.node.MasterNode.{MasterNode}

-- THE FRAME CARRIES THE SLAVES OF ITS VISIT, of the tour as it stood before and stands while it is under way, and asks by the inward half first; at its visit
-- each slave has taken up its next mail, and what is remembered of the visits stays; just the packets that came into hand begin. With nothing in doubt it asks a
-- slave by what is remembered of its visits; where a service might begin at a visit and none did, nothing is left that might; without a visit nothing comes into
-- hand; and where each slave rests a packet of the host comes in, if one is left
pub record IsServedVisit (lens : ℕ → Lens) (octets : List ℕ) (ws : List Serves) (vs : List ServedTurn) (m n : MasterNode) : Type 0 where
  pub tour : tour_of n ≡ tour_of m
  pub visits : IsOfTour (λ u. turn_share u) (λ k. holds_at is_live_lead (map run_lead ws) k) (frame_size octets) (λ k. area_at lens (map run_lead ws) k) (tour_of m) (map run_turn vs) (length (seen lens octets)) n.tour.visit.items
  pub asks : AllAsk (seen lens octets) (map run_turn vs)
  pub takes : AllTakeUp lens (recalls n) (map run_turn vs)
  pub recalled : recalls n ≡ recalls m
  pub packets : PacketsBegin m.lan.switch (map run_turn vs) n.lan
  pub asked : AllServedAsk (seen lens octets) (recalls n) (map run_turn vs)
  pub begins : AllServedBegin lens n.lan 0 (recalls n) ws (map run_turn vs)
  pub unvisited : AllUnvisited (map run_turn vs)
  pub still : AllServedStill (recalls m) (map run_lead ws)
  pub enters : AllServedRest lens m.lan 0 (recalls m) ws → HostMayEnter m.lan → EntersFirst n.lan.happened
