-- THE FRAMES OF A SERVING ARE LED by its master: each is just what the lives of the slaves ask for, from the plan's new lives on, with the mails that are asked
-- between the frames. A run is a serving to which none is asked.
use Rattle.std.specs.Prelude.{ℕ, List, map, length}
use Rattle.packets_heard.specs.of_master_node.Serving.{ServedShows, run_lead, run_turn}
use Rattle.packets_heard.specs.of_master_node.Toured.{tour_of}
use Rattle.packets_heard.specs.of_master_node.declared.node.MasterNode.{MasterNode}
use Rattle.served_places.specs.of_life_runs.First.{lens_of, first_leads}
use Rattle.served_places.specs.of_life_runs.Led.{Exchanged}
use Rattle.served_places.specs.of_master_tour.Toured.{Tour}
use Rattle.packets_heard.specs.Served.{IsTourServed}
use Rattle.packets_heard.specs.Toured.{IsTourFrame}
use Rattle.packets_heard.specs.of_segment_plan.declared.plan.Scenario.{Scenario}
use Rattle.served_places.specs.of_life_runs.Served.{Serves, ServedTurn, IsServedFrame, all_serve}
pub use Rattle.served_places.specs.of_life_runs.Served.{ServeTo}

-- THE FRAMES ARE THE VISITS OF ONE TOUR, from its begin on, which stands so behind them
abbrev pub ServedTouredTo : Scenario → List Exchanged → Tour → List Serves → Type 0
ServedTouredTo plan fs tour ws = IsTourServed (lens_of plan.slaves) plan.recover plan.retry (all_serve plan.paces (first_leads plan)) fs tour ws

-- A MASTER BEHIND THESE FRAMES of a plan's serving leads its slaves, and its frames are the visits of its tour
pub record ServedLeading (plan : Scenario) (m : MasterNode) (fs : List Exchanged) : Type 0 where
  pub missed : ℕ
  pub serves : List Serves
  pub lives : ServeTo plan fs missed serves
  pub shows : ServedShows (lens_of plan.slaves) plan.recover plan.retry m missed (length fs) serves
  pub toured : ServedTouredTo plan fs (tour_of m) serves

-- ONE FRAME MORE IS LED from there: it is just what the lives ask for, and a visit of the tour
pub record LeadsFrame (plan : Scenario) (m : MasterNode) (fs : List Exchanged) (f : Exchanged) (l : ServedLeading plan m fs) : Type 0 where
  pub turns : List ServedTurn
  pub frame : IsServedFrame (lens_of plan.slaves) (length fs) f.sent l.serves turns
  pub visit : List ℕ
  pub of_tour : IsTourFrame (lens_of plan.slaves) (map run_lead l.serves) f.sent (map run_turn turns) (tour_of m) visit
