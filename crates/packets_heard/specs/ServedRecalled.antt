-- A SERVING OF ONE TOUR, with what its master remembers of its slaves' visits and what happens at its switch, frame by frame.
use Rattle.std.specs.Prelude.{◌≡◌, ℕ, true, List, [], ◌++◌, length, map}
use Rattle.master_node.specs.of_life_runs.First.{lens_of, first_leads}
use Rattle.master_node.specs.of_life_runs.Led.{Exchanged, gives_up_at}
use Rattle.master_node.specs.Eager.{AllTakeUp}
use Rattle.master_node.specs.ServedEager.{AllServedAsk, AllServedBegin, AllServedRecall, AllServedRest, AllServedStill}
use Rattle.master_node.specs.Serving.{run_lead, run_turn}
use Rattle.master_node.specs.Starts.{AllUnvisited}
use Rattle.master_node.specs.declared.lan.Lan.{Lan}
use Rattle.master_node.specs.of_frame_view.Seen.{seen}
use Rattle.master_node.specs.of_master_tour.Toured.{Tour}
use Rattle.slave_server.specs.of_segment_plan.declared.plan.Scenario.{Scenario}
use Rattle.master_node.specs.of_segment_ring.Ring.{ring_behind}
use Rattle.master_node.specs.of_segment_ring.declared.wire.Fate.TheVariants.{Pass, Lost}
use Rattle.master_node.specs.of_life_runs.Served.{Serves, ServedTurn, all_serve, served_behind}
use Rattle.slave_server.specs.of_slave_node.Node.{node_passed}
use Rattle.packets_heard.specs.Recalled.{AllSettled, AtSwitch, IsFirst, IsLanOf, State, has_entered, stepped}
use Rattle.packets_heard.specs.Served.{IsTourServed}

-- ONE FRAME MORE of a serving, behind so many that were lost in a row: its master makes no visit in vain, by what it remembers, which goes on as the frame comes back or
-- is lost; without a visit nothing comes into hand, and where what may begin at a visit didn't, nothing is left that might; and where all slaves rest before it a packet
-- of the host comes in
pub record IsServedRecalled (plan : Scenario) (missed made : ℕ) (ws : List Serves) (f : Exchanged) (vs : List ServedTurn) (r s : State) : Type 0 where
  pub visits : AllServedAsk (seen (lens_of plan.slaves) f.sent) r.recalls (map run_turn vs)
  pub takes : AllTakeUp (lens_of plan.slaves) r.recalls (map run_turn vs)
  pub unvisited : AllUnvisited (map run_turn vs)
  pub still : AllServedStill r.recalls (map run_lead ws)
  pub events : AtSwitch plan f (map run_turn vs) r.events s.events
  pub lan : Lan
  pub lan_is : IsLanOf plan lan (r.events ++ events.making)
  pub begins : AllServedBegin (lens_of plan.slaves) lan 0 r.recalls ws (map run_turn vs)
  pub before : Lan
  pub before_is : IsLanOf plan before r.events
  pub rests : AllServedRest (lens_of plan.slaves) before 0 r.recalls ws → AllSettled (map run_lead ws) r.ring.nodes → has_entered events.making ≡ true
  pub returned : f.fate ≡ Pass → AllServedRecall (lens_of plan.slaves) (seen (lens_of plan.slaves) f.back) (served_behind (lens_of plan.slaves) plan.recover plan.retry (gives_up_at (lens_of plan.slaves) plan.recover plan.retry missed) made f) vs r.recalls s.recalls
  pub lost : (after : ℕ) → f.fate ≡ Lost after → AllServedRecall (lens_of plan.slaves) [] (served_behind (lens_of plan.slaves) plan.recover plan.retry (gives_up_at (lens_of plan.slaves) plan.recover plan.retry missed) made f) vs r.recalls s.recalls
  pub ring : s.ring ≡ ring_behind node_passed stepped r.ring f.sent

-- THE FRAMES OF A SERVING'S TOUR, one after the other: a mail that is asked changes nothing of what is remembered, of the switch or of the ring
module _ (plan : Scenario) where
  abbrev pub ServedRecalledIn : {fs : List Exchanged} {t : Tour} {ws : List Serves} → IsTourServed (lens_of plan.slaves) plan.recover plan.retry (all_serve plan.paces (first_leads plan)) fs t ws → State → Type 0
  ServedRecalledIn IsTourServed.start s = IsFirst plan s
  ServedRecalledIn (IsTourServed.asks fs t ws place k before may) s = ServedRecalledIn before s
  ServedRecalledIn (IsTourServed.on fs t ws f vs visit before led of) s = (r : State) × IsServedRecalled plan t.missed (length fs) ws f vs r s × ServedRecalledIn before r
