-- A RUN OF ONE TOUR, with what its master remembers of its slaves' visits and what happens at its switch, frame by frame.
use Rattle.std.specs.Prelude.{◌≡◌, ◌⊎◌, ℕ, ◌==◌, Bool, true, false, Option, None, List, [], ◌∷◌, ◌++◌, map, All, ⊤}
use Rattle.std.specs.List.{list_any}
use Rattle.master_node.specs.of_eoe_switch.Switch.{switched}
use Rattle.master_node.specs.of_eoe_switch.declared.switching.SwitchEvent.{SwitchEvent}
use Rattle.master_node.specs.of_eoe_switch.declared.switching.SwitchEvent.TheVariants.{Arrive, Begun, Down}
use Rattle.master_node.specs.of_life_runs.First.{lens_of, first_leads}
use Rattle.master_node.specs.of_life_runs.Led.{Exchanged, Leads, Turn}
use Rattle.master_node.specs.Begins.{begins_by, begins_in, begun_of, taken_in}
use Rattle.master_node.specs.Eager.{AllTakeUp, AllVisit}
use Rattle.master_node.specs.Joined.{mails_back}
use Rattle.master_node.specs.Made.{IsOfMaking}
use Rattle.master_node.specs.Ports.{ports_behind, ports_of}
use Rattle.master_node.specs.Recalled.{AllKnow, AllRecall}
use Rattle.master_node.specs.Resting.{AllRest}
use Rattle.master_node.specs.Starts.{AllBegin, AllUnvisited}
use Rattle.master_node.specs.declared.lan.Lan.{Lan}
use Rattle.master_node.specs.of_frame_view.Seen.{seen}
use Rattle.master_node.specs.of_life_model.Lives.{Stand}
use Rattle.slave_server.specs.of_link_mails.Body.{Body}
use Rattle.master_node.specs.of_master_tour.Made.{is_in}
use Rattle.master_node.specs.of_master_tour.Orders.{AreOnce}
use Rattle.master_node.specs.of_master_tour.Toured.{Tour}
use Rattle.slave_server.specs.of_segment_model.Slaves.{Datagram}
use Rattle.master_node.specs.of_master_side.Recall.{Recall}
use Rattle.slave_server.specs.of_segment_plan.declared.plan.Scenario.{Scenario}
use Rattle.master_node.specs.of_segment_ring.Ring.{RingState, ring_behind}
use Rattle.master_node.specs.of_segment_ring.declared.wire.Fate.TheVariants.{Pass, Lost}
use Rattle.slave_server.specs.of_slave_node.Node.{Node, node_passed, is_settled}
use Rattle.slave_server.specs.of_slave_node.Step.{pdi_step}
use Rattle.slave_server.specs.Serving.{Serving, takes, next_mail, rest, cleared}
use Rattle.slave_server.specs.Spec.{node_of}
use Rattle.packets_heard.specs.Toured.{IsToured}

-- between two frames: what is remembered of each slave, the events of the switch so far, and the ring with its slaves
pub record State : Type 0 where
  pub recalls : List Recall
  pub events : List SwitchEvent
  pub ring : RingState (Node Serving)

-- a packet of the host comes in
abbrev pub enters : SwitchEvent → Bool
enters (Arrive port packet) = port == 0
enters (Begun port) = false
enters (Down port) = false

-- by one of these events
abbrev pub has_entered : List SwitchEvent → Bool
has_entered es = list_any enters es

-- no mail was accepted of any slave
abbrev pub AllQuiet : List (Datagram Body) → List Turn → Type 0
AllQuiet back [] = ⊤
AllQuiet back (u ∷ us) = (mails_back back u ≡ []) × AllQuiet back us

-- each slave is settled that wasn't given up for good
abbrev pub AllSettled : List Leads → List (Node Serving) → Type 0
AllSettled [] [] = ⊤
AllSettled (a ∷ as') (n ∷ ns) = ((a.lived.life.stand ≡ Stand.Gone) ⊎ (is_settled next_mail n ≡ true)) × AllSettled as' ns
AllSettled _ _ = ⊥

-- the switch that these events lead to, with the ports of a plan's slaves
pub record IsLanOf (plan : Scenario) (l : Lan) (es : List SwitchEvent) : Type 0 where
  pub ports : l.ports.items ≡ ports_behind 0 plan.slaves
  pub switch : l.switch ≡ (switched (ports_of plan.slaves) es).switch

-- an open slave with no state service in hand has no turn
abbrev pub AllStill : List Recall → List Leads → Type 0
AllStill [] [] = ⊤
AllStill (m ∷ ms) (a ∷ as') = (a.lived.life.stand ≡ Stand.Open → a.lived.life.era.account.hand ≡ None → m.turn ≡ false) × AllStill ms as'
AllStill _ _ = ⊥

-- a step of a slave's processor
abbrev pub stepped : Node Serving → Node Serving
stepped = pdi_step takes next_mail rest cleared

-- what happened at the switch while a frame was made, and behind its return or its loss
pub record AtSwitch (plan : Scenario) (f : Exchanged) (us : List Turn) (old new : List SwitchEvent) : Type 0 where
  pub making : List SwitchEvent
  pub only : All IsOfMaking making
  pub visited : List ℕ
  pub once : AreOnce visited
  pub taken : taken_in (switched (ports_of plan.slaves) old).switch making ≡ begins_in (ports_behind 0 plan.slaves) (begun_of us) visited
  pub others : (k : ℕ) (port : Option ℕ) → is_in k visited ≡ false → begins_by port (begun_of us k) ≡ []
  pub behind : List SwitchEvent
  pub whole : new ≡ old ++ (making ++ behind)
  pub quiet : f.fate ≡ Pass → AllQuiet (seen (lens_of plan.slaves) f.back) us → behind ≡ []

-- ONE FRAME MORE: its master makes no visit in vain, by what it remembers, which goes on as the frame comes back or is lost; without a visit nothing comes into
-- hand, and where what may begin at a visit didn't, nothing is left that might; and where all slaves rest before it a packet of the host comes in
pub record IsRecalledFrame (plan : Scenario) (as' : List Leads) (f : Exchanged) (us : List Turn) (r s : State) : Type 0 where
  pub visits : AllVisit (seen (lens_of plan.slaves) f.sent) r.recalls us
  pub takes : AllTakeUp (lens_of plan.slaves) r.recalls us
  pub unvisited : AllUnvisited us
  pub still : AllStill r.recalls as'
  pub events : AtSwitch plan f us r.events s.events
  pub made : Lan
  pub made_is : IsLanOf plan made (r.events ++ events.making)
  pub begins : AllBegin (lens_of plan.slaves) made 0 r.recalls as' us
  pub before : Lan
  pub before_is : IsLanOf plan before r.events
  pub rests : AllRest (lens_of plan.slaves) before 0 r.recalls as' → AllSettled as' r.ring.nodes → has_entered events.making ≡ true
  pub returned : f.fate ≡ Pass → AllRecall (lens_of plan.slaves) (seen (lens_of plan.slaves) f.back) us r.recalls s.recalls
  pub lost : (after : ℕ) → f.fate ≡ Lost after → AllRecall (lens_of plan.slaves) [] us r.recalls s.recalls
  pub ring : s.ring ≡ ring_behind node_passed stepped r.ring f.sent

-- before the first frame the hands of all slaves know their mails, and nothing happened at the switch
pub record IsFirst (plan : Scenario) (s : State) : Type 0 where
  pub known : AllKnow s.recalls
  pub events : s.events ≡ []
  pub ring : s.ring ≡ record { nodes = map node_of plan.slaves; paces = plan.paces; lose = plan.lose; number = 0 }

-- THE FRAMES OF A TOUR, one after the other
module _ (plan : Scenario) where
  abbrev pub RecalledIn : {fs : List Exchanged} {t : Tour} {as' : List Leads} → IsToured (lens_of plan.slaves) plan.recover plan.retry (first_leads plan) fs t as' → State → Type 0
  RecalledIn IsToured.start s = IsFirst plan s
  RecalledIn (IsToured.on fs t as' f us visit before led of) s = (r : State) × IsRecalledFrame plan as' f us r s × RecalledIn before r
