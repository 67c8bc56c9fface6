-- What the switch lists of one frame, of a run or a serving, by the lives of its slaves.
use Rattle.std.proofs.Common.{◌≡◌, ℕ, Option, List, ◌++◌, refl, ap, ◌∙◌}
use Rattle.std.specs.Prelude.{All}
use Rattle.arrayvec.specs.ArrayVec.{ArrayVec}
use Rattle.packets_heard.specs.of_eoe_switch.Switch.{switched}
use Rattle.packets_heard.specs.of_eoe_switch.declared.switching.SwitchEvent.{SwitchEvent}
use Rattle.packets_heard.specs.of_master_node.Arrivals.{completed_at, ComeIn}
use Rattle.packets_heard.specs.of_master_node.Begins.{PacketsBegin}
use Rattle.packets_heard.specs.of_master_node.Downs.{GoDown, goes_down}
use Rattle.packets_heard.specs.of_master_node.Happened.{events_of}
use Rattle.packets_heard.specs.of_master_node.Made.{AreOfMaking}
use Rattle.packets_heard.specs.of_master_node.Ports.{ports_behind, ports_of}
use Rattle.packets_heard.specs.of_master_node.declared.node.MasterNode.{MasterNode}
use Rattle.plan_ring.specs.of_frame_view.Seen.{seen}
use Rattle.served_places.specs.of_life_runs.First.{lens_of}
use Rattle.served_places.specs.of_life_runs.Led.{Exchanged, Leads, Turn}
use Rattle.packets_heard.proofs.Carries.{listed_on}
use Rattle.packets_heard.proofs.PacketsRuns.{begun_on, none_behind}
use Rattle.packets_heard.specs.Heard.{Joined}
use Rattle.packets_heard.specs.Listed.{CarriesAll, ListedOn, packets_by, unfinished_of}
use Rattle.packets_heard.specs.Over.{BegunOn, IsNoBegun}
use Rattle.packets_heard.specs.of_segment_plan.declared.plan.Scenario.{Scenario}
use Rattle.served_places.specs.of_segment_ring.declared.wire.Fate.{Fate}
use Rattle.served_places.specs.of_segment_ring.declared.wire.Fate.TheVariants as Fates

-- ONE FRAME, while it is under way and behind it: what comes in or goes down is by the lives of its slaves, which are those of its visit
pub record FrameLists (plan : Scenario) (f : Exchanged) (us : List Turn) (leads : List Leads) (js : List Joined) (m n : MasterNode) : Type 0 where
  pub ports : m.lan.ports.items ≡ ports_behind 0 plan.slaves
  pub making : AreOfMaking m.lan.happened
  pub arrives : f.fate ≡ Fates.Pass → ComeIn m (λ k. completed_at (seen (lens_of plan.slaves) f.back) us (unfinished_of js) k) n
  pub downs : (after : ℕ) → f.fate ≡ Fates.Lost after → GoDown m us leads n
  pub carries : CarriesAll m.tour.visit.items us (λ k. packets_by (lens_of plan.slaves) plan.recover plan.retry (ports_behind 0 plan.slaves) f f.fate us js k)

module _ (plan : Scenario) (f : Exchanged) (us : List Turn) (leads : List Leads) (js : List Joined) (m n : MasterNode) (x : FrameLists plan f us leads js m n) where
  abbrev ports : List (Option ℕ)
  ports = ports_behind 0 plan.slaves

  abbrev more : List SwitchEvent
  more = events_of m.lan.happened ++ events_of n.lan.happened

  pub frame_lists : (old : List SwitchEvent → Type 0) (es : List SwitchEvent) → old es → ListedOn (lens_of plan.slaves) plan.recover plan.retry ports old f us leads js (es ++ more)
  frame_lists old es before = listed_on (lens_of plan.slaves) plan.recover plan.retry ports old f us leads js m n x.ports x.making x.arrives x.downs x.carries es before

  pub none_begins : All IsNoBegun (events_of n.lan.happened)
  none_begins =
      none_behind m.lan.ports.items (λ k. completed_at (seen (lens_of plan.slaves) f.back) us (unfinished_of js) k) (goes_down us leads) m.tour.visit.items (events_of n.lan.happened) f.fate (λ e. (x.arrives e).events) (λ after e. (x.downs after e).events)

  pub frame_begins : (old : List SwitchEvent → Type 0) (es : List SwitchEvent) → old es → PacketsBegin (switched (ports_of plan.slaves) es).switch us m.lan → (switched (ports_of plan.slaves) (es ++ events_of m.lan.happened)).switch ≡ m.lan.switch →
      BegunOn old ports (ports_of plan.slaves) us (es ++ more)
  frame_begins old es before begins stands = begun_on old ports (ports_of plan.slaves) us m.lan n.lan es (events_of n.lan.happened) before x.ports begins stands none_begins

  stay : (fate : Fate) → f.fate ≡ fate → n.lan.ports ≡ m.lan.ports
  stay Fates.Pass e = (x.arrives e).ports
  stay (Fates.Lost after) e = (x.downs after e).ports

  pub ports_stay : n.lan.ports.items ≡ ports
  ports_stay = ap (λ (p : ArrayVec (Option ℕ)). p.items) (stay f.fate refl) ∙ x.ports
