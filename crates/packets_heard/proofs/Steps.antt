-- One frame of a master's, by what it says of that.
use Rattle.std.proofs.Common.{◌≡◌, ℕ, zero, suc, ◌&&◌, false, is_some, Option, Some, None, List, [], ◌∷◌, ◌++◌, map, refl, sym, ap, ◌∙◌}
use Rattle.std.specs.Prelude.{All, slice_get, ◌||◌}
use Rattle.std.proofs.lemmas.List.Elements.{All-head, All-tail, All-cons, All-nil}
use Rattle.arrayvec.specs.ArrayVec.{ArrayVec}
use Rattle.master_node.specs.of_eoe.declared.joining.Unfinished.{Unfinished}
use Rattle.master_node.specs.of_eoe_switch.Switch.{switched}
use Rattle.master_node.specs.of_eoe_switch.declared.switching.SwitchEvent.{SwitchEvent}
use Rattle.master_node.specs.of_frame_view.Seen.{seen}
use Rattle.master_node.specs.of_frame_view.View.{Lens}
use Rattle.master_node.specs.of_life_runs.First.{lens_of}
use Rattle.master_node.specs.of_life_runs.Led.{Exchanged, Leads, Turn}
use Rattle.master_node.specs.of_master_hand.Joins.{packets_in}
use Rattle.master_node.specs.of_master_hand.declared.hand.InHand.{InHand}
use Rattle.master_node.specs.Arrivals.{ComeIn, arrivals_in, arrive_by, completed_at}
use Rattle.master_node.specs.Begins.{PacketsBegin, begins_in, begun_of, taken_in}
use Rattle.master_node.specs.Eager.{recall_of, recalls}
use Rattle.master_node.specs.Forwards.{port_by}
use Rattle.master_node.specs.Happened.{events_of}
use Rattle.master_node.specs.Made.{AreOfMaking, IsOfMaking}
use Rattle.master_node.specs.Ports.{ports_behind, ports_of}
use Rattle.master_node.specs.Shows.{IsLead, MasterShows, side_shows}
use Rattle.master_node.specs.declared.happened.Happening.{Happening}
use Rattle.master_node.specs.declared.node.MasterNode.{MasterNode}
use Rattle.master_node.specs.of_frame_view.Shares.{AllBoth}
use Rattle.master_node.specs.of_life_model.Lives.{Stand}
use Rattle.master_node.specs.of_master_duty.declared.duty.Duty.{Duty}
use Rattle.slave_server.specs.of_link_mails.Body.{Body}
use Rattle.master_node.specs.of_master_tour.Stands.{StandShows}
use Rattle.master_node.specs.of_master_tour.declared.stop.Stand as Stops
use Rattle.master_node.specs.of_master_tour.declared.stop.Stop.{Stop}
use Rattle.slave_server.specs.of_segment_model.Slaves.{Datagram}
use Rattle.master_node.specs.of_master_side.Carried.{in_hand}
use Rattle.master_node.specs.of_master_side.Shown.{DutyShows}
use Rattle.master_node.specs.of_master_side.declared.hand.Hand.{Ghosts}
use Rattle.packets_heard.specs.Recalled.{AllQuiet, AllStill, AtSwitch, IsLanOf}
use Rattle.slave_server.specs.of_segment_plan.declared.plan.Scenario.{Scenario}
use Rattle.master_node.specs.of_segment_ring.declared.wire.Fate.TheVariants.{Pass}

-- ---- what happened while a frame was made
all_events : (rows : List Happening) → AreOfMaking rows → All IsOfMaking (events_of rows)
all_events [] a = All-nil IsOfMaking
all_events (r ∷ rs) a = All-cons IsOfMaking r.event (events_of rs) (All-head (λ (h : Happening). IsOfMaking h.event) r rs a) (all_events rs (All-tail (λ (h : Happening). IsOfMaking h.event) r rs a))

none_completed : (back : List (Datagram Body)) (us : List Turn) (js : List (Option Unfinished)) → AllQuiet back us → (k : ℕ) → completed_at back us js k ≡ []
none_completed back [] js q k = refl
none_completed back (u ∷ us) [] q k = refl
none_completed back (u ∷ us) (j ∷ js) q zero = ap (packets_in j) q.0
none_completed back (u ∷ us) (j ∷ js) q (suc k) = none_completed back us js q.1 k

none_at : (o : Option ℕ) (ps : List (List ℕ)) → ps ≡ [] → arrive_by o ps ≡ []
none_at None ps e = refl
none_at (Some port) ps e = ap (arrive_by (Some port)) e

none_arrive : (ports : List (Option ℕ)) (packets : ℕ → List (List ℕ)) → ((k : ℕ) → packets k ≡ []) → (visit : List ℕ) → arrivals_in ports packets visit ≡ []
none_arrive ports packets none [] = refl
none_arrive ports packets none (p ∷ ps) = (λ i. none_at (port_by (slice_get ports p)) (packets p) (none p) i ++ none_arrive ports packets none ps i)

module _ (plan : Scenario) (m0 m1 m2 : MasterNode) (f : Exchanged) (us : List Turn) (js : List (Option Unfinished)) (es es' : List SwitchEvent) (ports : m0.lan.ports.items ≡ ports_behind 0 plan.slaves) (making : (m1.lan.ports ≡ m0.lan.ports) × AreOfMaking m1.lan.happened)
    (stood : (switched (ports_of plan.slaves) es).switch ≡ m0.lan.switch) (stands : (switched (ports_of plan.slaves) (es ++ events_of m1.lan.happened)).switch ≡ m1.lan.switch) where
  pub before_is : IsLanOf plan m0.lan es
  before_is = record { ports = ports; switch = sym stood }

  pub made_is : IsLanOf plan m1.lan (es ++ events_of m1.lan.happened)
  made_is = record { ports = ap (λ (p : ArrayVec (Option ℕ)). p.items) making.0 ∙ ports; switch = sym stands }

  pub at_switch : PacketsBegin m0.lan.switch us m1.lan → (f.fate ≡ Pass → ComeIn m1 (λ k. completed_at (seen (lens_of plan.slaves) f.back) us js k) m2) → es' ≡ es ++ (events_of m1.lan.happened ++ events_of m2.lan.happened) →
      (at : AtSwitch plan f us es es') × (at.making ≡ events_of m1.lan.happened)
  at_switch begins arrivals grown = (
    record {
      making = events_of m1.lan.happened;
      only = all_events m1.lan.happened making.1;
      visited = begins.visited;
      once = begins.once;
      taken = ap (λ s. taken_in s (events_of m1.lan.happened)) stood ∙ begins.taken ∙ ap (λ ps. begins_in ps (begun_of us) begins.visited) made_is.ports;
      others = begins.others;
      behind = events_of m2.lan.happened;
      whole = grown;
      quiet = λ pass quiet.
          (arrivals pass).events ∙ none_arrive m1.lan.ports.items (λ k. completed_at (seen (lens_of plan.slaves) f.back) us js k) (none_completed (seen (lens_of plan.slaves) f.back) us js quiet) m1.tour.visit.items;
    },
    refl,
  )

-- ---- with no state service in hand an open slave has no turn
module _ (lens : ℕ → Lens) (recover : ℕ) {G : Ghosts InHand} (a : Leads) (s : Stop InHand G) where
  hand_none : IsLead lens recover a s → a.lived.life.stand ≡ Stand.Open → a.lived.life.era.account.hand ≡ None → in_hand s.side.duty ≡ None
  hand_none lead opened none = by s.stand lead.lives.shown.stood
    where
      shown : (o : Option Duty) → DutyShows o a.lived.life.era.account.hand → o ≡ None
      shown None e = refl
      shown (Some duty) (frame, is) = absurd (let no : Some _ ≡ None = sym is ∙ none in cc)

      by : (z : Stops.Stand) → StandShows (side_shows lens recover s a.lived.spot) a.lived.spot z a.lived.life → in_hand s.side.duty ≡ None
      by (Stops.Stand.Opening up) x = absurd (let no = sym x.stand ∙ opened in cc)
      by Stops.Stand.Open x = shown (in_hand s.side.duty) x.1.state
      by Stops.Stand.Gone x = absurd (let no : Stand.Gone ≡ Stand.Open = sym x ∙ opened in cc)

  still_one : IsLead lens recover a s → a.lived.life.stand ≡ Stand.Open → a.lived.life.era.account.hand ≡ None → (recall_of s).turn ≡ false
  still_one lead opened none = λ i. (is_some (hand_none lead opened none i) || is_some (lead.unpassed i)) && s.side.turn

all_still : (lens : ℕ → Lens) (recover : ℕ) {G : Ghosts InHand} (as' : List Leads) (ss : List (Stop InHand G)) → AllBoth (λ a s. IsLead lens recover a s) as' ss → AllStill (map (λ s. recall_of s) ss) as'
all_still lens recover [] [] k = tt
all_still lens recover [] (s ∷ ss) k = absurd k
all_still lens recover (a ∷ as') [] k = absurd k
all_still lens recover (a ∷ as') (s ∷ ss) k = (still_one lens recover a s k.0, all_still lens recover as' ss k.1)

pub still_of : (lens : ℕ → Lens) (recover retry missed : ℕ) (m : MasterNode) (as' : List Leads) → MasterShows lens recover retry m missed as' → AllStill (recalls m) as'
still_of lens recover retry missed m as' shows = all_still lens recover as' m.tour.stops.items shows.each
