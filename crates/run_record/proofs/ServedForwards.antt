-- What comes in of slaves and which of their ports go down over the frames of a serving, by what happened at its switch.
use Rattle.std.proofs.Common.{◌≡◌, ℕ, suc, Option, None, List, [], ◌∷◌, ◌++◌, map, length, refl, sym, ap, subst, ◌∙◌, append_assoc}
use Rattle.std.proofs.lemmas.List.{map-append}
use Rattle.arrayvec.specs.ArrayVec.{ArrayVec}
use Rattle.packets_heard.specs.of_eoe_switch.Switch.{Switched, switched}
use Rattle.packets_heard.specs.of_eoe_switch.declared.switching.SwitchEvent.{SwitchEvent}
use Rattle.packets_heard.proofs.of_master_node.OnFrames.{served_way}
use Rattle.packets_heard.specs.of_master_node.Arrivals.{completed_at, ComeIn}
use Rattle.packets_heard.specs.of_master_node.Begins.{PacketsBegin}
use Rattle.packets_heard.specs.of_master_node.Brought.{HasBrought}
use Rattle.packets_heard.specs.of_master_node.Downs.{GoDown}
use Rattle.packets_heard.specs.of_master_node.Eager.{recalls}
use Rattle.packets_heard.specs.of_master_node.Happened.{HappensSo, HasHappened, events_of}
use Rattle.packets_heard.specs.of_master_node.Joined.{HasUnfinished, IsUnfinished, JoinsKept, stand_before, stand_under, unfinished_after}
use Rattle.packets_heard.specs.of_master_node.Made.{AreOfMaking}
use Rattle.packets_heard.specs.of_master_node.Origins.{forwards_at}
use Rattle.packets_heard.specs.of_master_node.Ports.{ports_behind, ports_of}
use Rattle.packets_heard.specs.of_master_node.Rooms.{area_at}
use Rattle.packets_heard.specs.of_master_node.ServedEager.{AllServedAsk, AllServedRecall}
use Rattle.packets_heard.specs.of_master_node.Serving.{ServedUnder, run_lead, run_turn}
use Rattle.packets_heard.specs.of_master_node.Shows.{IsUnderWay, is_live_lead}
use Rattle.packets_heard.specs.of_master_node.Toured.{tour_of}
use Rattle.packets_heard.specs.of_master_node.Touring.{IsServedVisit}
use Rattle.packets_heard.specs.of_master_node.declared.happened.Happening.{Happening}
use Rattle.packets_heard.specs.of_master_node.declared.node.MasterNode.{MasterNode}
use Rattle.plan_ring.specs.of_frame_view.Seen.{seen}
use Rattle.plan_ring.specs.of_frame_view.View.{Lens}
use Rattle.plan_ring.specs.of_frame_view.Shares.{AllThree}
use Rattle.served_places.specs.of_life_runs.First.{first_leads, lens_of}
use Rattle.served_places.specs.of_life_runs.Led.{Exchanged, Leads, Turn, gives_up_at}
use Rattle.served_places.specs.of_master_hand.declared.hand.InHand.{InHand}
use Rattle.served_places.specs.of_master_side.declared.hand.Hand.{Ghosts}
use Rattle.served_places.specs.of_master_tour.Goes.{holds_at}
use Rattle.served_places.specs.of_master_tour.Sizes.{frame_size}
use Rattle.served_places.specs.of_master_tour.declared.stop.Stop.{Stop}
use Rattle.served_places.specs.of_segment_model.Returned.{Returns}
use Rattle.packets_heard.proofs.Carries.{carries_all, events_making, serves_asked}
use Rattle.packets_heard.proofs.PacketsRuns.{begun_on}
use Rattle.packets_heard.proofs.Steps.{at_switch, before_is, made_is}
use Rattle.packets_heard.proofs.Unfinished.{joined_so, served_under_way}
use Rattle.packets_heard.specs.Heard.{Joined, joined_none, mails_by}
use Rattle.packets_heard.specs.Listed.{CarriesAll, packets_by, unfinished_of}
use Rattle.packets_heard.specs.Recalled.{AtSwitch, IsLanOf}
use Rattle.packets_heard.specs.Served.{serves_behind}
use Rattle.packets_heard.specs.Servings.{AreServedBegun, ServedListed, ServedNumbered, served_joined}
use Rattle.run_record.proofs.FrameLists.{FrameLists, frame_begins, frame_lists, none_begins, ports_stay}
use Rattle.run_record.proofs.Leads.{none_unfinished}
use Rattle.run_record.proofs.ServedGaves.{serve_leads}
use Rattle.run_record.specs.Served.{IsServedForwarded, ServeTo}
use Rattle.run_record.specs.Session.{FrameEvents, numbers_over}
use Rattle.packets_heard.specs.of_segment_plan.declared.plan.Scenario.{Scenario}
use Rattle.served_places.specs.of_segment_ring.declared.wire.Fate.TheVariants as Fates
use Rattle.served_places.specs.of_life_runs.Served.{Keyed, Serves, ServedTurn, IsServedFrame, IsServedLed, MayAsk, all_serve, asked_at, served_behind}

-- as many slaves
pub as_many : {G : Ghosts InHand} (us : List Turn) (js : List Joined) (ss : List (Stop InHand G)) → AllThree (λ l j s. IsUnfinished l s.side.hand.found.join j) (map stand_under us) (unfinished_of js) ss → length js ≡ length us
as_many [] [] ss h = refl
as_many [] (j ∷ js) [] h = absurd h
as_many [] (j ∷ js) (s ∷ ss) h = absurd h
as_many (u ∷ us) [] [] h = absurd h
as_many (u ∷ us) [] (s ∷ ss) h = absurd h
as_many (u ∷ us) (j ∷ js) [] h = absurd h
as_many (u ∷ us) (j ∷ js) (s ∷ ss) h = ap suc (as_many us js ss h.1)

-- BEFORE THE FIRST FRAME nothing happened
pub served_first : (plan : Scenario) (m : MasterNode) → m.lan.ports.items ≡ ports_behind 0 plan.slaves → HasUnfinished m (map stand_before (first_leads plan)) (map (λ spec. None) plan.slaves) → HasHappened (ports_of plan.slaves) plan.host [] m.lan →
    IsServedForwarded plan m {ws = all_serve plan.paces (first_leads plan)} IsServedLed.start []
served_first plan m ports none happened = record {
  ports = ports;
  unfinished = subst (λ (as' : List Leads). HasUnfinished m (map stand_before as') (unfinished_of (joined_none as'))) (sym (serve_leads plan.paces (first_leads plan)))
      (subst (λ z. HasUnfinished m (map stand_before (first_leads plan)) z) (sym (none_unfinished plan.services 0 plan.slaves)) none);
  listed = refl;
  begun = refl;
  happened = happened;
}

-- A MAIL THAT IS ASKED changes nothing there
pub served_stays : (plan : Scenario) (fs : List Exchanged) (missed : ℕ) (ws : List Serves) (lives : ServeTo plan fs missed ws) (m n : MasterNode) (rows : List Happening) → n.tour ≡ m.tour → n.lan ≡ m.lan → IsServedForwarded plan m lives rows → IsServedForwarded plan n lives rows
served_stays plan fs missed ws lives m n rows tour lan w = record {
  ports = ap (λ l. l.ports.items) lan ∙ w.ports;
  unfinished = subst (λ z. AllThree (λ l j s. IsUnfinished l s.side.hand.found.join j) (map stand_before (map run_lead ws)) (unfinished_of (served_joined lives)) z.stops.items) (sym tour) w.unfinished;
  listed = w.listed;
  begun = w.begun;
  happened = subst (λ l. HasHappened (ports_of plan.slaves) plan.host rows l) (sym lan) w.happened;
}

pub served_asked : (plan : Scenario) (fs : List Exchanged) (missed : ℕ) (ws : List Serves) (lives : ServeTo plan fs missed ws) (place : ℕ) (k : Keyed) (may : MayAsk (lens_of plan.slaves) place k ws) (m : MasterNode) (rows : List Happening) → map run_lead (asked_at place k ws) ≡ map run_lead ws →
    IsServedForwarded plan m lives rows → IsServedForwarded plan m (IsServedLed.asks fs missed ws place k lives may) rows
served_asked plan fs missed ws lives place k may m rows same w = record {
  ports = w.ports;
  unfinished = subst (λ (as' : List Leads). HasUnfinished m (map stand_before as') (unfinished_of (served_joined lives))) (sym same) w.unfinished;
  listed = w.listed;
  begun = w.begun;
  happened = w.happened;
}

-- WHAT THE MASTER SAYS of one frame, whatever lives are with it: as it is made, and of its return or loss
pub record FrameTells (m0 m1 m2 : MasterNode) (f : Exchanged) : Type 0 where
  pub joins : JoinsKept m0 m1
  pub making : (m1.lan.ports ≡ m0.lan.ports) × AreOfMaking m1.lan.happened
  pub makes : HappensSo m0.lan m1.lan
  pub tells : HappensSo m1.lan m2.lan
  pub joined : (lens : ℕ → Lens) (recover retry missed made : ℕ) (vs : List ServedTurn) (js : List Joined) → ServedUnder lens recover retry m1 f.sent missed made vs → (f.fate ≡ Fates.Pass → Returns (seen lens f.sent) (seen lens f.back)) →
      HasUnfinished m1 (map stand_under (map run_turn vs)) (unfinished_of js) → HasUnfinished m2 (map stand_before (map run_lead (serves_behind lens recover retry missed made f vs))) (unfinished_after (λ u. mails_by lens f f.fate u) (map run_turn vs) (unfinished_of js))
  pub arrivals : f.fate ≡ Fates.Pass → (lens : ℕ → Lens) (recover : ℕ) (us : List Turn) (js : List Joined) → IsUnderWay lens recover m1 f.sent us → Returns (seen lens f.sent) (seen lens f.back) → HasUnfinished m1 (map stand_under us) (unfinished_of js) →
      ComeIn m1 (λ k. completed_at (seen lens f.back) us (unfinished_of js) k) m2
  pub brought : f.fate ≡ Fates.Pass → (lens : ℕ → Lens) (recover : ℕ) (us : List Turn) → IsUnderWay lens recover m1 f.sent us → Returns (seen lens f.sent) (seen lens f.back) → HasBrought m2 us (seen lens f.back)
  pub remembers : f.fate ≡ Fates.Pass → (lens : ℕ → Lens) (recover retry missed made : ℕ) (vs : List ServedTurn) → ServedUnder lens recover retry m1 f.sent missed made vs → Returns (seen lens f.sent) (seen lens f.back) → AllServedAsk (seen lens f.sent) (recalls m1) (map run_turn vs) →
      AllServedRecall lens (seen lens f.back) (λ v. served_behind lens recover retry (gives_up_at lens recover retry missed) made f v) vs (recalls m1) (recalls m2)
  pub stays : (after : ℕ) → f.fate ≡ Fates.Lost after → (lens : ℕ → Lens) (recover retry missed made : ℕ) (vs : List ServedTurn) → ServedUnder lens recover retry m1 f.sent missed made vs →
      AllServedRecall lens [] (λ v. served_behind lens recover retry (gives_up_at lens recover retry missed) made f v) vs (recalls m1) (recalls m2)
  pub leaves : (after : ℕ) → f.fate ≡ Fates.Lost after → (lens : ℕ → Lens) (recover retry missed made : ℕ) (vs : List ServedTurn) → ServedUnder lens recover retry m1 f.sent missed made vs →
      GoDown m1 (map run_turn vs) (map run_lead (serves_behind lens recover retry missed made f vs)) m2
  pub counts : (k : ℕ) → forwards_at m2.posts.items k ≡ forwards_at m1.posts.items k

-- ONE FRAME: what the master had of its slaves' packets before, and what it says of the frame
module _ (plan : Scenario) (fs : List Exchanged) (missed : ℕ) (ws : List Serves) (lives : ServeTo plan fs missed ws) (f : Exchanged) (vs : List ServedTurn) (frame : IsServedFrame (lens_of plan.slaves) (length fs) f.sent ws vs)
    (m0 m1 m2 : MasterNode) (under : ServedUnder (lens_of plan.slaves) plan.recover plan.retry m1 f.sent missed (length fs) vs) (visit : IsServedVisit (lens_of plan.slaves) f.sent ws vs m0 m1)
    (back : f.fate ≡ Fates.Pass → Returns (seen (lens_of plan.slaves) f.sent) (seen (lens_of plan.slaves) f.back)) (x : FrameTells m0 m1 m2 f) (rows : List Happening) (w : IsServedForwarded plan m0 lives rows) where
  abbrev lens : ℕ → Lens
  lens = lens_of plan.slaves

  abbrev ports : List (Option ℕ)
  ports = ports_behind 0 plan.slaves

  abbrev many : ℕ
  many = ports_of plan.slaves

  abbrev us : List Turn
  us = map run_turn vs

  abbrev js : List Joined
  js = served_joined lives

  abbrev behind : List Leads
  behind = map run_lead (serves_behind (lens_of plan.slaves) plan.recover plan.retry missed (length fs) f vs)

  half : HasUnfinished m1 (map stand_under us) (unfinished_of js)
  half = served_under_way lens (length fs) frame.datagrams ws vs m0 m1 (unfinished_of js) frame.each x.joins w.unfinished

  carries : CarriesAll m1.tour.visit.items us (λ k. packets_by lens plan.recover plan.retry ports f f.fate us js k)
  carries =
      carries_all lens plan.recover plan.retry ports f us frame.datagrams frame.frame (serves_asked lens (length fs) frame.datagrams ws vs frame.each) (λ k. holds_at is_live_lead (map run_lead ws) k) (frame_size f.sent) (λ k. area_at lens (map run_lead ws) k)
      (tour_of m0) (length (seen lens f.sent)) m1.tour.visit.items visit.visits under.goes.comes.once back js

  lists : FrameLists plan f us behind js m1 m2
  lists = record {
    ports = ap (λ (p : ArrayVec (Option ℕ)). p.items) x.making.0 ∙ w.ports;
    making = x.making.1;
    arrives = λ pass. x.arrivals pass lens plan.recover us js (served_way lens plan.recover plan.retry missed f.sent m1 (length fs) vs under) (back pass) half;
    downs = λ after lost. x.leaves after lost lens plan.recover plan.retry missed (length fs) vs under;
    carries = carries;
  }

  -- the events of these rows, and of those of the frame
  abbrev more : List Happening
  more = rows ++ (m1.lan.happened ++ m2.lan.happened)

  pub served_events : events_of more ≡ events_of rows ++ (events_of m1.lan.happened ++ events_of m2.lan.happened)
  served_events = map-append (λ (r : Happening). r.event) rows (m1.lan.happened ++ m2.lan.happened) ∙ ap (λ z. events_of rows ++ z) (map-append (λ (r : Happening). r.event) m1.lan.happened m2.lan.happened)

  made : HasHappened many plan.host (rows ++ m1.lan.happened) m1.lan
  made = x.makes many plan.host rows w.happened

  stands : (switched many (events_of rows ++ events_of m1.lan.happened)).switch ≡ m1.lan.switch
  stands = ap (λ z. (switched many z).switch) (sym (map-append (λ (r : Happening). r.event) rows m1.lan.happened)) ∙ made.switch

  begins_so : PacketsBegin (switched many (events_of rows)).switch us m1.lan
  begins_so = subst (λ (s : Switched). PacketsBegin s us m1.lan) (sym w.happened.switch) visit.packets

  pub served_forwarded_on : IsServedForwarded plan m2 (IsServedLed.on fs missed ws f vs lives frame) more
  served_forwarded_on = record {
    ports = ports_stay plan f us behind js m1 m2 lists;
    unfinished = subst (λ z. HasUnfinished m2 (map stand_before behind) z) (sym (joined_so lens f js us (as_many us js m1.tour.stops.items half))) (x.joined lens plan.recover plan.retry missed (length fs) vs js under back half);
    listed = subst (λ (z : List SwitchEvent). ServedListed ports (IsServedLed.on fs missed ws f vs lives frame) z) (sym served_events)
        (frame_lists plan f us behind js m1 m2 lists (λ old. ServedListed ports lives old) (events_of rows) w.listed);
    begun = subst (λ (z : List SwitchEvent). AreServedBegun ports many (IsServedLed.on fs missed ws f vs lives frame) z) (sym served_events)
        (frame_begins plan f us behind js m1 m2 lists (λ old. AreServedBegun ports many lives old) (events_of rows) w.begun begins_so stands);
    happened = subst (λ z. HasHappened many plan.host z m2.lan) (append_assoc rows m1.lan.happened m2.lan.happened) (x.tells many plan.host (rows ++ m1.lan.happened) made);
  }

  -- EACH EVENT HAS ITS NUMBER
  abbrev happened : FrameEvents
  happened = record { making = events_of m1.lan.happened; behind = events_of m2.lan.happened }

  pub served_numbered_on : (ns : List ℕ) → ServedNumbered ports many lives (events_of rows) ns → ServedNumbered ports many (IsServedLed.on fs missed ws f vs lives frame) (events_of more) (ns ++ numbers_over (length fs) happened)
  unfolding begun_on
  served_numbered_on ns old = subst (λ (z : List SwitchEvent). ServedNumbered ports many (IsServedLed.on fs missed ws f vs lives frame) z (ns ++ numbers_over (length fs) happened)) (sym served_events) (record {
    step = begun_on (λ old. AreServedBegun ports many lives old) ports many us m1.lan m2.lan (events_of rows) (events_of m2.lan.happened) w.begun lists.ports begins_so stands (none_begins plan f us behind js m1 m2 lists);
    listed_old = w.listed;
    numbers = ns;
    was = old;
    only = events_making m1.lan.happened x.making.1;
    counted = refl;
  })

  -- WHAT HAPPENED AT THE SWITCH while the frame was made, and behind it
  pub happened_so : (at : AtSwitch plan f us (events_of rows) (events_of more)) × (at.making ≡ events_of m1.lan.happened)
  happened_so =
      at_switch plan m0 m1 m2 f us (unfinished_of js) (events_of rows) (events_of more) w.ports x.making w.happened.switch stands visit.packets (λ pass. x.arrivals pass lens plan.recover us js (served_way lens plan.recover plan.retry missed f.sent m1 (length fs) vs under) (back pass) half) served_events

  pub lan_before : IsLanOf plan m0.lan (events_of rows)
  lan_before = before_is plan m0 m1 m2 f us (unfinished_of js) (events_of rows) (events_of more) w.ports x.making w.happened.switch stands

  pub lan_made : IsLanOf plan m1.lan (events_of rows ++ events_of m1.lan.happened)
  lan_made = made_is plan m0 m1 m2 f us (unfinished_of js) (events_of rows) (events_of more) w.ports x.making w.happened.switch stands
