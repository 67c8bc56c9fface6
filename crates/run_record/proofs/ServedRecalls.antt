-- A serving's master makes no visit in vain, by what it remembers, frame by frame.
use Rattle.std.proofs.Common.{◌≡◌, ℕ, Bool, true, false, List, [], ◌++◌, length, map, refl, sym, ap, ◌∙◌, subst}
use Rattle.std.specs.Prelude.{nat_lt}
use Rattle.packets_heard.specs.of_eoe_switch.declared.switching.SwitchEvent.{SwitchEvent}
use Rattle.packets_heard.proofs.of_master_node.Restings.{serves_idle}
use Rattle.packets_heard.specs.of_master_node.Eager.{AllTakeUp, recall_of, recalls}
use Rattle.packets_heard.specs.of_master_node.Entering.{EntersFirst}
use Rattle.packets_heard.specs.of_master_node.Happened.{events_of}
use Rattle.packets_heard.specs.of_master_node.Recalled.{AllKnow}
use Rattle.packets_heard.specs.of_master_node.ServedEager.{AllServedAsk, AllServedBegin, AllServedRecall, AllServedRest}
use Rattle.packets_heard.specs.of_master_node.Serving.{ServedShows, ServedUnder, run_lead, run_turn}
use Rattle.packets_heard.specs.of_master_node.Toured.{again_of, tour_of}
use Rattle.packets_heard.specs.of_master_node.Touring.{IsServedVisit}
use Rattle.packets_heard.specs.of_master_node.Wants.{AllCounted, gave_of}
use Rattle.packets_heard.specs.of_master_node.declared.happened.Happening.{Happening}
use Rattle.packets_heard.specs.of_master_node.declared.node.MasterNode.{MasterNode}
use Rattle.plan_ring.specs.of_frame_view.Seen.{seen}
use Rattle.plan_ring.specs.of_frame_view.View.{Lens}
use Rattle.served_places.specs.of_life_runs.First.{first_leads, lens_of}
use Rattle.served_places.specs.of_life_runs.Led.{Exchanged, Turn, gives_up_at}
use Rattle.served_places.specs.of_master_tour.Toured.{Tour, new_tour}
use Rattle.served_places.specs.of_segment_model.Returned.{Returns}
use Rattle.packets_heard.proofs.RecalledQuiet.{quiet_served}
use Rattle.packets_heard.specs.Recalled.{AllSettled, AtSwitch, IsLanOf, State, has_entered, stepped}
use Rattle.packets_heard.specs.Served.{IsTourServed}
use Rattle.packets_heard.specs.ServedRecalled.{IsServedRecalled, ServedRecalledIn}
use Rattle.run_notes.specs.Slaves.{gaves_noted}
use Rattle.run_record.proofs.Ends.{settled_rest}
use Rattle.run_record.proofs.ServedForwards.{FrameTells, happened_so, lan_before, lan_made}
use Rattle.run_record.proofs.ServedGaves.{served_counted}
use Rattle.run_record.specs.Recalling.{state_of}
use Rattle.run_record.specs.Replay.{first_ring}
use Rattle.run_record.specs.Served.{IsServedForwarded, ServedTouredTo, ServeTo}
use Rattle.run_record.specs.Session.{IsDone, SessionState}
use Rattle.packets_heard.specs.of_segment_plan.declared.plan.Scenario.{Scenario}
use Rattle.served_places.specs.of_segment_ring.Ring.{RingState, ring_behind}
use Rattle.served_places.specs.of_segment_ring.declared.wire.Fate.TheVariants as Fates
use Rattle.served_places.specs.of_life_runs.Served.{Keyed, Serves, ServedTurn, IsServedFrame, MayAsk, all_serve, asked_at, served_behind}
use Rattle.packets_heard.specs.of_slave_node.Node.{Node, node_passed}
use Rattle.packets_heard.specs.of_slave_server.declared.server.SlaveServer.{SlaveServer}

-- where a packet of the host comes in first one has come in
first_enters : (rows : List Happening) → EntersFirst rows → has_entered (events_of rows) ≡ true
first_enters rows k = ap (λ z. has_entered (events_of z)) k.is

-- the visits of a tour, with what is remembered of them
abbrev pub Recalled : Scenario → List Exchanged → Tour → List Serves → State → Type 0
Recalled plan fs t ws s = (toured : ServedTouredTo plan fs t ws) × ServedRecalledIn plan toured s

-- BEFORE THE FIRST FRAME the hands of all slaves know their mails
pub recalled_first : (plan : Scenario) (m : MasterNode) (ring : RingState (Node SlaveServer)) → tour_of m ≡ new_tour → AllKnow (recalls m) → ring ≡ first_ring plan → Recalled plan [] (tour_of m) (all_serve plan.paces (first_leads plan)) (state_of m [] ring)
recalled_first plan m ring tour known is =
    subst (λ (t : Tour). Recalled plan [] t (all_serve plan.paces (first_leads plan)) (state_of m [] ring)) (sym tour) (IsTourServed.start, record { known = known; events = refl; ring = is })

-- A MAIL THAT IS ASKED changes nothing of it
pub recalled_stays : (plan : Scenario) (fs : List Exchanged) (m n : MasterNode) (ws : List Serves) (es : List SwitchEvent) (ring ring' : RingState (Node SlaveServer)) → n.tour ≡ m.tour → ring' ≡ ring → Recalled plan fs (tour_of m) ws (state_of m es ring) → Recalled plan fs (tour_of n) ws (state_of n es ring')
recalled_stays plan fs m n ws es ring ring' tour is r =
    let same : tour_of n ≡ tour_of m = λ i. record { again = again_of (tour i).again (tour i).visit.items; opened = (tour i).opened; last = (tour i).last; missed = (tour i).missed } in
    let remembered : state_of n es ring' ≡ state_of m es ring = λ i. record { recalls = map (λ s. recall_of s) (tour i).stops.items; events = es; ring = is i } in
    subst (λ (t : Tour). Recalled plan fs t ws (state_of n es ring')) (sym same) (subst (λ (s : State). Recalled plan fs (tour_of m) ws s) (sym remembered) r)

pub recalled_asked : (plan : Scenario) (fs : List Exchanged) (t : Tour) (ws : List Serves) (place : ℕ) (k : Keyed) (s : State) → MayAsk (lens_of plan.slaves) place k ws → Recalled plan fs t ws s → Recalled plan fs t (asked_at place k ws) s
recalled_asked plan fs t ws place k s may r = (IsTourServed.asks fs t ws place k r.0 may, r.1)

-- ONE FRAME MORE
module _ (plan : Scenario) (fs : List Exchanged) (missed : ℕ) (ws : List Serves) (lives : ServeTo plan fs missed ws) (f : Exchanged) (vs : List ServedTurn) (frame : IsServedFrame (lens_of plan.slaves) (length fs) f.sent ws vs)
    (s : SessionState) (m1 m2 : MasterNode) (under : ServedUnder (lens_of plan.slaves) plan.recover plan.retry m1 f.sent missed (length fs) vs) (visit : IsServedVisit (lens_of plan.slaves) f.sent ws vs s.master m1)
    (back : f.fate ≡ Fates.Pass → Returns (seen (lens_of plan.slaves) f.sent) (seen (lens_of plan.slaves) f.back)) (x : FrameTells s.master m1 m2 f) (rows : List Happening) (w : IsServedForwarded plan s.master lives rows)
    (shows : ServedShows (lens_of plan.slaves) plan.recover plan.retry s.master missed (length fs) ws) (busy : IsDone s → ⊥) (recover : s.recover ≡ plan.recover) (gave : gaves_noted s.notes ≡ map gave_of (map run_lead ws)) (ring' : RingState (Node SlaveServer)) (on : ring' ≡ ring_behind node_passed stepped s.ring f.sent) where
  abbrev lens : ℕ → Lens
  lens = lens_of plan.slaves

  abbrev us : List Turn
  us = map run_turn vs

  abbrev m0 : MasterNode
  m0 = s.master

  abbrev more : List Happening
  more = rows ++ (m1.lan.happened ++ m2.lan.happened)

  at_rest : AllServedRest lens m0.lan 0 (recalls m0) ws → AllSettled (map run_lead ws) s.ring.nodes → has_entered (events_of m1.lan.happened) ≡ true
  at_rest rests settled = by (nat_lt m0.lan.entered (length m0.lan.host)) refl
    where
      by : (b : Bool) → nat_lt m0.lan.entered (length m0.lan.host) ≡ b → has_entered (events_of m1.lan.happened) ≡ true
      by false e = absurd (busy (record {
        idle = record { rest = λ k. serves_idle lens plan.recover (length fs) m0.lan ws m0.posts.items m0.tour.stops.items shows.each rests k; come = e };
        at_rest = settled_rest s.recover (map run_lead ws) s.ring.nodes s.notes settled (subst (λ (n : ℕ). AllCounted n (map run_lead ws)) (sym recover) (served_counted plan fs missed ws lives)) gave;
      }))
      by true e = first_enters m1.lan.happened (visit.enters rests (record {
        left = e;
        quiet = quiet_served plan fs missed ws lives (events_of rows) m0.lan (recalls m0) w.listed (lan_before plan fs missed ws lives f vs frame m0 m1 m2 under visit back x rows w) rests;
      }))

  happened : (at : AtSwitch plan f us (events_of rows) (events_of more)) × (at.making ≡ events_of m1.lan.happened)
  happened = happened_so plan fs missed ws lives f vs frame m0 m1 m2 under visit back x rows w

  recalled_frame : IsServedRecalled plan missed (length fs) ws f vs (state_of m0 (events_of rows) s.ring) (state_of m2 (events_of more) ring')
  recalled_frame = record {
    visits = subst (λ ms. AllServedAsk (seen lens f.sent) ms us) visit.recalled visit.asked;
    takes = subst (λ ms. AllTakeUp lens ms us) visit.recalled visit.takes;
    unvisited = visit.unvisited;
    still = visit.still;
    events = happened.0;
    lan = m1.lan;
    lan_is = subst (λ z. IsLanOf plan m1.lan (events_of rows ++ z)) (sym happened.1) (lan_made plan fs missed ws lives f vs frame m0 m1 m2 under visit back x rows w);
    begins = subst (λ ms. AllServedBegin lens m1.lan 0 ms ws us) visit.recalled visit.begins;
    before = m0.lan;
    before_is = lan_before plan fs missed ws lives f vs frame m0 m1 m2 under visit back x rows w;
    rests = λ all settled. ap has_entered happened.1 ∙ at_rest all settled;
    returned = λ pass. subst (λ ms. AllServedRecall lens (seen lens f.back) (λ v. served_behind lens plan.recover plan.retry (gives_up_at lens plan.recover plan.retry missed) (length fs) f v) vs ms (recalls m2)) visit.recalled
        (x.remembers pass lens plan.recover plan.retry missed (length fs) vs under (back pass) visit.asked);
    lost = λ after e. subst (λ ms. AllServedRecall lens [] (λ v. served_behind lens plan.recover plan.retry (gives_up_at lens plan.recover plan.retry missed) (length fs) f v) vs ms (recalls m2)) visit.recalled
        (x.stays after e lens plan.recover plan.retry missed (length fs) vs under);
    ring = on;
  }

  -- where its tour knows of so many lost in a row
  pub recalled_at : (n : ℕ) → missed ≡ n → IsServedRecalled plan n (length fs) ws f vs (state_of m0 (events_of rows) s.ring) (state_of m2 (events_of more) ring')
  recalled_at n e = subst (λ k. IsServedRecalled plan k (length fs) ws f vs (state_of m0 (events_of rows) s.ring) (state_of m2 (events_of more) ring')) e recalled_frame
