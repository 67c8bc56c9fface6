-- A serving goes on, frame by frame and mail by mail, as its master leads it.
use Rattle.std.proofs.Common.{◌≡◌, ◌<◌, ◌^◌, ℕ, zero, suc, Bool, true, false, Some, None, List, [], ◌∷◌, ◌++◌, length, map, refl, sym, ap, ◌∙◌, subst, arith}
use Rattle.std.specs.Prelude.{◌↔◌, replicate, slice_get}
use Rattle.served_places.specs.of_datagrams.Datagram as Raw
use Rattle.served_places.specs.of_datagrams.Frame.{chained}
use Rattle.run_notes.specs.of_run_book.Heard.{AllNoted, emergencies_of, heard_none}
use Rattle.packets_heard.proofs.of_master_node.OnFrames.{served_way}
use Rattle.packets_heard.specs.of_master_node.Backtold.{known_at}
use Rattle.packets_heard.specs.of_master_node.Eager.{recalls}
use Rattle.packets_heard.specs.of_master_node.Events.{ServedBegin}
use Rattle.packets_heard.specs.of_master_node.Happened.{HasHappened, events_of}
use Rattle.packets_heard.specs.of_master_node.Joined.{HasUnfinished, stand_before}
use Rattle.packets_heard.specs.of_master_node.Listed.{listed}
use Rattle.packets_heard.specs.of_master_node.Listing.{events_in}
use Rattle.packets_heard.specs.of_master_node.Lives.{waiting_of}
use Rattle.packets_heard.specs.of_master_node.Origins.{forwards_at}
use Rattle.packets_heard.specs.of_master_node.Ports.{ports_behind, ports_of}
use Rattle.packets_heard.specs.of_master_node.Recalled.{AllKnow}
use Rattle.packets_heard.specs.of_master_node.Serving.{ServedShows, ServedUnder, run_lead, run_turn}
use Rattle.packets_heard.specs.of_master_node.Shows.{lived_of}
use Rattle.packets_heard.specs.of_master_node.Told.{HasLives}
use Rattle.packets_heard.specs.of_master_node.Toured.{tour_of}
use Rattle.packets_heard.specs.of_master_node.Touring.{IsServedVisit}
use Rattle.packets_heard.specs.of_master_node.Wants.{AllCounted, gave_of}
use Rattle.packets_heard.specs.of_master_node.declared.node.MasterNode.{MasterNode}
use Rattle.packets_heard.specs.of_master_node.declared.node.Next.TheVariants as nexts
use Rattle.packets_heard.specs.of_master_node.declared.node.Next.{Next}
use Rattle.plan_ring.specs.of_frame_view.Seen.{seen}
use Rattle.plan_ring.specs.of_frame_view.View.{Lens}
use Rattle.plan_ring.specs.of_frame_view.Shares.{AllBoth}
use Rattle.served_places.specs.of_life_runs.First.{first_leads, leads_from, lens_of, script_for, spot_of}
use Rattle.served_places.specs.of_life_runs.Led.{Exchanged, Leads, gives_up_at, missed_behind, new_leads}
use Rattle.served_places.specs.of_master_tour.Toured.{Tour, new_tour}
use Rattle.served_places.specs.of_segment_model.Returned.{Returns}
use Rattle.packets_heard.specs.Recalled.{State}
use Rattle.packets_heard.specs.Served.{IsTourServed, serves_behind}
use Rattle.packets_heard.specs.ServedRecalled.{IsServedRecalled}
use Rattle.packets_heard.specs.Servings.{served_begun}
use Rattle.packets_heard.specs.Toured.{tour_behind}
use Rattle.plan_ring.proofs.of_frames_seen.Returned as Returned
use Rattle.run_notes.specs.of_run_book.declared.book.SentFrame.{SentFrame}
use Rattle.run_notes.proofs.Heard.{first_heard}
use Rattle.run_notes.specs.Handed.{AllDoubts, AllHanded, AllWhere, MailsGo, is_mail, is_packet, kinds_in}
use Rattle.run_notes.specs.Heard.{HeardBy, emergencies_noted}
use Rattle.run_notes.specs.Packets.{BeginsOn, begun_noted}
use Rattle.run_notes.specs.Reports.{AllReport, ReportsBy, ReportsOn, TurnsAll}
use Rattle.run_notes.specs.Slaves.{GaveBy, first_notes, gaves_noted}
use Rattle.run_notes.specs.declared.notes.Notes.{Notes}
use Rattle.run_notes.specs.declared.standing.AskedMail.{AskedMail}
use Rattle.run_notes.specs.declared.standing.Log.{Log}
use Rattle.run_record.proofs.Befores.{one_more}
use Rattle.run_record.proofs.Began.{packets_first}
use Rattle.run_record.proofs.Hearings.{heard_by}
use Rattle.run_record.proofs.Knowing.{all_known, known_here, lost_due}
use Rattle.run_record.proofs.Leads.{first_gaves, first_reports}
use Rattle.run_record.proofs.Nexts.{next_frame}
use Rattle.run_record.proofs.Noted.{GivesOne, noted_by, noted_now}
use Rattle.run_record.proofs.PacketTurns.{none_forwards}
use Rattle.run_record.proofs.ServedBegan.{served_packets}
use Rattle.run_record.proofs.ServedForwards.{FrameTells, served_events, served_first, served_forwarded_on, served_numbered_on}
use Rattle.run_record.proofs.ServedGaves.{all_give, has_lives, serve_leads, served_counted}
use Rattle.run_record.proofs.ServedHanded.{served_handed}
use Rattle.run_record.proofs.ServedNotes.{Known, first_noted}
use Rattle.run_record.proofs.ServedRecalls.{Recalled, recalled_at, recalled_first}
use Rattle.run_record.proofs.ServedReports.{all_turn, before_turned, served_before, shows_told, told_by, way_told}
use Rattle.run_record.proofs.ServedTold.{tells_frame}
use Rattle.run_record.proofs.ServedWritten.{served_written_on}
use Rattle.run_record.proofs.ServingAsks.{left_of, mails_of, shown_wait}
use Rattle.run_record.specs.Forwarded.{PacketsNoted}
use Rattle.run_record.specs.Led.{exchanged}
use Rattle.run_record.specs.Mails.{passing_at, served_mails, served_overs}
use Rattle.run_record.specs.Recalling.{state_of}
use Rattle.run_record.specs.Replay.{IsRecorded, behind as behind_ring, first_ring}
use Rattle.run_record.specs.Served.{ListsBehind, ServedLeading, ServesOn, Serving, ServingGoesOn, TellsBehind, as_asked, served_heard}
use Rattle.run_record.specs.Session.{FrameEvents, IsDone, SessionState, has_live, numbers_over}
use Rattle.run_record.specs.Written.{WereServedDue, forwards_now, served_written}
use Rattle.served_places.specs.of_run_frames.ScriptAnswers.{turned}
use Rattle.packets_heard.specs.of_segment_plan.declared.plan.Scenario.{Scenario}
use Rattle.packets_heard.specs.of_segment_plan.declared.service.Service as Plan
use Rattle.packets_heard.specs.of_segment_plan.declared.slave.SlaveSpec.{SlaveSpec}
use Rattle.served_places.specs.of_segment_ring.Ring.{ring_returned}
use Rattle.served_places.specs.of_segment_ring.Schedule.{fate_at}
use Rattle.served_places.specs.of_segment_ring.declared.wire.Fate.TheVariants as Fates
use Rattle.served_places.specs.of_segment_ring.declared.wire.Fate.{Fate}
use Rattle.served_places.specs.of_life_runs.Served.{AllServedTurn, IsServedFrame, IsServedLed, ServedTurn, Serves, all_serve, new_serves, served_behind}
use Rattle.packets_heard.specs.of_slave_node.Node.{node_passed}

-- BEFORE THE FIRST FRAME no mail was asked
first_same : {T : Type 0} (g : Serves → T) (t : T) → ((pace : ℕ) (a : Leads) → g (new_serves pace a) ≡ t) → (paces : List ℕ) (rows : List (ℕ × Plan.Service)) (place : ℕ) (ss : List SlaveSpec) → map g (all_serve paces (leads_from rows place ss)) ≡ replicate (length ss) t
first_same g t h [] rows place [] = refl
first_same g t h (p ∷ ps) rows place [] = refl
first_same g t h [] rows place (s ∷ ss) = λ i. h 1 (new_leads (script_for place rows) (spot_of place s)) i ∷ first_same g t h [] rows (suc place) ss i
first_same g t h (p ∷ ps) rows place (s ∷ ss) = λ i. h p (new_leads (script_for place rows) (spot_of place s)) i ∷ first_same g t h ps rows (suc place) ss i

-- and none is in hand
none_passing : (paces : List ℕ) (rows : List (ℕ × Plan.Service)) (place : ℕ) (ss : List SlaveSpec) (k : ℕ) → passing_at (all_serve paces (leads_from rows place ss)) k ≡ false
none_passing [] rows place [] k = refl
none_passing (p ∷ ps) rows place [] k = refl
none_passing [] rows place (s ∷ ss) zero = refl
none_passing [] rows place (s ∷ ss) (suc k) = none_passing [] rows (suc place) ss k
none_passing (p ∷ ps) rows place (s ∷ ss) zero = refl
none_passing (p ∷ ps) rows place (s ∷ ss) (suc k) = none_passing ps rows (suc place) ss k

pub serving_begins : (plan : Scenario) (s : SessionState) → s.notes ≡ first_notes plan.services 0 plan.slaves → ServedShows (lens_of plan.slaves) plan.recover plan.retry s.master 0 0 (all_serve plan.paces (first_leads plan)) → s.asked ≡ replicate (length plan.slaves) [] → s.waiting ≡ replicate (length plan.slaves) 0 → tour_of s.master ≡ new_tour →
    s.master.lan.ports.items ≡ ports_behind 0 plan.slaves → HasUnfinished s.master (map stand_before (first_leads plan)) (map (λ spec. None) plan.slaves) → HasHappened (ports_of plan.slaves) plan.host [] s.master.lan → AllKnow (recalls s.master) → s.ring ≡ first_ring plan → ((k : ℕ) → forwards_at s.master.posts.items k ≡ 0) → Serving plan s []
serving_begins plan s notes shown none still tour ports joined happened knows ring counts =
    let r = recalled_first plan s.master s.ring tour knows ring in
    record {
      leading = record {
        missed = 0;
        serves = all_serve plan.paces (first_leads plan);
        lives = IsServedLed.start;
        shows = shown;
        toured = r.0;
      };
      gave = ap gaves_noted notes ∙ first_gaves plan.services 0 0 plan.slaves ∙ ap (map gave_of) (sym (serve_leads plan.paces (first_leads plan)));
      told = subst (λ (as' : List Leads). AllReport as' s.notes) (sym (serve_leads plan.paces (first_leads plan)))
          (subst (λ (ns : List Notes). AllReport (first_leads plan) ns) (sym notes) (first_reports plan.services 0 0 plan.slaves refl));
      heard = ap emergencies_noted notes ∙ first_heard plan.services 0 0 plan.slaves ∙ ap (λ (as' : List Leads). map emergencies_of (heard_none as')) (sym (serve_leads plan.paces (first_leads plan)));
      asked = first_same mails_of [] (λ pace a. refl) plan.paces plan.services 0 plan.slaves ∙ sym none;
      waiting = first_same left_of 0 (λ pace a. refl) plan.paces plan.services 0 plan.slaves ∙ sym still;
      rows = [];
      forwarded = served_first plan s.master ports joined happened;
      numbers = [];
      numbered = (refl, refl);
      packets = packets_first plan s.master s.notes counts notes;
      handed = subst (λ (ns : List Notes). AllHanded (λ k. []) (λ k. passing_at (all_serve plan.paces (first_leads plan)) k) ns) (sym notes)
          (first_noted is_mail plan.services 0 plan.slaves (λ k. passing_at (all_serve plan.paces (first_leads plan)) k) (λ k. none_passing plan.paces plan.services 0 plan.slaves k));
      knows = λ due. knows;
      written = λ due.
          subst (λ (ns : List Notes). AllWhere is_packet (λ k. []) (λ k. forwards_now (lens_of plan.slaves) (map run_lead (all_serve plan.paces (first_leads plan))) k) ns) (sym notes)
          (first_noted is_packet plan.services 0 plan.slaves (λ k. forwards_now (lens_of plan.slaves) (map run_lead (all_serve plan.paces (first_leads plan))) k)
          (λ k. ap (λ as'. forwards_now (lens_of plan.slaves) as' k) (serve_leads plan.paces (first_leads plan)) ∙ none_forwards (lens_of plan.slaves) plan.services 0 plan.slaves k));
      remembers = r.1;
    }

-- OVER A FRAME the mails that were asked stay
abbrev turn_mails : ServedTurn → List AskedMail
turn_mails v = map as_asked v.asked

turned_mails : (lens : ℕ → Lens) (made : ℕ) (ds : List Raw.Datagram) (ws : List Serves) (vs : List ServedTurn) → AllServedTurn lens made ds ws vs → map turn_mails vs ≡ map mails_of ws
turned_mails lens made ds [] [] t = refl
turned_mails lens made ds [] (v ∷ vs) t = absurd t
turned_mails lens made ds (w ∷ ws) [] t = absurd t
turned_mails lens made ds (w ∷ ws) (v ∷ vs) t = λ i. map as_asked (t.0.same i) ∷ turned_mails lens made ds ws vs t.1 i

behind_mails : (lens : ℕ → Lens) (recover retry : ℕ) (gives : Bool) (made : ℕ) (f : Exchanged) (vs : List ServedTurn) → map mails_of (map (served_behind lens recover retry gives made f) vs) ≡ map turn_mails vs
behind_mails lens recover retry gives made f [] = refl
behind_mails lens recover retry gives made f (v ∷ vs) = ap (λ z. turn_mails v ∷ z) (behind_mails lens recover retry gives made f vs)

-- ONE FRAME MORE: what the master says of it before, and of its return or loss; and what is noted of it
module _ (s s' : SessionState) (m : MasterNode) (f : Exchanged) (result : Next) (idle : (result ≡ nexts.Idle) ↔ (has_live s.master ≡ false))
    (serves : result ≡ nexts.Frame → (lens : ℕ → Lens) (recover retry missed made : ℕ) (ws : List Serves) → suc made < 2 ^ 32 → ServedShows lens recover retry s.master missed made ws →
    (vs : List ServedTurn) × IsServedFrame lens made f.sent ws vs × ServedUnder lens recover retry m f.sent missed made vs × ServedBegin (λ k. forwards_at s.master.posts.items k) ws vs m × IsServedVisit lens f.sent ws vs s.master m)
    (served : (lens : ℕ → Lens) (recover retry missed made : ℕ) (vs : List ServedTurn) → ServedUnder lens recover retry m f.sent missed made vs → (f.fate ≡ Fates.Pass → Returns (seen lens f.sent) (seen lens f.back)) →
    ServedShows lens recover retry s'.master (missed_behind lens recover retry f.fate missed) (suc made) (map (served_behind lens recover retry (gives_up_at lens recover retry missed) made f) vs))
    (tours : (lens : ℕ → Lens) (recover : ℕ) (as' : List Leads) → HasLives lens recover s'.master (map lived_of as') → tour_of s'.master ≡ tour_behind m.tour.retry f.fate as' (tour_of m) m.tour.visit.items)
    (switch : FrameTells s.master m s'.master f)
    (whole : listed s'.master.list.rows.items s'.master.list.count ≡ events_in m ++ events_in s'.master) (told : TellsBehind f.fate f.back m s'.master) (lists : ListsBehind f.fate f.back m s'.master)
    (fate : f.fate ≡ fate_at s.ring.lose s.ring.number) (back : f.back ≡ ring_returned node_passed s.ring f.sent) (few : suc s.ring.number < 2 ^ 32) (asked : s'.asked ≡ s.asked) (waiting : s'.waiting ≡ map waiting_of s'.master.posts.items)
    (r r' : Log) (same : r.recover ≡ s.recover) (before : gaves_noted r.notes ≡ gaves_noted s.notes) (after : s'.notes ≡ r'.notes) (noted : GaveBy f.fate s.ring.number s'.master r r')
    (told_before : TurnsAll s.ring.number m (ReportsOn s.notes r.notes)) (told_behind : ReportsBy f.fate s.ring.number s'.master r r')
    (heard_before : emergencies_noted r.notes ≡ emergencies_noted s.notes) (heard_behind : HeardBy f.fate s.ring.number s'.master r r')
    (begun_before : TurnsAll s.ring.number m (BeginsOn s.ring.number m s.notes r.notes)) (begun_behind : begun_noted r'.notes ≡ begun_noted r.notes) (many : length r.notes ≡ length s.notes)
    (doubts : AllDoubts s.notes r.notes) (mails : MailsGo s.ring.number (λ k. kinds_in k (events_in s'.master)) r.notes r'.notes)
    (plan : Scenario) (fs : List Exchanged) (recover : s.recover ≡ plan.recover) (number : length fs ≡ s.ring.number) (live : has_live s.master ≡ true) (busy : IsDone s → ⊥) (on_ring : s'.ring ≡ behind_ring s.ring f.sent) (old : Serving plan s fs) where
  abbrev lens : ℕ → Lens
  lens = lens_of plan.slaves

  abbrev l : ServedLeading plan s.master fs
  l = old.leading

  abbrev gives : Bool
  gives = gives_up_at lens plan.recover plan.retry l.missed

  abbrev missed : ℕ
  missed = missed_behind lens plan.recover plan.retry f.fate l.missed

  made : (vs : List ServedTurn) × IsServedFrame lens (length fs) f.sent l.serves vs × ServedUnder lens plan.recover plan.retry m f.sent l.missed (length fs) vs × ServedBegin (λ k. forwards_at s.master.posts.items k) l.serves vs m ×
      IsServedVisit lens f.sent l.serves vs s.master m
  made = serves (next_frame s.master result idle live) lens plan.recover plan.retry l.missed (length fs) l.serves (subst (λ (n : ℕ). suc n < 2 ^ 32) (sym number) few) l.shows

  abbrev behind : List Serves
  behind = map (served_behind lens plan.recover plan.retry gives (length fs) f) made.0

  returned : f.fate ≡ Fates.Pass → Returns (seen lens f.sent) (seen lens f.back)
  returned = λ pass. subst (λ (octets : List ℕ). Returns (seen lens f.sent) (seen lens octets)) (sym back) (Returned.ring_back lens s.ring f.sent (chained made.1.datagrams) made.1.frame (sym fate ∙ pass))

  shown : ServedShows lens plan.recover plan.retry s'.master missed (suc (length fs)) behind
  shown = served lens plan.recover plan.retry l.missed (length fs) made.0 made.2 returned

  abbrev lives : IsServedLed lens plan.recover plan.retry (all_serve plan.paces (first_leads plan)) (fs ++ f ∷ []) missed behind
  lives = IsServedLed.on fs l.missed l.serves f made.0 l.lives made.1

  -- its visit of the tour, which goes on by the lives behind it
  abbrev on : ℕ → List Serves
  on n = serves_behind (lens_of plan.slaves) plan.recover plan.retry n (length fs) f made.0

  abbrev tour : ℕ → Tour
  tour n = tour_behind plan.retry f.fate (map run_lead (on n)) (tour_of s.master) m.tour.visit.items

  tour_on : tour_of s'.master ≡ tour l.missed
  tour_on =
      tours lens plan.recover (map run_lead behind) (has_lives lens plan.recover plan.retry missed (suc (length fs)) s'.master behind shown)
      ∙ (λ i. tour_behind (made.2.retry_is i) f.fate (map run_lead behind) (made.4.tour i) m.tour.visit.items)

  -- none of its visits was in vain
  abbrev state : State
  state = state_of s'.master (events_of (old.rows ++ (m.lan.happened ++ s'.master.lan.happened))) s'.ring

  recalled_for : (n : ℕ) → l.missed ≡ n → IsServedRecalled plan n (length fs) l.serves f made.0 (state_of s.master (events_of old.rows) s.ring) state
  recalled_for n e = recalled_at plan fs l.missed l.serves l.lives f made.0 made.1 s m s'.master made.2 made.4 returned switch old.rows old.forwarded l.shows busy recover old.gave s'.ring on_ring n e

  first_on : Recalled plan (fs ++ f ∷ []) (tour s.master.tour.missed) (on s.master.tour.missed) state
  first_on = (
    IsTourServed.on fs (tour_of s.master) l.serves f made.0 m.tour.visit.items l.toured made.1 (record { visits = made.4.visits; asks = made.4.asks }),
    (
      state_of s.master (events_of old.rows) s.ring,
      recalled_for s.master.tour.missed (sym l.shows.missed_is),
      old.remembers,
    ),
  )

  remembered : Recalled plan (fs ++ f ∷ []) (tour_of s'.master) behind state
  remembered =
      subst (λ (t : Tour). Recalled plan (fs ++ f ∷ []) t behind state) (sym tour_on) (subst (λ (n : ℕ). Recalled plan (fs ++ f ∷ []) (tour n) (on n) state) l.shows.missed_is first_on)

  -- and as long as what was accepted was due its hands know their mails
  abbrev goes_to : ServedTurn → Serves
  goes_to v = served_behind lens plan.recover plan.retry gives (length fs) f v

  knows_on : WereServedDue lives → AllKnow (recalls s'.master)
  knows_on due = go f.fate refl
    where
      go : (fate : Fate) → f.fate ≡ fate → AllKnow (recalls s'.master)
      go Fates.Pass e = all_known lens (seen lens f.back) goes_to made.0 (recalls s.master) (recalls s'.master) ((recalled_for l.missed refl).returned e) (old.knows due.0) (due.1 e)
      go (Fates.Lost lasts) e = all_known lens [] goes_to made.0 (recalls s.master) (recalls s'.master) ((recalled_for l.missed refl).lost lasts e) (old.knows due.0) (lost_due lens (map run_turn made.0))

  knows_here : WereServedDue lives → f.fate ≡ Fates.Pass → (k : ℕ) (v : ServedTurn) → slice_get made.0 k ≡ Some v → known_at (recalls s'.master) k ≡ true
  knows_here due e = known_here lens (seen lens f.back) goes_to made.0 (recalls s.master) (recalls s'.master) ((recalled_for l.missed refl).returned e) (knows_on due)

  -- what happened at its switch
  abbrev happened : FrameEvents
  happened = record { making = events_of m.lan.happened; behind = events_of s'.master.lan.happened }

  -- what is noted of give-ups
  gave : gaves_noted s'.notes ≡ map gave_of (map run_lead behind)
  gave =
      let here = subst (λ (n : ℕ). HasLives lens n s'.master (map lived_of (map run_lead behind))) (sym (same ∙ recover)) (has_lives lens plan.recover plan.retry missed (suc (length fs)) s'.master behind shown) in
      let all = subst (λ (n : ℕ). AllCounted n (map run_lead behind)) (sym (same ∙ recover)) (served_counted plan (fs ++ f ∷ []) missed behind lives) in
      let give = all_give lens plan.recover plan.retry gives (length fs) f made.1.datagrams l.serves made.0 made.1.each in
      ap gaves_noted after
      ∙ noted_now f.fate s.ring.number (map gave_of (map run_lead l.serves)) (map gave_of (map run_lead behind)) (subst (λ (n : ℕ). AllBoth (λ o k. GivesOne f.fate n o k) (map gave_of (map run_lead l.serves)) (map gave_of (map run_lead behind))) number give)
      (gaves_noted r.notes) (gaves_noted r'.notes) (before ∙ old.gave) (noted_by f.fate s.ring.number s'.master r r' lens (map run_lead behind) noted here all)

  -- of the packets and the mails passed on that came into hand
  packets : PacketsNoted (λ k. served_begun lives k) (λ k. served_mails lives k) s'.master s'.notes
  packets =
      served_packets plan fs l.missed l.serves l.lives f made.0 made.1 s.master m s'.master s.notes r.notes s'.notes old.packets made.3 switch.counts (omega (arith, number, few)) many (ap begun_noted after ∙ begun_behind)
      ((subst (λ (n : ℕ). TurnsAll n m (BeginsOn n m s.notes r.notes)) (sym number) begun_before) lens plan.recover (map run_lead l.serves) (map turned (map run_turn made.0))
      (way_told lens plan.recover plan.retry l.missed (length fs) m f.sent made.0 made.2) (all_turn lens (length fs) made.1.datagrams l.serves made.0 made.1.each)) old.told

  -- of its services and epochs
  reports : AllReport (map turned (map run_turn made.0)) r.notes
  reports =
      (subst (λ (n : ℕ). TurnsAll n m (ReportsOn s.notes r.notes)) (sym number) told_before) lens plan.recover (map run_lead l.serves) (map turned (map run_turn made.0))
      (way_told lens plan.recover plan.retry l.missed (length fs) m f.sent made.0 made.2) (all_turn lens (length fs) made.1.datagrams l.serves made.0 made.1.each) old.told

  told_on : AllReport (map run_lead behind) s'.notes
  told_on =
      subst (λ (ns : List Notes). AllReport (map run_lead behind) ns) (sym after)
      (told_by lens plan.recover plan.retry gives (length fs) f s'.master r r' made.0 (same ∙ recover) (shows_told lens plan.recover plan.retry missed (suc (length fs)) s'.master behind shown)
      (served_counted plan (fs ++ f ∷ []) missed behind lives) (before_turned lens (length fs) made.1.datagrams l.serves made.0 made.1.each (served_before plan fs l.missed l.serves l.lives))
      (subst (λ (n : ℕ). ReportsBy f.fate n s'.master r r') (sym number) told_behind) reports)

  -- of the answers of mails that are passed on, and of packets
  frame_known : Known plan fs l.missed l.serves l.lives f made.0 made.1 s.master m s'.master s.notes r.notes s'.notes
  frame_known = record {
    under = made.2;
    returned = returned;
    lists = lists lens plan.recover plan.retry l.missed (length fs) made.0 f refl refl made.2 returned;
    packets = old.packets;
    packets_on = packets;
    same = ap begun_noted after ∙ begun_behind;
    doubts = doubts;
    goes = subst (λ (n : ℕ). MailsGo n (λ k. kinds_in k (events_in s'.master)) r.notes s'.notes) (sym number) (subst (λ (ns : List Notes). MailsGo s.ring.number (λ k. kinds_in k (events_in s'.master)) r.notes ns) (sym after) mails);
    reports = old.told;
    turned_reports = reports;
    gave = before ∙ old.gave;
    gave_on = gave;
  }

  handed : AllHanded (λ k. served_overs lives k) (λ k. passing_at behind k) s'.notes
  handed = served_handed plan fs l.missed l.serves l.lives f made.0 made.1 s.master m s'.master s.notes r.notes s'.notes frame_known old.handed

  written : WereServedDue lives → AllWhere is_packet (λ k. served_written lives k) (λ k. forwards_now lens (map run_lead behind) k) s'.notes
  written due = served_written_on plan fs l.missed l.serves l.lives f made.0 made.1 s.master m s'.master s.notes r.notes s'.notes frame_known (knows_here due) (old.written due.0)

  -- and of emergencies
  heard : AllNoted (served_heard lives) (emergencies_noted s'.notes)
  heard =
      ap emergencies_noted after
      ∙ heard_by lens (length fs) f s'.master r r' (served_heard l.lives) (map run_turn made.0) (heard_before ∙ old.heard)
      (λ pass. switch.brought pass lens plan.recover (map run_turn made.0) (served_way lens plan.recover plan.retry l.missed f.sent m (length fs) made.0 made.2) (returned pass))
      (subst (λ (n : ℕ). HeardBy f.fate n s'.master r r') (sym number) heard_behind)

  goes : Serving plan s' (fs ++ f ∷ [])
  goes = record {
    leading = record { missed = missed; serves = behind; lives = lives; shows = subst (λ (n : ℕ). ServedShows lens plan.recover plan.retry s'.master missed n behind) (one_more fs f) shown; toured = remembered.0 };
    gave = gave;
    told = told_on;
    heard = heard;
    asked = behind_mails lens plan.recover plan.retry gives (length fs) f made.0 ∙ turned_mails lens (length fs) made.1.datagrams l.serves made.0 made.1.each ∙ old.asked ∙ sym asked;
    waiting = shown_wait lens plan.recover plan.retry missed (suc (length fs)) s'.master behind shown ∙ sym waiting;
    rows = old.rows ++ (m.lan.happened ++ s'.master.lan.happened);
    numbers = old.numbers ++ numbers_over (length fs) happened;
    numbered = served_numbered_on plan fs l.missed l.serves l.lives f made.0 made.1 s.master m s'.master made.2 made.4 returned switch old.rows old.forwarded old.numbers old.numbered;
    packets = packets;
    handed = handed;
    knows = knows_on;
    written = written;
    forwarded = served_forwarded_on plan fs l.missed l.serves l.lives f made.0 made.1 s.master m s'.master made.2 made.4 returned switch old.rows old.forwarded;
    remembers = remembered.1;
  }

  pub on_frame : ServesOn plan s s' happened fs f old
  unfolding goes
  on_frame = record {
    turns = made.0;
    frame = made.1;
    returns = returned;
    new = goes;
    missed = refl;
    serves = refl;
    events = served_events plan fs l.missed l.serves l.lives f made.0 made.1 s.master m s'.master made.2 made.4 returned switch old.rows old.forwarded;
    numbers = refl;
    tells = tells_frame lens plan.recover plan.retry l.missed (length fs) (λ k. forwards_at s.master.posts.items k) m s'.master f l.serves behind made.0 made.3 made.2 whole (told lens plan.recover plan.retry l.missed (length fs) made.0 f refl refl made.2 returned);
  }

pub serving_on : (t s s' : SessionState) (m : MasterNode) (f : SentFrame) (result : Next) → t ≡ s → (result ≡ nexts.Idle) ↔ (has_live t.master ≡ false) →
    (result ≡ nexts.Frame → (lens : ℕ → Lens) (recover retry missed made : ℕ) (ws : List Serves) → suc made < 2 ^ 32 → ServedShows lens recover retry t.master missed made ws →
    (vs : List ServedTurn) × IsServedFrame lens made f.sent ws vs × ServedUnder lens recover retry m f.sent missed made vs × ServedBegin (λ k. forwards_at t.master.posts.items k) ws vs m × IsServedVisit lens f.sent ws vs t.master m) →
    ((lens : ℕ → Lens) (recover retry missed made : ℕ) (vs : List ServedTurn) → ServedUnder lens recover retry m f.sent missed made vs → (f.fate ≡ Fates.Pass → Returns (seen lens f.sent) (seen lens f.back)) →
    ServedShows lens recover retry s'.master (missed_behind lens recover retry f.fate missed) (suc made) (map (served_behind lens recover retry (gives_up_at lens recover retry missed) made (exchanged f)) vs)) →
    ((lens : ℕ → Lens) (recover : ℕ) (as' : List Leads) → HasLives lens recover s'.master (map lived_of as') → tour_of s'.master ≡ tour_behind m.tour.retry f.fate as' (tour_of m) m.tour.visit.items) → FrameTells t.master m s'.master (exchanged f) →
    listed s'.master.list.rows.items s'.master.list.count ≡ events_in m ++ events_in s'.master → TellsBehind f.fate f.back m s'.master → ListsBehind f.fate f.back m s'.master →
    IsRecorded t.ring f → suc t.ring.number < 2 ^ 32 → s'.asked ≡ t.asked → s'.waiting ≡ map waiting_of s'.master.posts.items →
    (r r' : Log) → r.recover ≡ t.recover → gaves_noted r.notes ≡ gaves_noted t.notes → s'.notes ≡ r'.notes → GaveBy f.fate t.ring.number s'.master r r' → TurnsAll t.ring.number m (ReportsOn t.notes r.notes) → ReportsBy f.fate t.ring.number s'.master r r' → emergencies_noted r.notes ≡ emergencies_noted t.notes → HeardBy f.fate t.ring.number s'.master r r' →
    TurnsAll t.ring.number m (BeginsOn t.ring.number m t.notes r.notes) → begun_noted r'.notes ≡ begun_noted r.notes → length r.notes ≡ length t.notes → AllDoubts t.notes r.notes →
    MailsGo t.ring.number (λ k. kinds_in k (events_in s'.master)) r.notes r'.notes → s'.ring ≡ behind_ring t.ring f.sent → ServingGoesOn s s' (record { making = events_of m.lan.happened; behind = events_of s'.master.lan.happened }) f
serving_on t s s' m f result view idle serves served tours switch whole told lists recorded few asked waiting r r' same before after noted told_before told_behind heard_before heard_behind begun_before begun_behind many doubts mails ring =
    subst (λ (z : SessionState). ServingGoesOn z s' (record { making = events_of m.lan.happened; behind = events_of s'.master.lan.happened }) f) view
    (λ plan fs recover number live busy old. on_frame t s' m (exchanged f) result idle serves served tours switch whole told lists recorded.fate recorded.back few asked waiting r r' same before after noted told_before told_behind heard_before heard_behind begun_before begun_behind many doubts mails plan fs recover number live busy ring old)
