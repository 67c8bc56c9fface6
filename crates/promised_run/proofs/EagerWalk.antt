-- Frame by frame of a serving, and mail by mail.
use Rattle.std.proofs.Common.{◌≡◌, ◌⊎◌, ◌≤◌, ℕ, suc, ◌+◌, ◌-◌, ◌*◌, inl, inr, Bool, true, false, Option, Some, None, List, [], ◌∷◌, ◌++◌, map, length, refl, sym, ap, ◌∙◌, subst, arith, if◌then◌else◌}
use Rattle.std.specs.Prelude.{◌||◌, nat_lt, slice_get}
use Rattle.std.proofs.lemmas.Bool.{ltb-false, ltb-true}
use Rattle.promised_run.specs.Runs.{ScriptsMay, waiting_at}
use Rattle.promised_run.proofs.Counts.{came_more, entered_few, lost_more, lost_one}
use Rattle.promised_run.proofs.Frames.{all_quiet}
use Rattle.promised_run.proofs.BoundPorts.{none_before, none_more}
use Rattle.promised_run.proofs.Scripts.{AllMay}
use Rattle.promised_run.specs.Eager.{ServedMailsAreDue, remembers}
use Rattle.promised_run.proofs.EagerFrames.{all_eager, all_remember, gets_none}
use Rattle.promised_run.proofs.Ranks.{asked_behind, asked_steps, behinds_less, behinds_still, steps_in, turns_in, turns_less}
use Rattle.promised_run.proofs.EagerRests.{AllBehind, rests_so, settled_so}
use Rattle.promised_run.proofs.EagerScripts.{may_all}
use Rattle.seen_slaves.specs.of_frame_view.Seen.{seen}
use Rattle.seen_slaves.specs.of_frame_view.View.{Lens}
use Rattle.seen_slaves.specs.of_idle_slaves.Eager.{Remembered}
use Rattle.seen_slaves.specs.of_idle_slaves.WaitEager.{AllRest}
use Rattle.run_promises.specs.of_life_runs.First.{AreApart, first_leads, lens_of}
use Rattle.run_promises.specs.of_life_runs.Led.{Exchanged, gives_up_at, missed_behind}
use Rattle.run_promises.specs.of_link_mails.Body.{Body}
use Rattle.seen_slaves.specs.of_master_duty.Reply.{Reply}
use Rattle.seen_slaves.specs.of_master_hand.Spoken.{Asked}
use Rattle.run_promises.specs.of_master_node.Happened.{arrivals_at}
use Rattle.run_promises.specs.of_master_node.Recalled.{AllKnow}
use Rattle.run_promises.specs.of_master_node.Serving.{run_lead}
use Rattle.run_promises.specs.of_master_node.Shows.{is_opening_lead}
use Rattle.run_promises.specs.of_master_tour.Toured.{Tour, goes_on}
use Rattle.run_promises.specs.of_packets_heard.Recalled.{AllSettled, IsFirst, State, has_entered}
use Rattle.run_promises.specs.of_packets_heard.Served as Visits
use Rattle.run_promises.specs.of_packets_heard.ServedRecalled.{IsServedRecalled, ServedRecalledIn}
use Rattle.run_promises.specs.of_packets_heard.Toured.{tour_behind}
use Rattle.seen_slaves.specs.of_plan_ring.Round.{AllRound, behind, ring_after, ring_of}
use Rattle.seen_slaves.proofs.of_plan_ring.Lives.{front_round, one_after}
use Rattle.seen_slaves.specs.of_run_frames.Clocks.{Clocked}
use Rattle.seen_slaves.specs.of_run_frames.Fates.{lost_of}
use Rattle.seen_slaves.specs.of_run_frames.Runs.{Progress, nothing_sent}
use Rattle.seen_slaves.specs.of_run_frames.Tours.{IsVisited}
use Rattle.seen_slaves.specs.of_run_frames.Waits.{Waits, all_anew}
use Rattle.run_promises.specs.of_run_work.ServedGained.{asked_in}
use Rattle.gateway_run.proofs.of_run_record.Knowing.{all_known, lost_due}
use Rattle.run_promises.specs.of_segment_plan.declared.plan.Scenario.{Scenario}
use Rattle.run_promises.specs.of_segment_ring.Ring.{RingState}
use Rattle.run_promises.specs.of_segment_ring.declared.wire.Fate.{Fate}
use Rattle.run_promises.specs.of_segment_ring.declared.wire.Fate.TheVariants.{Pass, Lost}
use Rattle.seen_slaves.specs.of_served_places.Answered.{ServedAsks}
use Rattle.seen_slaves.specs.of_served_places.Toured.{IsServedToured, back_under, first_served, serves_on, still_served, waits_served}
use Rattle.seen_slaves.specs.of_served_rings.Rings.{AreServedLived}
use Rattle.run_promises.specs.of_life_runs.Served.{Keyed, MayAsk, Serves, ServedTurn, IsServedFrame, IsServedLed, all_serve, asked_at, served_behind}
use Rattle.seen_slaves.specs.Eager.{AllStaySo, AllStill, IsServedEager, ServedEagerIn, leads_of, turns_of}
use Rattle.run_promises.specs.of_slave_server.Serving.{Serving}
use Rattle.run_promises.specs.of_slave_node.Node.{Node}
use Rattle.promised_run.proofs.TouredTours.{FramesIn, Stays}

abbrev Slave : Type 0
Slave = Clocked Body Asked Reply

-- what the slaves of a plan's serving are, by laws
pub record Laws (plan : Scenario) : Type 0 where
  pub lived : (fs : List Exchanged) (missed : ℕ) (ws : List Serves) → IsServedLed (lens_of plan.slaves) plan.recover plan.retry (all_serve plan.paces (first_leads plan)) fs missed ws → AllRound (ring_of plan) fs → AreServedLived plan fs ws
  pub behind : AllBehind (lens_of plan.slaves) plan.slaves
  pub rooms : ScriptsMay plan
  pub due : ServedMailsAreDue plan
  pub apart : AreApart plan.slaves

-- what is remembered behind some frames, where so many were lost in a row
pub record Known : Type 0 where
  pub state : State
  pub missed : ℕ

-- it stays while nothing is asked
pub stays_same : (ms : List Remembered) → AllStaySo ms ms
stays_same [] = tt
stays_same (m ∷ ms) = (record { memory = refl; gets = record { packet = λ e. e; asked = λ e. e } }, stays_same ms)

-- one of three
either : (a b c : Bool) → (a || (b || c)) ≡ false → (a ≡ false) × (b ≡ false) × (c ≡ false)
either true b c e = absurd (cc)
either false true c e = absurd (cc)
either false false true e = absurd (cc)
either false false false e = (refl, refl, refl)

abbrev one_if : Bool → ℕ
one_if b = if b then 1 else 0

-- each that is so counts
pays : (a b c : Bool) (came stepped : ℕ) → (a || (b || c)) ≡ true → one_if b ≤ came → (c ≡ true → 1 ≤ stepped) → 1 ≤ one_if a + came + stepped
pays true b c came stepped e entered steps = omega arith
pays false true c came stepped e entered steps = omega (arith, entered)
pays false false true came stepped e entered steps = let some = steps refl in omega (arith, some)
pays false false false came stepped e entered steps = absurd (cc)

-- ---- whether two numbers are the same
same_or : (m n : ℕ) → (m ≡ n) ⊎ (m ≡ n → ⊥)
same_or m n = go (nat_lt m n) refl (nat_lt n m) refl
  where
    go : (a : Bool) → nat_lt m n ≡ a → (b : Bool) → nat_lt n m ≡ b → (m ≡ n) ⊎ (m ≡ n → ⊥)
    go true e b f = inr (λ same. let less = ltb-true m n e in omega (arith, less, same))
    go false e true f = inr (λ same. let less = ltb-true n m f in omega (arith, less, same))
    go false e false f = inl (let over = ltb-false m n e in let under = ltb-false n m f in omega (arith, over, under))

module _ (plan : Scenario) (laws : Laws plan) (slowest : ℕ) where
  abbrev pub Run : List Exchanged → Option (List ℕ) → ℕ → List Serves → Progress → List Slave → Type 0
  Run fs again missed ws p cs = IsServedToured (lens_of plan.slaves) plan.recover plan.retry slowest (all_serve plan.paces (first_leads plan)) fs again missed ws p cs

  abbrev pub Led : List Exchanged → ℕ → List Serves → Type 0
  Led fs missed ws = IsServedLed (lens_of plan.slaves) plan.recover plan.retry (all_serve plan.paces (first_leads plan)) fs missed ws

  -- THE SAME SERVING, where the frames that are let go count as lost
  pub record Counted (fs : List Exchanged) (again : Option (List ℕ)) (missed : ℕ) (ws : List Serves) (p : Progress) (cs : List Slave) (run : IsServedToured (lens_of plan.slaves) plan.recover plan.retry slowest (all_serve plan.paces (first_leads plan)) fs again missed ws p cs) (now : List Remembered) : Type 0 where
    pub lost : ℕ
    pub still : ℕ
    pub waits : List Waits
    pub toured : Run fs again missed ws (record p { lost = lost; still = still; waits = waits }) cs
    pub asks : ServedAsks run → ServedAsks toured
    pub last : List Remembered
    pub eager : ServedEagerIn plan toured last now
    -- a mail was asked since the last frame
    pub asked : Bool
    pub stays : asked ≡ false → AllStaySo last now

  -- what holds behind each frame, and each mail that is asked
  pub record Held (fs : List Exchanged) (again : Option (List ℕ)) (missed : ℕ) (ws : List Serves) (p : Progress) (cs : List Slave) (run : IsServedToured (lens_of plan.slaves) plan.recover plan.retry slowest (all_serve plan.paces (first_leads plan)) fs again missed ws p cs) (s : State) : Type 0 where
    pub isled : Led fs missed ws
    pub ring : s.ring ≡ ring_after (ring_of plan) fs
    pub known : AllKnow s.recalls
    pub counted : Counted fs again missed ws p cs run (remembers plan s.events 0 s.recalls ws)
    pub few : counted.lost + one_if counted.asked + steps_in ws ≤ lost_of fs + length (arrivals_at 0 s.events) + 6 * asked_in ws

  abbrev pub Holds : (fs : List Exchanged) (again : Option (List ℕ)) (missed : ℕ) (ws : List Serves) (p : Progress) (cs : List Slave) → IsServedToured (lens_of plan.slaves) plan.recover plan.retry slowest (all_serve plan.paces (first_leads plan)) fs again missed ws p cs → Known → Type 0
  Holds fs again missed ws p cs run s = (s.missed ≡ missed) × (AllRound (ring_of plan) fs → Held fs again missed ws p cs run s.state)

  abbrev pub Step : List Exchanged → List Serves → Exchanged → List ServedTurn → Known → Known → Type 0
  Step fs ws f vs r s = IsServedRecalled plan r.missed (length fs) ws f vs r.state s.state × (s.missed ≡ missed_behind (lens_of plan.slaves) plan.recover plan.retry f.fate r.missed)

  abbrev pub Ask : List Exchanged → List Serves → ℕ → Keyed → Known → Known → Type 0
  Ask fs ws place k r s = s ≡ r

  -- ---- a mail was asked
  asked_on : (fs : List Exchanged) (again : Option (List ℕ)) (missed : ℕ) (ws : List Serves) (p : Progress) (cs : List Slave) (place : ℕ) (k : Keyed) (run : IsServedToured (lens_of plan.slaves) plan.recover plan.retry slowest (all_serve plan.paces (first_leads plan)) fs again missed ws p cs)
      (may : MayAsk (lens_of plan.slaves) place k ws) (s : State) → Held fs again missed ws p cs run s → Held fs again missed (asked_at place k ws) p cs (IsServedToured.asks fs again missed ws p cs place k run may) s
  asked_on fs again missed ws p cs place k run may s h =
      let c = h.counted in
      let more = asked_steps (lens_of plan.slaves) place k ws may in
      record {
        isled = IsServedLed.asks fs missed ws place k h.isled may;
        ring = h.ring;
        known = h.known;
        counted = record {
          lost = c.lost;
          still = c.still;
          waits = c.waits;
          toured = IsServedToured.asks fs again missed ws (record p { lost = c.lost; still = c.still; waits = c.waits }) cs place k c.toured may;
          asks = c.asks;
          last = c.last;
          eager = (remembers plan s.events 0 s.recalls ws, c.eager);
          asked = true;
          stays = λ e. absurd (cc);
        };
        few = (let few = h.few in let steps = more.0 in let asked = more.1 in omega (arith, few, steps, asked));
      }

  -- ---- one frame
  module _ (fs : List Exchanged) (again : Option (List ℕ)) (missed : ℕ) (ws : List Serves) (p : Progress) (cs : List Slave) (f : Exchanged) (vs : List ServedTurn) (run : IsServedToured (lens_of plan.slaves) plan.recover plan.retry slowest (all_serve plan.paces (first_leads plan)) fs again missed ws p cs)
      (l : IsServedFrame (lens_of plan.slaves) (length fs) f.sent ws vs) (r s : State) (one : IsServedRecalled plan missed (length fs) ws f vs r s) (went : AllRound (ring_of plan) (fs ++ f ∷ [])) (h : Held fs again missed ws p cs run r) where
    abbrev lens : ℕ → Lens
    lens = lens_of plan.slaves

    abbrev gives : Bool
    gives = gives_up_at (lens_of plan.slaves) plan.recover plan.retry missed

    abbrev on : ServedTurn → Serves
    on v = served_behind (lens_of plan.slaves) plan.recover plan.retry (gives_up_at (lens_of plan.slaves) plan.recover plan.retry missed) (length fs) f v

    abbrev served : List Serves
    served = serves_on (lens_of plan.slaves) plan.recover plan.retry slowest missed (length fs) f vs

    abbrev now : List Remembered
    now = remembers plan r.events 0 r.recalls ws

    abbrev later : List Remembered
    later = remembers plan s.events 0 s.recalls (serves_on (lens_of plan.slaves) plan.recover plan.retry slowest missed (length fs) f vs)

    isled_on : Led (fs ++ f ∷ []) (missed_behind (lens_of plan.slaves) plan.recover plan.retry f.fate missed) served
    isled_on = IsServedLed.on fs missed ws f vs h.isled l

    ring_on : s.ring ≡ ring_after (ring_of plan) (fs ++ f ∷ [])
    ring_on = one.ring ∙ ap (λ (z : RingState (Node Serving)). behind z f.sent) h.ring ∙ sym (one_after (ring_of plan) fs f)

    known_back : f.fate ≡ Pass → AllKnow s.recalls
    known_back fate = all_known lens (seen lens f.back) on vs r.recalls s.recalls (one.returned fate) h.known (laws.due fs missed ws f vs h.isled l went fate)

    known_lost : (after : ℕ) → f.fate ≡ Lost after → AllKnow s.recalls
    known_lost after fate = all_known lens [] on vs r.recalls s.recalls (one.lost after fate) h.known (lost_due lens (turns_of vs))

    came : length (arrivals_at 0 r.events) + length (arrivals_at 0 one.events.making) ≤ length (arrivals_at 0 s.events)
    came = came_more r.events one.events.making one.events.behind s.events one.events.whole

    abbrev entered : Bool
    entered = has_entered one.events.making

    -- a mail that is passed on came a step on
    abbrev stepped : Bool
    stepped = nat_lt (steps_in served) (turns_in vs)

    steps_less : steps_in served ≤ turns_in vs
    steps_less = behinds_less lens plan.recover plan.retry gives (length fs) f vs

    turn_less : turns_in vs ≤ steps_in ws
    turn_less = turns_less lens (length fs) l.datagrams ws vs l.each

    asked_same : asked_in served ≡ asked_in ws
    asked_same = asked_behind lens plan.recover plan.retry gives (length fs) f (length fs) l.datagrams ws vs l.each

    stepped_one : stepped ≡ true → 1 ≤ turns_in vs - steps_in served
    stepped_one e = let less = ltb-true (steps_in served) (turns_in vs) e in omega (arith, less)

    -- it is let go where a mail was asked before it, or a packet of the host came in with it, or such a mail came a step on by it
    abbrev let_go : Bool
    let_go = h.counted.asked || (entered || stepped)

    paid : let_go ≡ true → 1 ≤ one_if h.counted.asked + length (arrivals_at 0 one.events.making) + (turns_in vs - steps_in served)
    paid e = pays h.counted.asked entered stepped (length (arrivals_at 0 one.events.making)) (turns_in vs - steps_in served) e (entered_few one.events.making) stepped_one

    -- as many count as lost as before it
    few_on : h.counted.lost + 0 + steps_in served ≤ lost_of (fs ++ f ∷ []) + length (arrivals_at 0 s.events) + 6 * asked_in served
    few_on =
        let few = h.few in
        let same = asked_same in
        let less = steps_less in
        let before = turn_less in
        let more = lost_more fs f in
        let packets = came in
        omega (arith, few, same, less, before, more, packets)

    -- or one more
    few_one : let_go ≡ true → suc h.counted.lost + 0 + steps_in served ≤ lost_of (fs ++ f ∷ []) + length (arrivals_at 0 s.events) + 6 * asked_in served
    few_one e =
        let few = h.few in
        let same = asked_same in
        let less = steps_less in
        let before = turn_less in
        let more = lost_more fs f in
        let packets = came in
        let one_more = paid e in
        omega (arith, few, same, less, before, more, packets, one_more)

    few_lost : (after : ℕ) → f.fate ≡ Lost after → suc h.counted.lost + 0 + steps_in served ≤ lost_of (fs ++ f ∷ []) + length (arrivals_at 0 s.events) + 6 * asked_in served
    few_lost after fate =
        let few = h.few in
        let same = asked_same in
        let less = steps_less in
        let before = turn_less in
        let more = lost_one fs f after fate in
        let packets = came in
        omega (arith, few, same, less, before, more, packets)

    -- ---- it came back, and isn't let go
    module _ (fate : f.fate ≡ Pass) (kept : let_go ≡ false) where
      abbrev none : (h.counted.asked ≡ false) × (entered ≡ false) × (stepped ≡ false)
      none = either h.counted.asked entered stepped kept

      lived : AreServedLived plan fs ws
      lived = laws.lived fs missed ws h.isled (front_round (ring_of plan) fs f went)

      may : AllMay (lens_of plan.slaves) (leads_of ws)
      may = may_all plan laws.apart laws.rooms 0 plan.slaves ws lived.nodes lived.at (λ i. ap (slice_get plan.slaves) (let sum : 0 + i ≡ i = omega arith in sum))

      no_rest : AllRest (lens_of plan.slaves) plan.slaves now (leads_of ws) (ring_after (ring_of plan) fs).nodes → ⊥
      no_rest rest =
          let all = rests_so plan r.events one.before one.before_is 0 plan.slaves r.recalls ws (ring_after (ring_of plan) fs).nodes h.known rest in
          let settled = settled_so plan r.events 0 plan.slaves r.recalls ws (ring_after (ring_of plan) fs).nodes laws.behind rest in
          let came_in = one.rests all (subst (λ (z : RingState (Node Serving)). AllSettled (leads_of ws) z.nodes) (sym h.ring) settled) in
          let closed = none.1 in
          (let no : false ≡ true = sym closed ∙ came_in in cc)

      all_still : AllStill on vs
      all_still = behinds_still lens plan.recover plan.retry gives (length fs) f vs (let closed = none.2 in let over = ltb-false (steps_in served) (turns_in vs) closed in over)

      pub eager_frame : (made : ℕ) → made ≡ length fs → IsServedEager plan plan.recover plan.retry missed fs f now later ws vs made
      eager_frame made same = record {
        eager = all_eager plan (length fs) l.datagrams (seen lens f.sent) r.events (r.events ++ one.events.making) one.lan one.lan_is 0 r.recalls ws vs l.each h.known one.still one.visits one.takes one.begins one.unvisited may
            (λ i idle quiet.
            let sum : 0 + i ≡ i = omega arith in
            subst (λ j. waiting_at plan r.events j ≡ []) (sym sum) (none_before plan f (turns_of vs) r.events s.events one.events none.1 i idle (subst (λ j. waiting_at plan (r.events ++ one.events.making) j ≡ []) sum quiet)));
        remembers = all_remember plan (length fs) l.datagrams (seen lens f.back) on r.events s.events 0 r.recalls s.recalls ws vs l.each one.still (one.returned fate) all_still;
        none = λ silent.
            gets_none plan plan.recover plan.retry gives (length fs) f (length fs) l.datagrams r.events s.events
            (none_more plan f (turns_of vs) r.events s.events one.events none.1 (one.events.quiet fate (all_quiet (seen lens f.back) (turns_of vs) silent))) 0 ws vs r.recalls s.recalls (seen lens f.back) on l.each (one.returned fate);
        still = subst (λ n. AllStill (served_behind lens plan.recover plan.retry gives n f) vs) (sym same) all_still;
        some = no_rest;
      }

    -- ---- how it counts
    module _ (frames : p.frames ≡ length fs) where
      abbrev c : Counted fs again missed ws p cs run (remembers plan r.events 0 r.recalls ws)
      c = h.counted

      abbrev q : Progress
      q = record p { lost = h.counted.lost; still = h.counted.still; waits = h.counted.waits }

      module _ (fate : f.fate ≡ Pass) (over : length cs ≤ p.opened) (ps : List ℕ) (visit : IsVisited again (length cs) p.opened p.last cs (map (back_under (seen (lens_of plan.slaves) f.back)) vs) ps) where
        abbrev many : ℕ
        many = still_served (lens_of plan.slaves) plan.recover plan.retry slowest (record p { lost = h.counted.lost; still = h.counted.still; waits = h.counted.waits }) f vs cs

        abbrev Round : Type 0
        Round = Held (fs ++ f ∷ []) None (missed_behind (lens_of plan.slaves) plan.recover plan.retry f.fate missed) (serves_on (lens_of plan.slaves) plan.recover plan.retry slowest missed (length fs) f vs) _ _ (IsServedToured.round fs again missed ws p cs f vs ps run l fate over visit) s

        -- it goes on counting
        keeps : (many ≡ suc h.counted.still → AllStaySo h.counted.last now × IsServedEager plan plan.recover plan.retry missed fs f now later ws vs p.frames) → Round
        keeps k = record {
          isled = isled_on;
          ring = ring_on;
          known = known_back fate;
          counted = record {
            lost = h.counted.lost;
            still = many;
            waits = waits_served (lens_of plan.slaves) plan.recover plan.retry slowest q f vs cs;
            toured = IsServedToured.round fs again missed ws q cs f vs ps h.counted.toured l fate over visit;
            asks = λ a. (a.0, h.counted.asks a.1);
            last = later;
            eager = (h.counted.last, now, k, h.counted.eager);
            asked = false;
            stays = λ e. stays_same later;
          };
          few = few_on;
        }

        -- or counts as lost
        lets : let_go ≡ true → many ≡ suc h.counted.still → Round
        lets go nothing = record {
          isled = isled_on;
          ring = ring_on;
          known = known_back fate;
          counted = record {
            lost = suc h.counted.lost;
            still = 0;
            waits = all_anew cs;
            toured = IsServedToured.enters fs again missed ws q cs f vs ps h.counted.toured l fate over visit nothing;
            asks = λ a. (a.0, h.counted.asks a.1);
            last = later;
            eager = (h.counted.last, now, h.counted.eager);
            asked = false;
            stays = λ e. stays_same later;
          };
          few = few_one go;
        }

        round_on : Round
        round_on = elim (same_or many (suc h.counted.still)) [
          | inl nothing ↦ by let_go refl nothing
          | inr gained ↦ keeps (λ nothing. absurd (gained nothing))
        ]
          where
            by : (b : Bool) → let_go ≡ b → many ≡ suc h.counted.still → Round
            by true go nothing = lets go nothing
            by false kept nothing = keeps (λ e. (h.counted.stays (none fate kept).0, eager_frame fate kept p.frames frames))

  pub stays : Stays (lens_of plan.slaves) plan.recover plan.retry slowest (all_serve plan.paces (first_leads plan)) Known Holds Step Ask
  stays = record {
    asks = λ fs again missed ws p cs place k run may frames led r s same kept.
        subst (λ (z : Known). Holds _ _ _ _ _ _ (IsServedToured.asks fs again missed ws p cs place k run may) z) (sym same) (kept.0, λ went. asked_on fs again missed ws p cs place k run may r.state (kept.1 went));
    lost = λ fs again missed ws p cs f vs after ps run l fate visit frames led r s one kept. (
      one.1 ∙ ap (λ n. missed_behind (lens_of plan.slaves) plan.recover plan.retry f.fate n) kept.0,
      λ went.
          let h = kept.1 (front_round (ring_of plan) fs f went) in
          let o = subst (λ n. IsServedRecalled plan n (length fs) ws f vs r.state s.state) kept.0 one.0 in
          let c = h.counted in
          let q = record p { lost = c.lost; still = c.still; waits = c.waits } in
          let later = remembers plan s.state.events 0 s.state.recalls (serves_on (lens_of plan.slaves) plan.recover plan.retry slowest missed (length fs) f vs) in
          record {
            isled = isled_on fs again missed ws p cs f vs run l r.state s.state o went h;
            ring = ring_on fs again missed ws p cs f vs run l r.state s.state o went h;
            known = known_lost fs again missed ws p cs f vs run l r.state s.state o went h after fate;
            counted = record {
              lost = suc c.lost;
              still = 0;
              waits = all_anew cs;
              toured = IsServedToured.lost fs again missed ws q cs f vs after ps c.toured l fate visit;
              asks = c.asks;
              last = later;
              eager = (c.last, remembers plan r.state.events 0 r.state.recalls ws, c.eager);
              asked = false;
              stays = λ e. stays_same later;
            };
            few = few_lost fs again missed ws p cs f vs run l r.state s.state o went h after fate;
          },
    );
    opening = λ fs again missed ws p cs f vs ps run l fate under visit frames led r s one kept. (
      one.1 ∙ ap (λ n. missed_behind (lens_of plan.slaves) plan.recover plan.retry f.fate n) kept.0,
      λ went.
          let h = kept.1 (front_round (ring_of plan) fs f went) in
          let o = subst (λ n. IsServedRecalled plan n (length fs) ws f vs r.state s.state) kept.0 one.0 in
          let c = h.counted in
          let q = record p { lost = c.lost; still = c.still; waits = c.waits } in
          let later = remembers plan s.state.events 0 s.state.recalls (serves_on (lens_of plan.slaves) plan.recover plan.retry slowest missed (length fs) f vs) in
          record {
            isled = isled_on fs again missed ws p cs f vs run l r.state s.state o went h;
            ring = ring_on fs again missed ws p cs f vs run l r.state s.state o went h;
            known = known_back fs again missed ws p cs f vs run l r.state s.state o went h fate;
            counted = record {
              lost = c.lost;
              still = c.still;
              waits = all_anew cs;
              toured = IsServedToured.opening fs again missed ws q cs f vs ps c.toured l fate under visit;
              asks = λ a. (a.0, c.asks a.1);
              last = later;
              eager = (c.last, remembers plan r.state.events 0 r.state.recalls ws, c.eager);
              asked = false;
              stays = λ e. stays_same later;
            };
            few = few_on fs again missed ws p cs f vs run l r.state s.state o went h;
          },
    );
    round = λ fs again missed ws p cs f vs ps run l fate over visit frames led r s one kept. (
      one.1 ∙ ap (λ n. missed_behind (lens_of plan.slaves) plan.recover plan.retry f.fate n) kept.0,
      λ went.
          let h = kept.1 (front_round (ring_of plan) fs f went) in
          let o = subst (λ n. IsServedRecalled plan n (length fs) ws f vs r.state s.state) kept.0 one.0 in
          round_on fs again missed ws p cs f vs run l r.state s.state o went h frames fate over ps visit,
    );
  }

  -- ---- before the first frame
  pub starts : steps_in (all_serve plan.paces (first_leads plan)) ≡ 0 → (s : Known) → IsFirst plan s.state × (s.missed ≡ 0) → Holds _ _ _ _ _ _ IsServedToured.start s
  starts none s begun = (
    begun.1,
    λ went. record {
      isled = IsServedLed.start;
      ring = begun.0.ring;
      known = begun.0.known;
      counted = record {
        lost = 0;
        still = 0;
        waits = (nothing_sent None (first_served (all_serve plan.paces (first_leads plan)))).waits;
        toured = IsServedToured.start;
        asks = λ a. tt;
        last = remembers plan s.state.events 0 s.state.recalls (all_serve plan.paces (first_leads plan));
        eager = tt;
        asked = false;
        stays = λ e. stays_same (remembers plan s.state.events 0 s.state.recalls (all_serve plan.paces (first_leads plan)));
      };
      few = omega (arith, none);
    },
  )

  -- ---- frame by frame, as the tour is walked
  missed_on : (fate : Fate) (t : Tour) (ws : List Serves) (visit : List ℕ) → (tour_behind plan.retry fate (map run_lead ws) t visit).missed ≡ missed_behind (lens_of plan.slaves) plan.recover plan.retry fate t.missed
  missed_on Pass t ws visit = refl
  missed_on (Lost after) t ws visit = go (nat_lt t.missed plan.retry)
    where
      go : (b : Bool) → (if b then record t { again = Some visit; missed = t.missed + 1 } else goes_on is_opening_lead (map run_lead ws) t visit).missed ≡ (if b then t.missed + 1 else 0)
      go true = refl
      go false = refl

  pub frames : {fs : List Exchanged} {t : Tour} {ws : List Serves} (toured : Visits.IsTourServed (lens_of plan.slaves) plan.recover plan.retry (all_serve plan.paces (first_leads plan)) fs t ws) (s : State) → ServedRecalledIn plan toured s →
      FramesIn (lens_of plan.slaves) plan.recover plan.retry slowest (all_serve plan.paces (first_leads plan)) (λ (z : Known). IsFirst plan z.state × (z.missed ≡ 0)) Step Ask toured (record { state = s; missed = t.missed })
  frames Visits.IsTourServed.start s k = (k, refl)
  frames (Visits.IsTourServed.asks fs t ws place key before fits) s k = (record { state = s; missed = t.missed }, refl, frames before s k)
  frames (Visits.IsTourServed.on fs t ws f vs visit before led of) s k = (
    record { state = k.0; missed = t.missed },
    (k.1, missed_on f.fate t (serves_on (lens_of plan.slaves) plan.recover plan.retry slowest t.missed (length fs) f vs) visit),
    frames before k.0 k.2,
  )
