-- One frame of a serving, as its master made it and as the count of frames has it.
use Rattle.std.proofs.Common.{◌≡◌, ℕ, suc, ◌+◌, Bool, true, false, None, List, [], ◌∷◌, map, sym, ap, ◌∙◌, subst, arith, if◌then◌else◌, is_some}
use Rattle.std.specs.Prelude.{slice_get, Option}
use Rattle.promised_run.specs.Runs.{is_waiting, waiting_at}
use Rattle.promised_run.proofs.Frames.{gets_one, none_is}
use Rattle.promised_run.proofs.Maps.{full_is, memory, memory_behind_is}
use Rattle.promised_run.proofs.Rests.{at_port}
use Rattle.promised_run.proofs.Scripts.{AllMay, MayAll, none_left}
use Rattle.run_promises.specs.of_datagrams.Datagram as Raw
use Rattle.promised_run.specs.Eager.{has_mail, remembers}
use Rattle.promised_run.proofs.EagerMaps.{each_asks, hand_held, memory_same, visit_is}
use Rattle.run_promises.specs.of_eoe_switch.declared.switching.SwitchEvent.{SwitchEvent}
use Rattle.seen_slaves.specs.of_frame_view.View.{Lens}
use Rattle.seen_slaves.specs.of_idle_slaves.Eager as Eager
use Rattle.seen_slaves.specs.of_idle_slaves.Eager.{AllEager, AllGetNone, AllRemember, IsAtEnd, IsClear, IsDraining, IsEager, IsInVain, MayBegin, NoneLeft, Remembered, RemembersOn}
use Rattle.seen_slaves.specs.of_idle_slaves.Visited.{life_visit, memory_of}
use Rattle.seen_slaves.specs.of_idle_slaves.Waiting.{memory_behind}
use Rattle.seen_slaves.proofs.of_idle_slaves.Choices.{stand_next}
use Rattle.run_promises.specs.of_life_model.Lives.{Life, Spot, Stand}
use Rattle.run_promises.specs.of_life_model.Own.{own}
use Rattle.run_promises.specs.of_life_runs.First.{lens_of}
use Rattle.run_promises.specs.of_life_runs.Led.{Exchanged, speech_at}
use Rattle.run_promises.specs.of_link_mails.Body.{Body}
use Rattle.seen_slaves.specs.of_master_duty.Reply.{Reply}
use Rattle.seen_slaves.specs.of_master_hand.Spoken.{Asked, acknowledged, is_followed, is_passed}
use Rattle.run_promises.specs.of_master_node.Begins.{begun_of}
use Rattle.run_promises.specs.of_master_node.Eager as Master
use Rattle.run_promises.specs.of_master_node.Recalled.{AllKnow}
use Rattle.run_promises.specs.of_master_node.ServedEager.{AllServedAsk, AllServedBegin, AllServedRecall, AllServedStill, ServedBegins, ServedRecallsBack, ServedVisitAsks}
use Rattle.run_promises.specs.of_master_node.Starts as Starts
use Rattle.run_promises.specs.of_master_node.declared.lan.Lan.{Lan}
use Rattle.seen_slaves.specs.of_master_side.Recall.{Recall}
use Rattle.run_promises.specs.of_packets_heard.Recalled.{IsLanOf}
use Rattle.run_promises.specs.of_segment_model.Slaves.{Datagram}
use Rattle.run_promises.specs.of_segment_plan.declared.plan.Scenario.{Scenario}
use Rattle.run_promises.specs.of_segment_plan.declared.service.Service as Plan
use Rattle.run_promises.specs.of_life_runs.Served.{Keyed, Serves, ServedTurn, ServedComes, IsServedTurn, AllServedTurn, gives_it, served_behind}
use Rattle.run_promises.specs.of_life_runs.Told.{Passed}
use Rattle.seen_slaves.specs.Eager.{AllStill, leads_of, turns_of}
use Rattle.run_promises.specs.of_state_model.Stated.{Service}

module _ (plan : Scenario) where
  abbrev lens : ℕ → Lens
  lens = lens_of plan.slaves

  abbrev recalled : List SwitchEvent → ℕ → Recall → Serves → Remembered
  recalled es place m w = record { memory = record { paused = m.paused; turn = m.turn }; packet = is_waiting (waiting_at plan es place); asked = has_mail w.waits }

  module _ (number : ℕ) (ds : List Raw.Datagram) where
    -- ---- what is remembered stays with what comes into hand
    module _ (m : Recall) (w : Serves) (v : ServedTurn) (turn : IsServedTurn (lens_of plan.slaves) number ds w v) (still : w.lead.lived.life.stand ≡ Stand.Open → w.lead.lived.life.era.account.hand ≡ None → w.lead.lived.life.era.passing ≡ None → m.turn ≡ false) where
      abbrev old : Life Body Asked Reply
      old = w.lead.lived.life

      abbrev new : Life Body Asked Reply
      new = v.turn.lived.life

      before_stands : new.stand ≡ Stand.Open → old.stand ≡ Stand.Open
      before_stands e = sym (ap (λ (l : Life Body Asked Reply). l.stand) turn.next.life ∙ stand_next (speech_at lens w.lead.lived.spot) acknowledged is_followed is_passed number old turn.next.pick) ∙ e

      pub memory_stays : v.turn.lived.life.stand ≡ Stand.Open → memory_of w.lead.lived.life v.turn.lived.life (memory m) ≡ memory m
      memory_stays e = memory_same old.era.account.hand new.era.account.hand old.era.passing (memory m) (still (before_stands e))
          (λ q p h. ap (λ (l : Life Body Asked Reply). l.era.account.hand) turn.next.life ∙ hand_held (speech_at lens w.lead.lived.spot) number old old.stand turn.next.pick q p h)

    -- ---- no visit in vain
    module _ (sent : List (Datagram Body)) (es more : List SwitchEvent) (l : Lan) (is : IsLanOf plan l more) where
      module _ (place : ℕ) (m : Recall) (w : Serves) (v : ServedTurn) (turn : IsServedTurn (lens_of plan.slaves) number ds w v) (known : m.knows ≡ true) (still : w.lead.lived.life.stand ≡ Stand.Open → w.lead.lived.life.era.account.hand ≡ None → w.lead.lived.life.era.passing ≡ None → m.turn ≡ false)
          (visits : ServedVisitAsks sent m v.turn) (takes : Master.TakesUp (lens_of plan.slaves) m v.turn) (begins : ServedBegins (lens_of plan.slaves) l place m w v.turn) (unvisited : v.turn.share.under ≡ false → v.turn.begun ≡ None) (may : MayAll (lens_of plan.slaves) w.lead)
          (before : v.turn.begun ≡ None → waiting_at plan more place ≡ [] → waiting_at plan es place ≡ []) where
        abbrev era : Life Body Asked Reply
        era = v.turn.lived.life

        asks_one : IsClear v.turn.lived.life → Eager.EachAsksFor v.turn.lived.life.era.side.halves (memory_of w.lead.lived.life v.turn.lived.life (memory m)) v.turn.lived.life.era.account.hand v.turn.lived.life.era.passing (own w.lead.lived.spot.station sent)
        asks_one clear =
            subst (λ z. Eager.EachAsksFor era.era.side.halves z era.era.account.hand era.era.passing (own w.lead.lived.spot.station sent)) (sym (memory_stays m w v turn still clear.stands))
            (subst (λ (y : Spot). Eager.EachAsksFor era.era.side.halves (memory m) era.era.account.hand era.era.passing (own y.station sent)) turn.next.spot
            (each_asks era.era.side.halves m era.era.account.hand era.era.passing (own v.turn.lived.spot.station sent) (visits (record { stands = clear.stands; clear = clear.clear }))))

        takes_one : v.turn.share.under ≡ true → IsClear v.turn.lived.life → v.turn.lived.life.era.side.halves.out.holding ≡ None → NoneLeft (speech_at (lens_of plan.slaves) w.lead.lived.spot) v.turn.lived.life
        takes_one e clear free = subst (λ (y : Spot). NoneLeft (speech_at (lens_of plan.slaves) y) v.turn.lived.life) turn.next.spot (λ r now. takes known clear.stands e free r now)

        ends_one : v.turn.share.under ≡ true → IsClear w.lead.lived.life → MayBegin (speech_at (lens_of plan.slaves) w.lead.lived.spot) w.lead.lived.life → v.turn.begun ≡ None → IsAtEnd (slice_get w.lead.script w.lead.number) (recalled es place m w)
        ends_one e clear free idle =
            let end = begins known (record { stands = clear.stands; free = free.free; done = free.done; hand = free.hand }) free.passing e idle in
            record {
              script = none_left (lens w.lead.lived.spot.station).out (slice_get w.lead.script w.lead.number) (λ service at. may w.lead.number service at) end.0.script;
              packet = none_is (waiting_at plan es place) (before idle (sym (at_port plan [] more l is place) ∙ end.0.packet));
              asked = ap has_mail end.1;
            }

        pub eager_one : IsEager (speech_at (lens_of plan.slaves) w.lead.lived.spot) w.lead.lived.spot.station sent (record { memory = record { paused = m.paused; turn = m.turn }; packet = is_waiting (waiting_at plan es place); asked = has_mail w.waits }) v.turn.share.under v.turn.begun (slice_get w.lead.script w.lead.number) w.lead.lived.life v.turn.lived.life
        eager_one = record { begins = unvisited; asks = asks_one; takes = takes_one; ends = ends_one }

      pub all_eager : (place : ℕ) (ms : List Recall) (ws : List Serves) (vs : List ServedTurn) → AllServedTurn (lens_of plan.slaves) number ds ws vs → AllKnow ms → AllServedStill ms (leads_of ws) → AllServedAsk sent ms (turns_of vs) → Master.AllTakeUp (lens_of plan.slaves) ms (turns_of vs) →
          AllServedBegin (lens_of plan.slaves) l place ms ws (turns_of vs) → Starts.AllUnvisited (turns_of vs) → AllMay (lens_of plan.slaves) (leads_of ws) → ((i : ℕ) → begun_of (turns_of vs) i ≡ None → waiting_at plan more (place + i) ≡ [] → waiting_at plan es (place + i) ≡ []) →
          AllEager (lens_of plan.slaves) sent (remembers plan es place ms ws) (leads_of ws) (turns_of vs)
      all_eager place [] [] [] t k s a u b n y z = tt
      all_eager place [] [] (v ∷ vs) t k s a u b n y z = absurd t
      all_eager place [] (w ∷ ws) vs t k s a u b n y z = absurd s
      all_eager place (m ∷ ms) [] vs t k s a u b n y z = absurd s
      all_eager place (m ∷ ms) (w ∷ ws) [] t k s a u b n y z = absurd t
      all_eager place (m ∷ ms) (w ∷ ws) (v ∷ vs) t k s a u b n y z = (
        eager_one place m w v t.0 k.0 s.0 a.0 u.0 b.0 n.0 y.0
            (λ idle none.
            let sum : place + 0 ≡ place = omega arith in
            subst (λ (i : ℕ). waiting_at plan es i ≡ []) sum (z 0 idle (subst (λ (i : ℕ). waiting_at plan more i ≡ []) (sym sum) none))),
        all_eager (suc place) ms ws vs t.1 k.1 s.1 a.1 u.1 b.1 n.1 y.1
            (λ i idle none.
            let sum : place + suc i ≡ suc place + i = omega arith in
            subst (λ (j : ℕ). waiting_at plan es j ≡ []) sum (z (suc i) idle (subst (λ (j : ℕ). waiting_at plan more j ≡ []) (sym sum) none))),
      )

    -- ---- what it leaves to remember
    module _ (back : List (Datagram Body)) (behind : ServedTurn → Serves) (es more : List SwitchEvent) where
      module _ (place : ℕ) (m n : Recall) (w : Serves) (v : ServedTurn) (turn : IsServedTurn (lens_of plan.slaves) number ds w v) (still : w.lead.lived.life.stand ≡ Stand.Open → w.lead.lived.life.era.account.hand ≡ None → w.lead.lived.life.era.passing ≡ None → m.turn ≡ false)
          (recalls : ServedRecallsBack (lens_of plan.slaves) back (behind v).lead.lived.life.era.passing v.turn m n) (stays : (behind v).lead.lived.life.era.passing ≡ v.turn.lived.life.era.passing) where
        visited_one : v.turn.share.under ≡ true → IsClear v.turn.lived.life → IsDraining v.turn.lived.life.era.account.hand → (d : Datagram Body) → own w.lead.lived.spot.station back ≡ d ∷ [] →
            (let mem = memory_of w.lead.lived.life v.turn.lived.life (memory m) in let visit = life_visit v.turn.lived.life mem in IsInVain visit d → memory n ≡ memory_behind mem visit)
        visited_one e clear drains d one =
            subst (λ mem. IsInVain (life_visit v.turn.lived.life mem) d → memory n ≡ memory_behind mem (life_visit v.turn.lived.life mem)) (sym (memory_stays m w v turn still clear.stands)) (λ vain.
            let visit = life_visit v.turn.lived.life (memory m) in
            let both = recalls.visited stays (record { stands = clear.stands; clear = clear.clear }) e visit (visit_is m v.turn.lived.life.era.account.hand v.turn.lived.life.era.passing (is_some v.turn.lived.life.era.side.halves.out.holding) drains) d
            (ap (λ (y : Spot). own y.station back) turn.next.spot ∙ one) (full_is visit d vain) in
            memory_behind_is m n visit d vain both.0 both.1)

        pub remembers_one : (asked : Bool) → RemembersOn w.lead.lived.spot.station back (recalled es place m w) (record { memory = record { paused = n.paused; turn = n.turn }; packet = is_waiting (waiting_at plan more place); asked = asked }) v.turn.share.under w.lead.lived.life v.turn.lived.life
        remembers_one asked = record { visited = visited_one; unvisited = λ e stands. ap memory (recalls.unvisited stands e) }

      pub all_remember : (place : ℕ) (ms ns : List Recall) (ws : List Serves) (vs : List ServedTurn) → AllServedTurn (lens_of plan.slaves) number ds ws vs → AllServedStill ms (leads_of ws) → AllServedRecall (lens_of plan.slaves) back behind vs ms ns → AllStill behind vs →
          AllRemember back (remembers plan es place ms ws) (remembers plan more place ns (map behind vs)) (leads_of ws) (turns_of vs)
      all_remember place [] [] [] [] t s r z = tt
      all_remember place [] [] [] (v ∷ vs) t s r z = absurd t
      all_remember place [] [] (w ∷ ws) vs t s r z = absurd s
      all_remember place [] (n ∷ ns) [] [] t s r z = absurd r
      all_remember place [] (n ∷ ns) [] (v ∷ vs) t s r z = absurd t
      all_remember place [] (n ∷ ns) (w ∷ ws) vs t s r z = absurd s
      all_remember place (m ∷ ms) ns [] vs t s r z = absurd s
      all_remember place (m ∷ ms) ns (w ∷ ws) [] t s r z = absurd t
      all_remember place (m ∷ ms) [] (w ∷ ws) (v ∷ vs) t s r z = absurd r
      all_remember place (m ∷ ms) (n ∷ ns) (w ∷ ws) (v ∷ vs) t s r z = (remembers_one place m n w v t.0 s.0 r.0 z.0 (has_mail (behind v).waits), all_remember (suc place) ms ns ws vs t.1 s.1 r.1 z.1)

-- ---- packets, and mails that wait
mails_less : (gives : Bool) (ks : List Keyed) → has_mail (if gives then [] else ks) ≡ true → has_mail ks ≡ true
mails_less true ks e = absurd (cc)
mails_less false ks e = e

pub mails_before : {room : ℕ} {script : List Plan.Service} {waits waits' : List Keyed} {hand hand' : Option Passed} {n m : ℕ} {b : Option (Service Asked)} → ServedComes room script waits hand n b m waits' hand' → has_mail waits' ≡ true → has_mail waits ≡ true
mails_before ServedComes.none e = e
mails_before (ServedComes.own s m c) e = e
mails_before (ServedComes.mail k rest is) e = ap has_mail is

module _ (plan : Scenario) (recover retry : ℕ) (gives : Bool) (made : ℕ) (f : Exchanged) (number : ℕ) (ds : List Raw.Datagram) (es more : List SwitchEvent) (none : (k : ℕ) → waiting_at plan es k ≡ [] → waiting_at plan more k ≡ []) where
  pub gets_none : (place : ℕ) (ws : List Serves) (vs : List ServedTurn) (ms ns : List Recall) (back : List (Datagram Body)) (behind : ServedTurn → Serves) → AllServedTurn (lens_of plan.slaves) number ds ws vs → AllServedRecall (lens_of plan.slaves) back behind vs ms ns →
      AllGetNone (remembers plan es place ms ws) (remembers plan more place ns (map (served_behind (lens_of plan.slaves) recover retry gives made f) vs))
  gets_none place [] [] [] [] back behind t r = tt
  gets_none place [] [] [] (n ∷ ns) back behind t r = absurd r
  gets_none place [] [] (m ∷ ms) ns back behind t r = absurd r
  gets_none place [] (v ∷ vs) ms ns back behind t r = absurd t
  gets_none place (w ∷ ws) [] ms ns back behind t r = absurd t
  gets_none place (w ∷ ws) (v ∷ vs) [] ns back behind t r = absurd r
  gets_none place (w ∷ ws) (v ∷ vs) (m ∷ ms) [] back behind t r = absurd r
  gets_none place (w ∷ ws) (v ∷ vs) (m ∷ ms) (n ∷ ns) back behind t r = (
    record { packet = gets_one plan (waiting_at plan es place) (waiting_at plan more place) (none place); asked = λ e. mails_before t.0.comes (mails_less (gives_it (lens_of plan.slaves) recover retry gives f.fate v) v.waits e) },
    gets_none (suc place) ws vs ms ns back behind t.1 r.1,
  )
