-- One frame of a run, as its master made it and as the count of frames has it.
use Rattle.std.proofs.Common.{◌≡◌, ℕ, suc, ◌+◌, true, false, is_some, None, List, [], ◌∷◌, refl, sym, ap, ◌∙◌, subst, arith}
use Rattle.std.specs.Prelude.{slice_get}
use Rattle.arrayvec.specs.ArrayVec.{ArrayVec}
use Rattle.run_promises.specs.of_datagrams.Datagram as Raw
use Rattle.seen_slaves.specs.of_idle_slaves.Eager as Eager
use Rattle.seen_slaves.specs.of_idle_slaves.Eager.{AllEager, AllGetNone, AllRemember, IsAtEnd, IsClear, IsDraining, IsEager, IsInVain, MayBegin, NoneLeft, Remembered, RemembersOn}
use Rattle.seen_slaves.proofs.of_idle_slaves.Choices.{stand_next}
use Rattle.run_promises.specs.of_eoe_switch.declared.switching.SwitchEvent.{SwitchEvent}
use Rattle.seen_slaves.specs.of_frame_view.View.{Lens}
use Rattle.seen_slaves.specs.of_idle_slaves.Visited.{life_visit, memory_of}
use Rattle.seen_slaves.specs.of_idle_slaves.Waiting.{memory_behind}
use Rattle.run_promises.specs.of_life_model.Lives.{Life, Spot, Stand}
use Rattle.run_promises.specs.of_life_model.Own.{own}
use Rattle.run_promises.specs.of_life_runs.First.{lens_of}
use Rattle.run_promises.specs.of_life_runs.Led.{Leads, Turn, IsTurn, AllTurn, speech_at, is_passed}
use Rattle.run_promises.specs.of_link_mails.Body.{Body}
use Rattle.run_promises.specs.of_link_model.Frames.{all_accepted}
use Rattle.seen_slaves.specs.of_master_duty.Reply.{Reply}
use Rattle.seen_slaves.specs.of_master_hand.Spoken.{Asked, acknowledged, is_followed}
use Rattle.run_promises.specs.of_master_node.Begins.{begun_of}
use Rattle.run_promises.specs.of_master_node.Eager as Master
use Rattle.run_promises.specs.of_master_node.Recalled.{AllKnow, AllRecall, RecallsBack}
use Rattle.run_promises.specs.of_master_node.Starts as Starts
use Rattle.run_promises.specs.of_master_node.declared.lan.Lan.{Lan}
use Rattle.seen_slaves.specs.of_master_side.Recall.{Recall}
use Rattle.run_promises.specs.of_master_tour.Brings.{accepted_at}
use Rattle.run_promises.specs.of_packets_heard.Recalled.{AllQuiet, AllStill, IsLanOf}
use Rattle.run_promises.specs.of_segment_model.Slaves.{Datagram, grams}
use Rattle.run_promises.specs.of_segment_plan.declared.plan.Scenario.{Scenario}
use Rattle.seen_slaves.specs.of_idle_slaves.WaitEager.{AllSilent}
use Rattle.seen_slaves.specs.of_plan_ring.Dues.{AllDue}
use Rattle.gateway_run.proofs.of_run_record.Knowing.{lost_due}
use Rattle.promised_run.specs.Runs.{is_waiting, remembered, waiting_at}
use Rattle.promised_run.proofs.Maps.{each_asks, full_is, memory, memory_behind_is, memory_same, visit_is}
use Rattle.promised_run.proofs.Rests.{at_port}
use Rattle.promised_run.proofs.Scripts.{AllMay, MayAll, none_left}
use Rattle.promised_run.proofs.Unpassed.{TurnsUnpassed}

pub none_is : (q : List (ArrayVec ℕ)) → q ≡ [] → is_waiting q ≡ false
none_is q e = ap is_waiting e

module _ (plan : Scenario) where
  abbrev lens : ℕ → Lens
  lens = lens_of plan.slaves

  abbrev recalled : List SwitchEvent → ℕ → Recall → Remembered
  recalled es place m = record { memory = record { paused = m.paused; turn = m.turn }; packet = is_waiting (waiting_at plan es place); asked = false }

  -- a slave that is open before the frame was
  stand_before : (number : ℕ) (ds : List Raw.Datagram) (a : Leads) (u : Turn) → IsTurn (lens_of plan.slaves) number ds a u → u.lived.life.stand ≡ Stand.Open → a.lived.life.stand ≡ Stand.Open
  stand_before number ds a u turn e = sym (ap (λ (l : Life Body Asked Reply). l.stand) turn.next.life ∙ stand_next (speech_at lens a.lived.spot) acknowledged is_followed is_passed number a.lived.life turn.next.pick) ∙ e

  -- ---- no visit in vain
  module _ (number : ℕ) (sent : List (Datagram Body)) (ds : List Raw.Datagram) (es more : List SwitchEvent) (l : Lan) (is : IsLanOf plan l more) where
    module _ (place : ℕ) (m : Recall) (a : Leads) (u : Turn) (turn : IsTurn (lens_of plan.slaves) number ds a u) (known : m.knows ≡ true) (still : a.lived.life.stand ≡ Stand.Open → a.lived.life.era.account.hand ≡ None → m.turn ≡ false) (visits : Master.VisitAsks sent m u)
        (takes : Master.TakesUp (lens_of plan.slaves) m u) (begins : Starts.BeginsAll (lens_of plan.slaves) l place m a u) (unvisited : u.share.under ≡ false → u.begun ≡ None) (may : MayAll (lens_of plan.slaves) a)
        (before : u.begun ≡ None → waiting_at plan more place ≡ [] → waiting_at plan es place ≡ []) (unpassed : u.lived.life.era.passing ≡ None) where
      asks_one : IsClear u.lived.life → Eager.EachAsksFor u.lived.life.era.side.halves (memory_of a.lived.life u.lived.life (memory m)) u.lived.life.era.account.hand u.lived.life.era.passing (own a.lived.spot.station sent)
      asks_one clear =
          subst (λ z. Eager.EachAsksFor u.lived.life.era.side.halves z u.lived.life.era.account.hand u.lived.life.era.passing (own a.lived.spot.station sent)) (sym (memory_same a.lived.life u.lived.life m (still (stand_before number ds a u turn clear.stands))))
          (subst (λ (y : Spot). Eager.EachAsksFor u.lived.life.era.side.halves (memory m) u.lived.life.era.account.hand u.lived.life.era.passing (own y.station sent)) turn.next.spot
          (each_asks u.lived.life.era.side.halves m u.lived.life.era.account.hand u.lived.life.era.passing (own u.lived.spot.station sent) unpassed (visits (record { stands = clear.stands; clear = clear.clear }))))

      takes_one : u.share.under ≡ true → IsClear u.lived.life → u.lived.life.era.side.halves.out.holding ≡ None → NoneLeft (speech_at (lens_of plan.slaves) a.lived.spot) u.lived.life
      takes_one e clear free = subst (λ (y : Spot). NoneLeft (speech_at (lens_of plan.slaves) y) u.lived.life) turn.next.spot (λ r now. takes known clear.stands e free r now)

      ends_one : u.share.under ≡ true → IsClear a.lived.life → MayBegin (speech_at (lens_of plan.slaves) a.lived.spot) a.lived.life → u.begun ≡ None → IsAtEnd (slice_get a.script a.number) (recalled es place m)
      ends_one e clear free idle =
          let end = begins known (record { stands = clear.stands; free = free.free; done = free.done; hand = free.hand }) e idle in
          record {
            script = none_left (lens a.lived.spot.station).out (slice_get a.script a.number) (λ service at. may a.number service at) end.script;
            packet = none_is (waiting_at plan es place) (before idle (sym (at_port plan [] more l is place) ∙ end.packet));
            asked = refl;
          }

      pub eager_one : IsEager (speech_at (lens_of plan.slaves) a.lived.spot) a.lived.spot.station sent (record { memory = record { paused = m.paused; turn = m.turn }; packet = is_waiting (waiting_at plan es place); asked = false }) u.share.under u.begun (slice_get a.script a.number) a.lived.life u.lived.life
      eager_one = record { begins = unvisited; asks = asks_one; takes = takes_one; ends = ends_one }

    pub all_eager : (place : ℕ) (ms : List Recall) (as' : List Leads) (us : List Turn) → AllTurn (lens_of plan.slaves) number ds as' us → AllKnow ms → AllStill ms as' → Master.AllVisit sent ms us → Master.AllTakeUp (lens_of plan.slaves) ms us →
        Starts.AllBegin (lens_of plan.slaves) l place ms as' us → Starts.AllUnvisited us → AllMay (lens_of plan.slaves) as' → ((i : ℕ) → begun_of us i ≡ None → waiting_at plan more (place + i) ≡ [] → waiting_at plan es (place + i) ≡ []) → TurnsUnpassed us → AllEager (lens_of plan.slaves) sent (remembered plan es place ms) as' us
    all_eager place [] [] [] t k s v u b n y w z = tt
    all_eager place [] [] (x ∷ us) t k s v u b n y w z = absurd t
    all_eager place [] (a ∷ as') us t k s v u b n y w z = absurd s
    all_eager place (m ∷ ms) [] us t k s v u b n y w z = absurd s
    all_eager place (m ∷ ms) (a ∷ as') [] t k s v u b n y w z = absurd t
    all_eager place (m ∷ ms) (a ∷ as') (x ∷ us) t k s v u b n y w z = (
      eager_one place m a x t.0 k.0 s.0 v.0 u.0 b.0 n.0 y.0
          (λ idle none.
          let sum : place + 0 ≡ place = omega arith in
          subst (λ (i : ℕ). waiting_at plan es i ≡ []) sum (w 0 idle (subst (λ (i : ℕ). waiting_at plan more i ≡ []) (sym sum) none))) z.0,
      all_eager (suc place) ms as' us t.1 k.1 s.1 v.1 u.1 b.1 n.1 y.1
          (λ i idle none.
          let sum : place + suc i ≡ suc place + i = omega arith in
          subst (λ (j : ℕ). waiting_at plan es j ≡ []) sum (w (suc i) idle (subst (λ (j : ℕ). waiting_at plan more j ≡ []) (sym sum) none))) z.1,
    )

  -- ---- what it leaves to remember
  module _ (number : ℕ) (back : List (Datagram Body)) (ds : List Raw.Datagram) (es more : List SwitchEvent) where
    module _ (place : ℕ) (m n : Recall) (a : Leads) (u : Turn) (turn : IsTurn (lens_of plan.slaves) number ds a u) (still : a.lived.life.stand ≡ Stand.Open → a.lived.life.era.account.hand ≡ None → m.turn ≡ false) (recalls : RecallsBack (lens_of plan.slaves) back u m n) (unpassed : u.lived.life.era.passing ≡ None) where
      visited_one : u.share.under ≡ true → IsClear u.lived.life → IsDraining u.lived.life.era.account.hand → (d : Datagram Body) → own a.lived.spot.station back ≡ d ∷ [] →
          (let mem = memory_of a.lived.life u.lived.life (memory m) in let visit = life_visit u.lived.life mem in IsInVain visit d → memory n ≡ memory_behind mem visit)
      visited_one e clear drains d one =
          subst (λ mem. IsInVain (life_visit u.lived.life mem) d → memory n ≡ memory_behind mem (life_visit u.lived.life mem)) (sym (memory_same a.lived.life u.lived.life m (still (stand_before number ds a u turn clear.stands)))) (λ vain.
          let visit = life_visit u.lived.life (memory m) in
          let both = recalls.visited (record { stands = clear.stands; clear = clear.clear }) e visit (visit_is m u.lived.life.era.account.hand u.lived.life.era.passing (is_some u.lived.life.era.side.halves.out.holding) unpassed drains) d
          (ap (λ (y : Spot). own y.station back) turn.next.spot ∙ one) (full_is visit d vain) in
          memory_behind_is m n visit d vain both.0 both.1)

      pub remembers_one : RemembersOn a.lived.spot.station back (recalled es place m) (recalled more place n) u.share.under a.lived.life u.lived.life
      remembers_one = record { visited = visited_one; unvisited = λ e stands. ap memory (recalls.unvisited stands e) }

    pub all_remember : (place : ℕ) (ms ns : List Recall) (as' : List Leads) (us : List Turn) → AllTurn (lens_of plan.slaves) number ds as' us → AllStill ms as' → AllRecall (lens_of plan.slaves) back us ms ns → TurnsUnpassed us → AllRemember back (remembered plan es place ms) (remembered plan more place ns) as' us
    all_remember place [] [] [] [] t s r z = tt
    all_remember place [] [] [] (u ∷ us) t s r z = absurd t
    all_remember place [] [] (a ∷ as') us t s r z = absurd s
    all_remember place [] (n ∷ ns) [] [] t s r z = absurd r
    all_remember place [] (n ∷ ns) [] (u ∷ us) t s r z = absurd t
    all_remember place [] (n ∷ ns) (a ∷ as') us t s r z = absurd s
    all_remember place (m ∷ ms) ns [] us t s r z = absurd s
    all_remember place (m ∷ ms) ns (a ∷ as') [] t s r z = absurd t
    all_remember place (m ∷ ms) [] (a ∷ as') (u ∷ us) t s r z = absurd r
    all_remember place (m ∷ ms) (n ∷ ns) (a ∷ as') (u ∷ us) t s r z = (remembers_one place m n a u t.0 s.0 r.0 z.0, all_remember (suc place) ms ns as' us t.1 s.1 r.1 z.1)

  -- ---- its hands go on knowing their mails
  pub all_known : (back : List (Datagram Body)) (us : List Turn) (ms ns : List Recall) → AllRecall (lens_of plan.slaves) back us ms ns → AllKnow ms → AllDue (lens_of plan.slaves) back us → AllKnow ns
  all_known back [] [] [] r k d = tt
  all_known back [] [] (n ∷ ns) r k d = absurd r
  all_known back [] (m ∷ ms) ns r k d = absurd r
  all_known back (u ∷ us) [] ns r k d = absurd r
  all_known back (u ∷ us) (m ∷ ms) [] r k d = absurd r
  all_known back (u ∷ us) (m ∷ ms) (n ∷ ns) r k d = (r.0.known k.0 d.0, all_known back us ms ns r.1 k.1 d.1)

  -- and a lost frame brought none
  pub lost_known : (us : List Turn) (ms ns : List Recall) → AllRecall (lens_of plan.slaves) [] us ms ns → AllKnow ms → AllKnow ns
  lost_known us ms ns r k = all_known [] us ms ns r k (lost_due (lens_of plan.slaves) us)

  -- ---- packets
  pub gets_one : (old new : List (ArrayVec ℕ)) → (old ≡ [] → new ≡ []) → is_waiting new ≡ true → is_waiting old ≡ true
  gets_one [] new none some = absurd (let no : false ≡ true = sym (ap is_waiting (none refl)) ∙ some in cc)
  gets_one (p ∷ old) new none some = refl

  pub gets_none : (back : List (Datagram Body)) (es more : List SwitchEvent) → ((k : ℕ) → waiting_at plan es k ≡ [] → waiting_at plan more k ≡ []) → (place : ℕ) (us : List Turn) (ms ns : List Recall) → AllRecall (lens_of plan.slaves) back us ms ns →
      AllGetNone (remembered plan es place ms) (remembered plan more place ns)
  gets_none back es more none place [] [] [] r = tt
  gets_none back es more none place [] [] (n ∷ ns) r = absurd r
  gets_none back es more none place [] (m ∷ ms) ns r = absurd r
  gets_none back es more none place (u ∷ us) [] ns r = absurd r
  gets_none back es more none place (u ∷ us) (m ∷ ms) [] r = absurd r
  gets_none back es more none place (u ∷ us) (m ∷ ms) (n ∷ ns) r = (record { packet = gets_one (waiting_at plan es place) (waiting_at plan more place) (none place); asked = λ e. e }, gets_none back es more none (suc place) us ms ns r.1)

-- no mail was accepted of any slave
quiet_one : (back : List (Datagram Body)) (spot : Spot) (l : Life Body Asked Reply) (stand : Stand) → l.stand ≡ stand → (l.stand ≡ Stand.Open → all_accepted spot.station l.era.side.halves (grams (own spot.station back)) ≡ []) → accepted_at spot.station l.era.side.halves back stand ≡ []
quiet_one back spot l (Stand.Opens o) e none = refl
quiet_one back spot l Stand.Open e none = none e
quiet_one back spot l Stand.Gone e none = refl

pub all_quiet : (back : List (Datagram Body)) (us : List Turn) → AllSilent back us → AllQuiet back us
all_quiet back [] k = tt
all_quiet back (u ∷ us) k = (quiet_one back u.lived.spot u.lived.life u.lived.life.stand refl k.0, all_quiet back us k.1)
