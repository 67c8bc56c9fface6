-- Frame by frame.
use Rattle.std.proofs.Common.{◌≡◌, ◌⊎◌, ◌≤◌, ◌<◌, ℕ, zero, suc, ◌+◌, Bool, true, false, Option, None, List, [], ◌∷◌, ◌++◌, map, length, refl, sym, ap, ◌∙◌, subst, arith, length-append, if◌then◌else◌, inl, inr}
use Rattle.std.specs.Prelude.{nat_lt}
use Rattle.std.proofs.lemmas.Bool.{ltb-true}
use Rattle.idle_slaves.specs.Eager.{Remembered}
use Rattle.plan_ring.specs.of_exchange_model.Exchange.{Speech}
use Rattle.plan_ring.specs.of_frame_view.Seen.{seen, datagrams_seen}
use Rattle.plan_ring.specs.of_frame_view.View.{Lens}
use Rattle.plan_ring.specs.of_life_model.Lives.{Spot}
use Rattle.plan_ring.specs.of_life_runs.First.{lens_of, first_leads, leads_from}
use Rattle.plan_ring.specs.of_life_runs.Led.{Exchanged, Leads, Turn, IsLed, IsLedFrame, speech_at, is_passed, gives_up_at, missed_behind}
use Rattle.plan_ring.specs.of_link_mails.Body.{Body}
use Rattle.plan_ring.specs.of_master_duty.Reply.{Reply}
use Rattle.plan_ring.specs.of_master_hand.Spoken.{Asked, acknowledged, is_followed}
use Rattle.plan_ring.specs.PlanMet.{AllOpenAt, AllMet}
use Rattle.plan_ring.specs.Lives.{AreLived}
use Rattle.plan_ring.specs.Round.{ring_of, ring_after, WentRound, AllRound}
use Rattle.plan_ring.proofs.Lives.{front_round, last_round}
use Rattle.plan_ring.specs.Hands.{AllHand}
use Rattle.plan_ring.proofs.Hands.{hands_back, hands_lost}
use Rattle.plan_ring.proofs.Repairs.{all_repaired, none_repaired}
use Rattle.plan_ring.specs.of_run_frames.Clocks.{repair_of, still_behind, reopened_all, gains_all}
use Rattle.plan_ring.specs.of_run_frames.Goes.{Under, AllUnder, AllClocked, all_back, all_lost}
use Rattle.plan_ring.specs.of_run_frames.Led.{AreLed, first_clocked, unders, behind_back, behind_lost, leads_behind, still_led, waits_led}
use Rattle.plan_ring.specs.of_run_frames.Orders.{opened_on}
use Rattle.plan_ring.specs.of_run_frames.Runs.{Progress}
use Rattle.plan_ring.specs.of_run_frames.Toured.{IsToured, WaitIn}
use Rattle.plan_ring.specs.of_run_frames.Waits.{new_waits, all_anew, all_on, waits_behind, SomeWaits}
use Rattle.plan_ring.proofs.of_run_frames.Leading.{SeenIs, led_view, all_under, all_led_lost, all_led_back}
use Rattle.plan_ring.specs.of_segment_model.Slaves.{Datagram}
use Rattle.plan_ring.specs.of_segment_plan.declared.plan.Scenario.{Scenario}
use Rattle.plan_ring.specs.of_segment_plan.declared.service.Service as Script
use Rattle.plan_ring.specs.of_segment_plan.declared.slave.SlaveSpec.{SlaveSpec}
use Rattle.plan_ring.specs.of_segment_ring.declared.wire.Fate.TheVariants.{Pass, Lost}
use Rattle.idle_slaves.specs.WaitEager.{AllRest, AllSilent, IsEagerFrame, EagerIn}
use Rattle.idle_slaves.proofs.Fits.{AllReady, AllSeated, nexts_of}
use Rattle.idle_slaves.proofs.Lists.{Slave, still_same, all_same, AllStanding, all_begin, all_quiet, all_stand, repaired}
use Rattle.idle_slaves.proofs.Ready.{NeverAll, all_ready, all_seated, all_silent, nexts_behind, nexts_led}

pub one_more : (fs : List Exchanged) (f : Exchanged) (n : ℕ) → n ≡ length fs → suc n ≡ length (fs ++ f ∷ [])
one_more fs f n e = ap suc e ∙ sym (length-append fs (f ∷ []) ∙ (let sum : length fs + 1 ≡ suc (length fs) = omega arith in sum))

-- how many frames in a row gained nothing, behind one more: none; as many, where a repair went on; or one more
pub still_is : (repair : ℕ) (before behind : List Slave) (still : ℕ) → (let many = still_behind repair before behind still in (many ≡ 0) ⊎ (((many ≡ still) × (1 ≤ repair)) ⊎ (many ≡ suc still)))
still_is repair before behind still = first (nat_lt (reopened_all before) (reopened_all behind))
  where
    Cases : ℕ → Type 0
    Cases many = (many ≡ 0) ⊎ (((many ≡ still) × (1 ≤ repair)) ⊎ (many ≡ suc still))

    third : (b : Bool) → Cases (if b then 0 else suc still)
    third true = inl refl
    third false = inr (inr refl)

    second : (b : Bool) → nat_lt 0 repair ≡ b → Cases (if b then still else if nat_lt (gains_all before) (gains_all behind) then 0 else suc still)
    second true is = inr (inl (refl, ltb-true 0 repair is))
    second false is = third (nat_lt (gains_all before) (gains_all behind))

    first : (b : Bool) → Cases (if b then 0 else if nat_lt 0 repair then still else if nat_lt (gains_all before) (gains_all behind) then 0 else suc still)
    first true = inl refl
    first false = second (nat_lt 0 repair) refl

-- ---- what a frame leaves of the lists
module _ (x : Spot → Speech Body Asked Reply) (number : ℕ) (sent : List (Datagram Body)) where
  pub anew_back : (back : List (Datagram Body)) (cs : List Slave) (vs : List (Under Body Asked Reply)) → AllUnder x acknowledged is_followed is_passed number sent cs vs → all_anew cs ≡ all_anew (all_back x acknowledged is_followed is_passed number back cs vs)
  anew_back back [] [] t = refl
  anew_back back [] (v ∷ vs) t = absurd t
  anew_back back (c ∷ cs) [] t = absurd t
  anew_back back (c ∷ cs) (v ∷ vs) t = ap (λ l. new_waits ∷ l) (anew_back back cs vs t.1)

  pub paces_back : (back : List (Datagram Body)) (cs : List Slave) (vs : List (Under Body Asked Reply)) → AllUnder x acknowledged is_followed is_passed number sent cs vs → map (λ (c : Slave). c.pace) (all_back x acknowledged is_followed is_passed number back cs vs) ≡ map (λ (c : Slave). c.pace) cs
  paces_back back [] [] t = refl
  paces_back back [] (v ∷ vs) t = absurd t
  paces_back back (c ∷ cs) [] t = absurd t
  paces_back back (c ∷ cs) (v ∷ vs) t = ap (λ l. c.pace ∷ l) (paces_back back cs vs t.1)

  pub long_back : (back : List (Datagram Body)) (cs : List Slave) (vs : List (Under Body Asked Reply)) → AllUnder x acknowledged is_followed is_passed number sent cs vs → length (all_back x acknowledged is_followed is_passed number back cs vs) ≡ length cs
  long_back back [] [] t = refl
  long_back back [] (v ∷ vs) t = absurd t
  long_back back (c ∷ cs) [] t = absurd t
  long_back back (c ∷ cs) (v ∷ vs) t = ap suc (long_back back cs vs t.1)

  pub anew_lost : (gives : Bool) (recover : ℕ) (cs : List Slave) (vs : List (Under Body Asked Reply)) → AllUnder x acknowledged is_followed is_passed number sent cs vs → all_anew cs ≡ all_anew (all_lost x acknowledged is_followed is_passed gives recover number sent cs vs)
  anew_lost gives recover [] [] t = refl
  anew_lost gives recover [] (v ∷ vs) t = absurd t
  anew_lost gives recover (c ∷ cs) [] t = absurd t
  anew_lost gives recover (c ∷ cs) (v ∷ vs) t = ap (λ l. new_waits ∷ l) (anew_lost gives recover cs vs t.1)

  pub paces_lost : (gives : Bool) (recover : ℕ) (cs : List Slave) (vs : List (Under Body Asked Reply)) → AllUnder x acknowledged is_followed is_passed number sent cs vs → map (λ (c : Slave). c.pace) (all_lost x acknowledged is_followed is_passed gives recover number sent cs vs) ≡ map (λ (c : Slave). c.pace) cs
  paces_lost gives recover [] [] t = refl
  paces_lost gives recover [] (v ∷ vs) t = absurd t
  paces_lost gives recover (c ∷ cs) [] t = absurd t
  paces_lost gives recover (c ∷ cs) (v ∷ vs) t = ap (λ l. c.pace ∷ l) (paces_lost gives recover cs vs t.1)

pub hands_of : (slowest : ℕ) (cs : List Slave) → AllClocked slowest cs → AllHand cs
hands_of slowest [] k = tt
hands_of slowest (c ∷ cs) k = (k.0.hand, hands_of slowest cs k.1)

pub first_paces : (rows : List (ℕ × Script.Service)) (place : ℕ) (ss : List SlaveSpec) (paces : List ℕ) → length paces ≡ length ss → map (λ (c : Slave). c.pace) (first_clocked (leads_from rows place ss) paces) ≡ paces
first_paces rows place [] [] e = refl
first_paces rows place [] (p ∷ paces) e = absurd (cc)
first_paces rows place (s ∷ ss) [] e = absurd (cc)
first_paces rows place (s ∷ ss) (p ∷ paces) e = ap (λ l. p ∷ l) (first_paces rows (suc place) ss paces (let f : length paces ≡ length ss = cc in f))

-- what the slaves of a plan's run are, by laws
pub record Laws (plan : Scenario) : Type 0 where
  pub lived : (fs : List Exchanged) (missed : ℕ) (as' : List Leads) → IsLed (lens_of plan.slaves) plan.recover plan.retry (first_leads plan) fs missed as' → AllRound (ring_of plan) fs → AreLived plan fs as'
  pub opens : (fs : List Exchanged) (as' : List Leads) → AreLived plan fs as' → AllOpenAt plan fs 0 plan.slaves as' (ring_after (ring_of plan) fs).nodes
  pub meets : (fs : List Exchanged) (as' : List Leads) (f : Exchanged) (us : List Turn) → AreLived plan fs as' → IsLedFrame (lens_of plan.slaves) (length fs) f.sent as' us → WentRound (ring_after (ring_of plan) fs) f → f.fate ≡ Pass →
      AllMet (lens_of plan.slaves) (seen (lens_of plan.slaves) f.sent) (seen (lens_of plan.slaves) f.back) (length fs) plan.slaves as' plan.paces (ring_after (ring_of plan) fs).nodes (ring_after (ring_of plan) (fs ++ f ∷ [])).nodes

module _ (seen_is : SeenIs) (plan : Scenario) (laws : Laws plan) (never : NeverAll plan plan.slaves) (slowest : ℕ) (begins : AreLed (first_leads plan) (first_clocked (first_leads plan) plan.paces)) (clocked : AllClocked slowest (first_clocked (first_leads plan) plan.paces))
    (paces : map (λ (c : Slave). c.pace) (first_clocked (first_leads plan) plan.paces) ≡ plan.paces) where
  abbrev lens : ℕ → Lens
  lens = lens_of plan.slaves

  abbrev x : Spot → Speech Body Asked Reply
  x = speech_at (lens_of plan.slaves)

  abbrev Run : List Exchanged → Option (List ℕ) → ℕ → List Leads → Progress → List Slave → Type 0
  Run fs again missed as' p cs = IsToured (lens_of plan.slaves) plan.recover plan.retry slowest (first_leads plan) plan.paces fs again missed as' p cs

  -- what holds behind each frame
  pub record Holds (fs : List Exchanged) (missed : ℕ) (as' : List Leads) (p : Progress) (cs : List Slave) (ns : List Remembered) : Type 0 where
    pub isled : IsLed (lens_of plan.slaves) plan.recover plan.retry (first_leads plan) fs missed as'
    pub led : AreLed as' cs
    pub frames : p.frames ≡ length fs
    pub paced : map (λ (c : Slave). c.pace) cs ≡ plan.paces
    pub hands : AllHand cs
    pub anew : p.still ≡ 0 → p.waits ≡ all_anew cs
    pub none : p.opened < length cs → p.still ≡ 0
    pub stands : 1 ≤ p.still → AllStanding (lens_of plan.slaves) plan.slaves (nexts_of as') cs (ring_after (ring_of plan) fs).nodes ns p.waits

  -- ---- one frame
  module _ (fs : List Exchanged) (missed : ℕ) (as' : List Leads) (p : Progress) (cs : List Slave) (ms : List Remembered) (h : Holds fs missed as' p cs ms) (f : Exchanged) (us : List Turn) (l : IsLedFrame (lens_of plan.slaves) (length fs) f.sent as' us) where
    abbrev vs : List (Under Body Asked Reply)
    vs = unders (seen (lens_of plan.slaves) f.back) us

    abbrev gives : Bool
    gives = gives_up_at (lens_of plan.slaves) plan.recover plan.retry missed

    at_frames : IsLedFrame lens p.frames f.sent as' us
    at_frames = subst (λ n. IsLedFrame lens n f.sent as' us) (sym h.frames) l

    view : seen lens f.sent ≡ datagrams_seen lens at_frames.datagrams
    view = led_view seen_is lens plan.recover plan.retry p.frames f at_frames.datagrams at_frames.frame

    lists : AllUnder (speech_at (lens_of plan.slaves)) acknowledged is_followed is_passed p.frames (seen (lens_of plan.slaves) f.sent) cs (unders (seen (lens_of plan.slaves) f.back) us)
    lists = all_under seen_is lens plan.recover plan.retry p.frames f at_frames.datagrams (seen lens f.back) cs as' us h.led view at_frames.each

    isled_on : IsLed lens plan.recover plan.retry (first_leads plan) (fs ++ f ∷ []) (missed_behind (lens_of plan.slaves) plan.recover plan.retry f.fate missed) (leads_behind lens plan.recover plan.retry slowest missed (length fs) f us)
    isled_on = IsLed.on fs missed as' f us h.isled l

    abbrev on : List Slave
    on = behind_back (lens_of plan.slaves) plan.recover plan.retry slowest p.frames f us cs

    led_on : f.fate ≡ Pass → AreLed (leads_behind lens plan.recover plan.retry slowest missed (length fs) f us) on
    led_on fate = subst (λ (n : ℕ). AreLed (leads_behind lens plan.recover plan.retry slowest missed (length fs) f us) (behind_back lens plan.recover plan.retry slowest n f us cs)) (sym h.frames)
        (all_led_back seen_is lens plan.recover plan.retry (length fs) f gives l.datagrams cs as' us h.led l.each fate)

    -- ---- it came back and gained nothing
    module _ (fate : f.fate ≡ Pass) (over : length cs ≤ p.opened) (went : AllRound (ring_of plan) (fs ++ f ∷ [])) (ns : List Remembered) where
      abbrev many : ℕ
      many = still_led (lens_of plan.slaves) plan.recover plan.retry slowest p f us cs

      module _ (counted : still_led (lens_of plan.slaves) plan.recover plan.retry slowest p f us cs ≡ suc p.still) (e : IsEagerFrame plan fs f ms ns as' us) where
        lived : AreLived plan fs as'
        lived = laws.lived fs missed as' h.isled (front_round (ring_of plan) fs f went)

        opens : AllOpenAt plan fs 0 plan.slaves as' (ring_after (ring_of plan) fs).nodes
        opens = laws.opens fs as' lived

        seated : AllSeated lens plan.slaves as' (ring_after (ring_of plan) fs).nodes
        seated = all_seated plan fs 0 plan.slaves as' (ring_after (ring_of plan) fs).nodes opens never e.unpassed

        met : AllMet lens (seen lens f.sent) (seen lens f.back) p.frames plan.slaves as' plan.paces (ring_after (ring_of plan) fs).nodes (ring_after (ring_of plan) (fs ++ f ∷ [])).nodes
        met = subst (λ (n : ℕ). AllMet lens (seen lens f.sent) (seen lens f.back) n plan.slaves as' plan.paces (ring_after (ring_of plan) fs).nodes (ring_after (ring_of plan) (fs ++ f ∷ [])).nodes) (sym h.frames)
            (laws.meets fs as' f us lived l (last_round (ring_of plan) fs f went) fate)

        same : (repair_of slowest (length cs) p.opened p.last p.frames cs ≡ 0) × (gains_all on ≤ gains_all cs)
        same = still_same (repair_of slowest (length cs) p.opened p.last p.frames cs) cs on p.still counted

        before : (still : ℕ) → p.still ≡ still → AllStanding (lens_of plan.slaves) plan.slaves (nexts_of as') cs (ring_after (ring_of plan) fs).nodes ms p.waits
        before zero is =
            subst (λ ws. AllStanding (lens_of plan.slaves) plan.slaves (nexts_of as') cs (ring_after (ring_of plan) fs).nodes ms ws) (sym (h.anew is))
            (all_begin lens (seen lens f.sent) plan.slaves as' cs us (ring_after (ring_of plan) fs).nodes ms seated h.led e.eager (all_repaired slowest p.opened p.frames p.last cs over same.0) h.hands)
        before (suc n) is = h.stands (omega (arith, is))

        ready : AllReady (lens_of plan.slaves) p.frames (seen (lens_of plan.slaves) f.sent) (seen (lens_of plan.slaves) f.back) plan.slaves as' cs (unders (seen (lens_of plan.slaves) f.back) us) (nexts_behind us) (ring_after (ring_of plan) fs).nodes (ring_after (ring_of plan) (fs ++ f ∷ [])).nodes ms ns p.waits
        ready = all_ready lens p.frames (seen lens f.sent) (seen lens f.back) at_frames.datagrams view plan.slaves as' cs us plan.paces (ring_after (ring_of plan) fs).nodes (ring_after (ring_of plan) (fs ++ f ∷ [])).nodes ms ns p.waits
            seated h.led at_frames.each met h.paced e.eager e.remembers e.unpassed (all_same x p.frames (seen lens f.sent) (seen lens f.back) cs vs lists same.1) (before p.still refl)

        silent : AllSilent (seen (lens_of plan.slaves) f.back) us
        silent = all_silent lens p.frames (seen lens f.sent) (seen lens f.back) at_frames.datagrams view as' cs us h.led at_frames.each
            (all_quiet lens p.frames (seen lens f.sent) (seen lens f.back) plan.slaves as' cs vs (nexts_behind us) (ring_after (ring_of plan) fs).nodes (ring_after (ring_of plan) (fs ++ f ∷ [])).nodes ms ns p.waits ready (before p.still refl))

        both : AllStanding (lens_of plan.slaves) plan.slaves (nexts_of (leads_behind lens plan.recover plan.retry slowest missed (length fs) f us)) on (ring_after (ring_of plan) (fs ++ f ∷ [])).nodes ns (all_on p.frames cs vs p.waits)
            × (SomeWaits on (all_on p.frames cs vs p.waits) ⊎ AllRest (lens_of plan.slaves) plan.slaves ms as' (ring_after (ring_of plan) fs).nodes)
        both =
            let stand = all_stand lens p.frames (seen lens f.sent) (seen lens f.back) plan.slaves as' cs vs (nexts_behind us) (ring_after (ring_of plan) fs).nodes (ring_after (ring_of plan) (fs ++ f ∷ [])).nodes ms ns p.waits ready (e.none silent) (before p.still refl) in (
              subst (λ zs. AllStanding lens plan.slaves zs on (ring_after (ring_of plan) (fs ++ f ∷ [])).nodes ns (all_on p.frames cs vs p.waits)) (sym (nexts_led lens plan.recover plan.retry gives (length fs) f us)) stand.0,
              stand.1,
            )

        pub some : SomeWaits on (waits_led (lens_of plan.slaves) plan.recover plan.retry slowest p f us cs)
        some = subst (λ z. SomeWaits on (waits_behind z p.frames cs vs p.waits)) (sym counted) (elim both.1 [ inl waits ↦ waits | inr rest ↦ absurd (e.some rest) ])

        standing_on : AllStanding (lens_of plan.slaves) plan.slaves (nexts_of (leads_behind lens plan.recover plan.retry slowest missed (length fs) f us)) on (ring_after (ring_of plan) (fs ++ f ∷ [])).nodes ns (waits_led lens plan.recover plan.retry slowest p f us cs)
        standing_on = subst (λ z. AllStanding (lens_of plan.slaves) plan.slaves (nexts_of (leads_behind lens plan.recover plan.retry slowest missed (length fs) f us)) on (ring_after (ring_of plan) (fs ++ f ∷ [])).nodes ns (waits_behind z p.frames cs vs p.waits)) (sym counted) both.0

      -- whatever it gained
      stands_on : (still_led lens plan.recover plan.retry slowest p f us cs ≡ suc p.still → IsEagerFrame plan fs f ms ns as' us) → 1 ≤ many →
          AllStanding (lens_of plan.slaves) plan.slaves (nexts_of (leads_behind lens plan.recover plan.retry slowest missed (length fs) f us)) on (ring_after (ring_of plan) (fs ++ f ∷ [])).nodes ns (waits_led lens plan.recover plan.retry slowest p f us cs)
      stands_on e one = elim (still_is (repair_of slowest (length cs) p.opened p.last p.frames cs) cs on p.still) [
        | inl zero_is ↦ absurd (omega (arith, zero_is, one))
        | inr (inl (same, repairs)) ↦ absurd (
            let all = repaired lens plan.slaves (nexts_of as') cs (ring_after (ring_of plan) fs).nodes ms p.waits (h.stands (omega (arith, same, one))) in
            let none = none_repaired slowest p.opened p.frames p.last cs over all in
            omega (arith, none, repairs)
            )
        | inr (inr counted) ↦ standing_on counted (e counted)
      ]

      pub round_on : (still_led lens plan.recover plan.retry slowest p f us cs ≡ suc p.still → IsEagerFrame plan fs f ms ns as' us) → (last : Option ℕ) →
          Holds (fs ++ f ∷ []) (missed_behind (lens_of plan.slaves) plan.recover plan.retry f.fate missed) (leads_behind lens plan.recover plan.retry slowest missed (length fs) f us)
          (record { frames = suc p.frames; lost = p.lost; still = many; opened = p.opened; last = last; waits = waits_led lens plan.recover plan.retry slowest p f us cs }) on ns
      round_on e last = record {
        isled = isled_on;
        led = led_on fate;
        frames = one_more fs f p.frames h.frames;
        paced = paces_back x p.frames (seen lens f.sent) (seen lens f.back) cs vs lists ∙ h.paced;
        hands = hands_back x acknowledged is_followed is_passed p.frames (seen lens f.sent) (seen lens f.back) cs vs lists h.hands;
        anew = λ zero_is. ap (λ z. waits_behind z p.frames cs vs p.waits) zero_is ∙ anew_back x p.frames (seen lens f.sent) (seen lens f.back) cs vs lists;
        none = λ few. absurd (let long = long_back x p.frames (seen lens f.sent) (seen lens f.back) cs vs lists in omega (arith, long, few, over));
        stands = stands_on e;
      }

    -- ---- it came back, and the count begins anew
    pub anew_on : f.fate ≡ Pass → (ns : List Remembered) (lost opened : ℕ) (last : Option ℕ) →
        Holds (fs ++ f ∷ []) (missed_behind (lens_of plan.slaves) plan.recover plan.retry f.fate missed) (leads_behind lens plan.recover plan.retry slowest missed (length fs) f us) (record { frames = suc p.frames; lost = lost; still = 0; opened = opened; last = last; waits = all_anew cs }) on ns
    anew_on fate ns lost opened last = record {
      isled = isled_on;
      led = led_on fate;
      frames = one_more fs f p.frames h.frames;
      paced = paces_back x p.frames (seen lens f.sent) (seen lens f.back) cs vs lists ∙ h.paced;
      hands = hands_back x acknowledged is_followed is_passed p.frames (seen lens f.sent) (seen lens f.back) cs vs lists h.hands;
      anew = λ none. anew_back x p.frames (seen lens f.sent) (seen lens f.back) cs vs lists;
      none = λ few. refl;
      stands = λ one. absurd (omega (arith, one));
    }

    -- ---- it was lost
    pub lost_on : (after : ℕ) → f.fate ≡ Lost after → (ns : List Remembered) (lost opened : ℕ) (last : Option ℕ) →
        Holds (fs ++ f ∷ []) (missed_behind (lens_of plan.slaves) plan.recover plan.retry f.fate missed) (leads_behind lens plan.recover plan.retry slowest missed (length fs) f us) (record { frames = suc p.frames; lost = lost; still = 0; opened = opened; last = last; waits = all_anew cs })
        (behind_lost lens plan.recover plan.retry slowest gives p.frames f us cs) ns
    lost_on after fate ns lost opened last = record {
      isled = isled_on;
      led = subst (λ (n : ℕ). AreLed (leads_behind lens plan.recover plan.retry slowest missed (length fs) f us) (behind_lost lens plan.recover plan.retry slowest gives n f us cs)) (sym h.frames)
          (all_led_lost seen_is lens plan.recover plan.retry (length fs) f gives after l.datagrams (seen lens f.back) cs as' us h.led l.each fate);
      frames = one_more fs f p.frames h.frames;
      paced = paces_lost x p.frames (seen lens f.sent) gives plan.recover cs vs lists ∙ h.paced;
      hands = hands_lost x acknowledged is_followed is_passed p.frames (seen lens f.sent) gives plan.recover cs vs lists h.hands;
      anew = λ none. anew_lost x p.frames (seen lens f.sent) gives plan.recover cs vs lists;
      none = λ few. refl;
      stands = λ one. absurd (omega (arith, one));
    }

  -- ---- ALL FRAMES
  pub walks : (fs : List Exchanged) (again : Option (List ℕ)) (missed : ℕ) (as' : List Leads) (p : Progress) (cs : List Slave) (ns : List Remembered) → (run : Run fs again missed as' p cs) → AllRound (ring_of plan) fs → EagerIn plan run ns → Holds fs missed as' p cs ns × WaitIn run
  walks fs again missed as' p cs ns IsToured.start went e = (
    record {
      isled = IsLed.start;
      led = begins;
      frames = refl;
      paced = paces;
      hands = hands_of slowest cs clocked;
      anew = λ none. refl;
      none = λ few. refl;
      stands = λ one. absurd (omega (arith, one));
    },
    tt,
  )
  walks gs again' missed' bs q ds ns (IsToured.lost fs again missed as' p cs f us after ps r l fate v) went e =
      let k = walks fs again missed as' p cs e.0 r (front_round (ring_of plan) fs f went) e.1 in (lost_on fs missed as' p cs e.0 k.0 f us l after fate ns _ _ _, k.1)
  walks gs again' missed' bs q ds ns (IsToured.opening fs again missed as' p cs f us ps r l fate under v) went e =
      let k = walks fs again missed as' p cs e.0 r (front_round (ring_of plan) fs f went) e.1 in (
        subst (λ z. Holds (fs ++ f ∷ []) (missed_behind (lens_of plan.slaves) plan.recover plan.retry f.fate missed) (leads_behind lens plan.recover plan.retry slowest missed (length fs) f us) (record { frames = suc p.frames; lost = p.lost; still = z; opened = opened_on p.opened (behind_back lens plan.recover plan.retry slowest p.frames f us cs); last = None; waits = all_anew cs }) (behind_back lens plan.recover plan.retry slowest p.frames f us cs) ns)
            (sym (k.0.none under)) (anew_on fs missed as' p cs e.0 k.0 f us l fate ns p.lost (opened_on p.opened (behind_back lens plan.recover plan.retry slowest p.frames f us cs)) None),
        k.1,
      )
  walks gs again' missed' bs q ds ns (IsToured.round fs again missed as' p cs f us ps r l fate over v) went e =
      let k = walks fs again missed as' p cs e.0 r (front_round (ring_of plan) fs f went) e.2 in (
        round_on fs missed as' p cs e.0 k.0 f us l fate over went ns e.1 _,
        ((λ counted. some fs missed as' p cs e.0 k.0 f us l fate over went ns counted (e.1 counted)), k.1),
      )
  walks gs again' missed' bs q ds ns (IsToured.enters fs again missed as' p cs f us ps r l fate over v nothing) went e =
      let k = walks fs again missed as' p cs e.0 r (front_round (ring_of plan) fs f went) e.1 in (anew_on fs missed as' p cs e.0 k.0 f us l fate ns (suc p.lost) p.opened _, k.1)
