-- Frame by frame of a serving.
use Rattle.std.proofs.Common.{◌≡◌, ◌⊎◌, ◌≤◌, ◌<◌, ℕ, zero, suc, Bool, Option, None, List, [], ◌∷◌, ◌++◌, map, length, refl, sym, ap, ◌∙◌, subst, arith, inl, inr}
use Rattle.idle_slaves.specs.Eager.{Remembered}
use Rattle.idle_slaves.specs.of_exchange_model.Exchange.{Speech}
use Rattle.idle_slaves.specs.of_frame_view.Seen.{seen, datagrams_seen}
use Rattle.idle_slaves.specs.of_frame_view.View.{Lens}
use Rattle.idle_slaves.specs.of_life_model.Lives.{Spot}
use Rattle.idle_slaves.specs.of_life_runs.First.{lens_of, first_leads}
use Rattle.idle_slaves.specs.of_life_runs.Led.{Exchanged, speech_at, is_passed, gives_up_at, missed_behind}
use Rattle.idle_slaves.specs.of_link_mails.Body.{Body}
use Rattle.served_rings.specs.of_master_duty.Reply.{Reply}
use Rattle.served_rings.specs.of_master_hand.Spoken.{Asked, acknowledged, is_followed}
use Rattle.idle_slaves.specs.of_plan_ring.PlanMet.{AllMet}
use Rattle.idle_slaves.specs.of_plan_ring.Round.{ring_of, ring_after, AllRound}
use Rattle.idle_slaves.proofs.of_plan_ring.Lives.{front_round}
use Rattle.idle_slaves.specs.of_plan_ring.Hands.{AllHand}
use Rattle.idle_slaves.proofs.of_plan_ring.Hands.{hands_back, hands_lost}
use Rattle.idle_slaves.proofs.of_plan_ring.Repairs.{all_repaired, none_repaired}
use Rattle.idle_slaves.specs.of_run_frames.Clocks.{repair_of, gains_all}
use Rattle.idle_slaves.specs.of_run_frames.Goes.{Under, AllUnder, AllClocked}
use Rattle.idle_slaves.specs.of_run_frames.Led.{AreLed}
use Rattle.idle_slaves.specs.of_run_frames.Orders.{opened_on}
use Rattle.idle_slaves.specs.of_run_frames.Runs.{Progress}
use Rattle.idle_slaves.specs.of_run_frames.Waits.{Waits, all_anew, all_on, waits_behind, SomeWaits}
use Rattle.idle_slaves.proofs.of_run_frames.Leading.{SeenIs, led_view}
use Rattle.idle_slaves.specs.of_segment_plan.declared.plan.Scenario.{Scenario}
use Rattle.idle_slaves.specs.of_segment_ring.declared.wire.Fate.TheVariants.{Pass, Lost}
use Rattle.idle_slaves.specs.of_life_runs.Served.{Keyed, MayAsk, Serves, ServedTurn, IsServedFrame, IsServedLed, all_serve, asked_at}
use Rattle.served_rings.specs.of_served_places.Answered.{ServedWaits}
use Rattle.served_rings.specs.of_served_places.Toured.{IsServedToured, back_under, first_served, lost_under, serves_on, served_back, served_lost, still_served, waits_served}
use Rattle.served_rings.proofs.of_served_places.Slaves.{all_led_back, all_led_lost, all_under, leads_asked}
use Rattle.seen_slaves.specs.Eager.{AllStaySo, IsServedEager, ServedEagerIn, leads_of, turns_of}
use Rattle.seen_slaves.proofs.Counted.{counted_anew, counted_on}
use Rattle.seen_slaves.proofs.Ready.{AllCounted, AllStationed, all_ready, nexts_served, nexts_then}
use Rattle.seen_slaves.proofs.Stays.{all_silent, all_stay, counted_asked, paces_asked, paces_served}
use Rattle.idle_slaves.specs.of_slave_server.Serving.{Serving}
use Rattle.idle_slaves.specs.of_slave_node.Node.{Node}
use Rattle.idle_slaves.specs.WaitEager.{AllRest, AllSilent}
use Rattle.idle_slaves.proofs.Fits.{AllReady, AllSeated, Slave, nexts_of}
use Rattle.idle_slaves.proofs.Lists.{still_same, all_same, AllStanding, all_begin, all_quiet, all_stand, repaired}
use Rattle.idle_slaves.proofs.Walk.{anew_back, anew_lost, hands_of, long_back, one_more, paces_back, paces_lost, still_is}

-- the slaves of a plan's serving before the first frame
abbrev pub first_of : Scenario → List Serves
first_of plan = all_serve plan.paces (first_leads plan)

abbrev pub Led : (plan : Scenario) → List Exchanged → ℕ → List Serves → Type 0
Led plan fs missed ws = IsServedLed (lens_of plan.slaves) plan.recover plan.retry (all_serve plan.paces (first_leads plan)) fs missed ws

-- the ring's slaves behind some frames
abbrev pub nodes_at : (plan : Scenario) → List Exchanged → List (Node Serving)
nodes_at plan fs = (ring_after (ring_of plan) fs).nodes

-- WHAT THE SLAVES OF A PLAN'S SERVING ARE, by laws: each is at its station, and what it is to its master where it is open; and each frame that came back is met by it
pub record ServedLaws (plan : Scenario) : Type 0 where
  pub seats : (fs : List Exchanged) (missed : ℕ) (ws : List Serves) → Led plan fs missed ws → AllRound (ring_of plan) fs → AllSeated (lens_of plan.slaves) plan.slaves (leads_of ws) (nodes_at plan fs)
  pub meets : (fs : List Exchanged) (missed : ℕ) (ws : List Serves) (f : Exchanged) (vs : List ServedTurn) → Led plan fs missed ws → IsServedFrame (lens_of plan.slaves) (length fs) f.sent ws vs → AllRound (ring_of plan) (fs ++ f ∷ []) → f.fate ≡ Pass →
      AllMet (lens_of plan.slaves) (seen (lens_of plan.slaves) f.sent) (seen (lens_of plan.slaves) f.back) (length fs) plan.slaves (leads_of ws) plan.paces (nodes_at plan fs) (nodes_at plan (fs ++ f ∷ []))
  pub stations : (fs : List Exchanged) (missed : ℕ) (ws : List Serves) → Led plan fs missed ws → AllStationed ws

-- as they are counted before the first frame
pub first_clocks : (ws : List Serves) → map (λ (c : Slave). c.pace) (first_served ws) ≡ map (λ (w : Serves). w.pace) ws
first_clocks [] = refl
first_clocks (w ∷ ws) = ap (λ l. w.pace ∷ l) (first_clocks ws)

module _ (seen_is : SeenIs) (plan : Scenario) (laws : ServedLaws plan) (slowest : ℕ) (begins : AreLed (leads_of (first_of plan)) (first_served (first_of plan))) (clocked : AllClocked slowest (first_served (first_of plan)))
    (first_paces : map (λ (w : Serves). w.pace) (first_of plan) ≡ plan.paces) where
  abbrev lens : ℕ → Lens
  lens = lens_of plan.slaves

  abbrev x : Spot → Speech Body Asked Reply
  x = speech_at (lens_of plan.slaves)

  abbrev Run : List Exchanged → Option (List ℕ) → ℕ → List Serves → Progress → List Slave → Type 0
  Run fs again missed ws p cs = IsServedToured (lens_of plan.slaves) plan.recover plan.retry slowest (all_serve plan.paces (first_leads plan)) fs again missed ws p cs

  abbrev Standing : List Exchanged → List Serves → List Slave → List Remembered → List Waits → Type 0
  Standing fs ws cs ms ts = AllStanding (lens_of plan.slaves) plan.slaves (nexts_of (leads_of ws)) cs (nodes_at plan fs) ms ts

  -- what holds behind each frame
  pub record Holds (fs : List Exchanged) (missed : ℕ) (ws : List Serves) (p : Progress) (cs : List Slave) (ls : List Remembered) : Type 0 where
    pub isled : Led plan fs missed ws
    pub led : AreLed (leads_of ws) cs
    pub frames : p.frames ≡ length fs
    pub paced : map (λ (c : Slave). c.pace) cs ≡ plan.paces
    pub served : map (λ (w : Serves). w.pace) ws ≡ plan.paces
    pub hands : AllHand cs
    pub anew : p.still ≡ 0 → p.waits ≡ all_anew cs
    pub none : p.opened < length cs → p.still ≡ 0
    pub stands : 1 ≤ p.still → Standing fs ws cs ls p.waits
    pub counted : 1 ≤ p.still → AllCounted p.waits ws

  -- ---- a mail was asked
  asked_on : (fs : List Exchanged) (missed : ℕ) (ws : List Serves) (p : Progress) (cs : List Slave) (ls : List Remembered) (place : ℕ) (k : Keyed) → MayAsk (lens_of plan.slaves) place k ws → Holds fs missed ws p cs ls → Holds fs missed (asked_at place k ws) p cs ls
  asked_on fs missed ws p cs ls place k may h = record {
    isled = IsServedLed.asks fs missed ws place k h.isled may;
    led = subst (λ as'. AreLed as' cs) (sym (leads_asked place k ws)) h.led;
    frames = h.frames;
    paced = h.paced;
    served = paces_asked place k ws ∙ h.served;
    hands = h.hands;
    anew = h.anew;
    none = h.none;
    stands = λ one. subst (λ as'. AllStanding lens plan.slaves (nexts_of as') cs (nodes_at plan fs) ls p.waits) (sym (leads_asked place k ws)) (h.stands one);
    counted = λ one. counted_asked place k p.waits ws (h.counted one);
  }

  -- ---- one frame
  module _ (fs : List Exchanged) (missed : ℕ) (ws : List Serves) (p : Progress) (cs : List Slave) (ks : List Remembered) (h : Holds fs missed ws p cs ks) (f : Exchanged) (vs : List ServedTurn) (l : IsServedFrame (lens_of plan.slaves) (length fs) f.sent ws vs) where
    abbrev us : List (Under Body Asked Reply)
    us = map (back_under (seen (lens_of plan.slaves) f.back)) vs

    abbrev out : List (Under Body Asked Reply)
    out = map (lost_under (seen (lens_of plan.slaves) f.sent)) vs

    abbrev gives : Bool
    gives = gives_up_at (lens_of plan.slaves) plan.recover plan.retry missed

    at_frames : IsServedFrame (lens_of plan.slaves) p.frames f.sent ws vs
    at_frames = subst (λ n. IsServedFrame lens n f.sent ws vs) (sym h.frames) l

    view : seen (lens_of plan.slaves) f.sent ≡ datagrams_seen (lens_of plan.slaves) at_frames.datagrams
    view = led_view seen_is lens plan.recover plan.retry p.frames f at_frames.datagrams at_frames.frame

    lists : AllUnder (speech_at (lens_of plan.slaves)) acknowledged is_followed is_passed p.frames (seen (lens_of plan.slaves) f.sent) cs (map (back_under (seen (lens_of plan.slaves) f.back)) vs)
    lists = all_under seen_is lens plan.recover plan.retry p.frames f (back_under (seen lens f.back)) (λ v. refl) (λ v. refl) at_frames.datagrams cs ws vs h.led view at_frames.each

    lost_lists : AllUnder (speech_at (lens_of plan.slaves)) acknowledged is_followed is_passed p.frames (seen (lens_of plan.slaves) f.sent) cs (map (lost_under (seen (lens_of plan.slaves) f.sent)) vs)
    lost_lists = all_under seen_is lens plan.recover plan.retry p.frames f (lost_under (seen lens f.sent)) (λ v. refl) (λ v. refl) at_frames.datagrams cs ws vs h.led view at_frames.each

    abbrev behind : List Serves
    behind = serves_on (lens_of plan.slaves) plan.recover plan.retry slowest missed (length fs) f vs

    isled_on : Led plan (fs ++ f ∷ []) (missed_behind (lens_of plan.slaves) plan.recover plan.retry f.fate missed) behind
    isled_on = IsServedLed.on fs missed ws f vs h.isled l

    served_on : map (λ (w : Serves). w.pace) behind ≡ plan.paces
    served_on = paces_served lens plan.recover plan.retry gives (length fs) (length fs) f l.datagrams ws vs l.each ∙ h.served

    abbrev on : List Slave
    on = served_back (lens_of plan.slaves) plan.recover plan.retry slowest p.frames f vs cs

    led_on : f.fate ≡ Pass → AreLed (leads_of behind) on
    led_on fate = subst (λ (n : ℕ). AreLed (leads_of behind) (served_back (lens_of plan.slaves) plan.recover plan.retry slowest n f vs cs)) (sym h.frames) (all_led_back seen_is lens plan.recover plan.retry (length fs) f gives l.datagrams cs ws vs h.led l.each fate)

    -- ---- it came back and gained nothing
    module _ (fate : f.fate ≡ Pass) (over : length cs ≤ p.opened) (went : AllRound (ring_of plan) (fs ++ f ∷ [])) (ms ls : List Remembered) where
      abbrev many : ℕ
      many = still_served (lens_of plan.slaves) plan.recover plan.retry slowest p f vs cs

      abbrev Eager : Type 0
      Eager = still_served (lens_of plan.slaves) plan.recover plan.retry slowest p f vs cs ≡ suc p.still → AllStaySo ks ms × IsServedEager plan plan.recover plan.retry missed fs f ms ls ws vs p.frames

      module _ (counted : still_served (lens_of plan.slaves) plan.recover plan.retry slowest p f vs cs ≡ suc p.still) (stay : AllStaySo ks ms) (e : IsServedEager plan plan.recover plan.retry missed fs f ms ls ws vs p.frames) where
        seated : AllSeated (lens_of plan.slaves) plan.slaves (leads_of ws) (nodes_at plan fs)
        seated = laws.seats fs missed ws h.isled (front_round (ring_of plan) fs f went)

        stationed : AllStationed ws
        stationed = laws.stations fs missed ws h.isled

        met : AllMet (lens_of plan.slaves) (seen (lens_of plan.slaves) f.sent) (seen (lens_of plan.slaves) f.back) p.frames plan.slaves (leads_of ws) plan.paces (nodes_at plan fs) (nodes_at plan (fs ++ f ∷ []))
        met = subst (λ (n : ℕ). AllMet lens (seen lens f.sent) (seen lens f.back) n plan.slaves (leads_of ws) plan.paces (nodes_at plan fs) (nodes_at plan (fs ++ f ∷ []))) (sym h.frames) (laws.meets fs missed ws f vs h.isled l went fate)

        same : (repair_of slowest (length cs) p.opened p.last p.frames cs ≡ 0) × (gains_all on ≤ gains_all cs)
        same = still_same (repair_of slowest (length cs) p.opened p.last p.frames cs) cs on p.still counted

        before : (still : ℕ) → p.still ≡ still → Standing fs ws cs ms p.waits
        before zero is =
            subst (λ ts. Standing fs ws cs ms ts) (sym (h.anew is))
            (all_begin lens (seen lens f.sent) plan.slaves (leads_of ws) cs (turns_of vs) (nodes_at plan fs) ms seated h.led e.eager (all_repaired slowest p.opened p.frames p.last cs over same.0) h.hands)
        before (suc n) is = all_stay lens ks ms plan.slaves (nexts_of (leads_of ws)) cs (nodes_at plan fs) p.waits stay (h.stands (omega (arith, is)))

        counts : (still : ℕ) → p.still ≡ still → AllCounted p.waits ws
        counts zero is = subst (λ ts. AllCounted ts ws) (sym (h.anew is)) (counted_anew ws cs h.led)
        counts (suc n) is = h.counted (omega (arith, is))

        ready : AllReady (lens_of plan.slaves) p.frames (seen (lens_of plan.slaves) f.sent) (seen (lens_of plan.slaves) f.back) plan.slaves (leads_of ws) cs (map (back_under (seen (lens_of plan.slaves) f.back)) vs) (nexts_then vs) (nodes_at plan fs) (nodes_at plan (fs ++ f ∷ [])) ms ls p.waits
        ready = all_ready lens p.frames f at_frames.datagrams view plan.recover plan.retry gives p.frames fate plan.slaves ws cs vs plan.paces (nodes_at plan fs) (nodes_at plan (fs ++ f ∷ [])) ms ls p.waits
            seated stationed h.led at_frames.each met h.paced e.eager e.remembers e.still refl (counts p.still refl) (all_same x p.frames (seen lens f.sent) (seen lens f.back) cs us lists same.1) (before p.still refl)

        silent : AllSilent (seen (lens_of plan.slaves) f.back) (turns_of vs)
        silent = all_silent lens p.frames (seen lens f.sent) (seen lens f.back) at_frames.datagrams ws cs vs h.led at_frames.each
            (all_quiet lens p.frames (seen lens f.sent) (seen lens f.back) plan.slaves (leads_of ws) cs us (nexts_then vs) (nodes_at plan fs) (nodes_at plan (fs ++ f ∷ [])) ms ls p.waits ready (before p.still refl))

        both : Standing (fs ++ f ∷ []) behind on ls (all_on p.frames cs us p.waits) × (SomeWaits on (all_on p.frames cs us p.waits) ⊎ AllRest (lens_of plan.slaves) plan.slaves ms (leads_of ws) (nodes_at plan fs))
        both =
            let stand = all_stand lens p.frames (seen lens f.sent) (seen lens f.back) plan.slaves (leads_of ws) cs us (nexts_then vs) (nodes_at plan fs) (nodes_at plan (fs ++ f ∷ [])) ms ls p.waits ready (e.none silent) (before p.still refl) in (
              subst (λ zs. AllStanding lens plan.slaves zs on (nodes_at plan (fs ++ f ∷ [])) ls (all_on p.frames cs us p.waits)) (sym (nexts_served lens plan.recover plan.retry gives (length fs) f vs)) stand.0,
              stand.1,
            )

        pub some : SomeWaits on (waits_served (lens_of plan.slaves) plan.recover plan.retry slowest p f vs cs)
        some = subst (λ z. SomeWaits on (waits_behind z p.frames cs us p.waits)) (sym counted) (elim both.1 [ inl waits ↦ waits | inr rest ↦ absurd (e.some rest) ])

        standing_on : Standing (fs ++ f ∷ []) behind on ls (waits_served (lens_of plan.slaves) plan.recover plan.retry slowest p f vs cs)
        standing_on = subst (λ z. Standing (fs ++ f ∷ []) behind on ls (waits_behind z p.frames cs us p.waits)) (sym counted) both.0

        counting_on : AllCounted (waits_served (lens_of plan.slaves) plan.recover plan.retry slowest p f vs cs) behind
        counting_on = subst (λ z. AllCounted (waits_behind z p.frames cs us p.waits) behind) (sym counted)
            (counted_on lens p.frames f plan.recover plan.retry gives (length fs) fate (sym h.frames) at_frames.datagrams plan.slaves ws cs vs (nodes_at plan fs) (nodes_at plan (fs ++ f ∷ [])) ms ls p.waits
            h.led stationed at_frames.each (h.paced ∙ sym h.served) ready (before p.still refl) (counts p.still refl))

      -- whatever it gained: where the count goes on, it is as behind such a frame
      goes_on : (P : Type 0) → (still_served (lens_of plan.slaves) plan.recover plan.retry slowest p f vs cs ≡ suc p.still → P) → 1 ≤ many → P
      goes_on P here one = elim (still_is (repair_of slowest (length cs) p.opened p.last p.frames cs) cs on p.still) [
        | inl zero_is ↦ absurd (omega (arith, zero_is, one))
        | inr (inl (same, repairs)) ↦ absurd (
            let all = repaired lens plan.slaves (nexts_of (leads_of ws)) cs (nodes_at plan fs) ks p.waits (h.stands (omega (arith, same, one))) in
            let none = none_repaired slowest p.opened p.frames p.last cs over all in
            omega (arith, none, repairs)
            )
        | inr (inr counted) ↦ here counted
      ]

      pub round_on : (still_served (lens_of plan.slaves) plan.recover plan.retry slowest p f vs cs ≡ suc p.still → AllStaySo ks ms × IsServedEager plan plan.recover plan.retry missed fs f ms ls ws vs p.frames) → (last : Option ℕ) →
          Holds (fs ++ f ∷ []) (missed_behind (lens_of plan.slaves) plan.recover plan.retry f.fate missed) behind
          (record { frames = suc p.frames; lost = p.lost; still = many; opened = p.opened; last = last; waits = waits_served (lens_of plan.slaves) plan.recover plan.retry slowest p f vs cs }) on ls
      round_on e last = record {
        isled = isled_on;
        led = led_on fate;
        frames = one_more fs f p.frames h.frames;
        paced = paces_back x p.frames (seen lens f.sent) (seen lens f.back) cs us lists ∙ h.paced;
        served = served_on;
        hands = hands_back x acknowledged is_followed is_passed p.frames (seen lens f.sent) (seen lens f.back) cs us lists h.hands;
        anew = λ zero_is. ap (λ z. waits_behind z p.frames cs us p.waits) zero_is ∙ anew_back x p.frames (seen lens f.sent) (seen lens f.back) cs us lists;
        none = λ few. absurd (let long = long_back x p.frames (seen lens f.sent) (seen lens f.back) cs us lists in omega (arith, long, few, over));
        stands = λ one. goes_on (Standing (fs ++ f ∷ []) behind on ls (waits_served lens plan.recover plan.retry slowest p f vs cs)) (λ counted. let both = e counted in standing_on counted both.0 both.1) one;
        counted = λ one. goes_on (AllCounted (waits_served lens plan.recover plan.retry slowest p f vs cs) behind) (λ counted. let both = e counted in counting_on counted both.0 both.1) one;
      }

    -- ---- it came back, and the count begins anew
    pub anew_on : f.fate ≡ Pass → (ls : List Remembered) (lost opened : ℕ) (last : Option ℕ) →
        Holds (fs ++ f ∷ []) (missed_behind (lens_of plan.slaves) plan.recover plan.retry f.fate missed) behind (record { frames = suc p.frames; lost = lost; still = 0; opened = opened; last = last; waits = all_anew cs }) on ls
    anew_on fate ls lost opened last = record {
      isled = isled_on;
      led = led_on fate;
      frames = one_more fs f p.frames h.frames;
      paced = paces_back x p.frames (seen lens f.sent) (seen lens f.back) cs us lists ∙ h.paced;
      served = served_on;
      hands = hands_back x acknowledged is_followed is_passed p.frames (seen lens f.sent) (seen lens f.back) cs us lists h.hands;
      anew = λ none. anew_back x p.frames (seen lens f.sent) (seen lens f.back) cs us lists;
      none = λ few. refl;
      stands = λ one. absurd (omega (arith, one));
      counted = λ one. absurd (omega (arith, one));
    }

    -- ---- it was lost
    pub lost_on : (after : ℕ) → f.fate ≡ Lost after → (ls : List Remembered) (lost opened : ℕ) (last : Option ℕ) →
        Holds (fs ++ f ∷ []) (missed_behind (lens_of plan.slaves) plan.recover plan.retry f.fate missed) behind (record { frames = suc p.frames; lost = lost; still = 0; opened = opened; last = last; waits = all_anew cs })
        (served_lost (lens_of plan.slaves) plan.recover plan.retry slowest gives p.frames f vs cs) ls
    lost_on after fate ls lost opened last = record {
      isled = isled_on;
      led = subst (λ (n : ℕ). AreLed (leads_of behind) (served_lost (lens_of plan.slaves) plan.recover plan.retry slowest gives n f vs cs)) (sym h.frames) (all_led_lost seen_is lens plan.recover plan.retry (length fs) f gives after l.datagrams cs ws vs h.led l.each fate);
      frames = one_more fs f p.frames h.frames;
      paced = paces_lost x p.frames (seen lens f.sent) gives plan.recover cs out lost_lists ∙ h.paced;
      served = served_on;
      hands = hands_lost x acknowledged is_followed is_passed p.frames (seen lens f.sent) gives plan.recover cs out lost_lists h.hands;
      anew = λ none. anew_lost x p.frames (seen lens f.sent) gives plan.recover cs out lost_lists;
      none = λ few. refl;
      stands = λ one. absurd (omega (arith, one));
      counted = λ one. absurd (omega (arith, one));
    }

  -- ---- ALL FRAMES
  pub walks : (fs : List Exchanged) (again : Option (List ℕ)) (missed : ℕ) (ws : List Serves) (p : Progress) (cs : List Slave) (ls ns : List Remembered) → (run : Run fs again missed ws p cs) → AllRound (ring_of plan) fs → ServedEagerIn plan run ls ns → Holds fs missed ws p cs ls × ServedWaits run
  walks fs again missed ws p cs ls ns IsServedToured.start went e = (
    record {
      isled = IsServedLed.start;
      led = begins;
      frames = refl;
      paced = first_clocks (first_of plan) ∙ first_paces;
      served = first_paces;
      hands = hands_of slowest cs clocked;
      anew = λ none. refl;
      none = λ few. refl;
      stands = λ one. absurd (omega (arith, one));
      counted = λ one. absurd (omega (arith, one));
    },
    tt,
  )
  walks gs again' missed' ys q ds ls ns (IsServedToured.asks fs again missed ws p cs place k run may) went e =
      let h = walks fs again missed ws p cs ls e.0 run went e.1 in (asked_on fs missed ws p cs ls place k may h.0, h.1)
  walks gs again' missed' ys q ds ls ns (IsServedToured.lost fs again missed ws p cs f vs after ps run frame fate visit) went e =
      let h = walks fs again missed ws p cs e.0 e.1 run (front_round (ring_of plan) fs f went) e.2 in (lost_on fs missed ws p cs e.0 h.0 f vs frame after fate ls _ _ _, h.1)
  walks gs again' missed' ys q ds ls ns (IsServedToured.opening fs again missed ws p cs f vs ps run frame fate under visit) went e =
      let h = walks fs again missed ws p cs e.0 e.1 run (front_round (ring_of plan) fs f went) e.2 in (
        subst (λ z. Holds (fs ++ f ∷ []) (missed_behind (lens_of plan.slaves) plan.recover plan.retry f.fate missed) (serves_on lens plan.recover plan.retry slowest missed (length fs) f vs) (record { frames = suc p.frames; lost = p.lost; still = z; opened = opened_on p.opened (served_back lens plan.recover plan.retry slowest p.frames f vs cs); last = None; waits = all_anew cs }) (served_back lens plan.recover plan.retry slowest p.frames f vs cs) ls)
            (sym (h.0.none under)) (anew_on fs missed ws p cs e.0 h.0 f vs frame fate ls p.lost (opened_on p.opened (served_back lens plan.recover plan.retry slowest p.frames f vs cs)) None),
        h.1,
      )
  walks gs again' missed' ys q ds ls ns (IsServedToured.round fs again missed ws p cs f vs ps run frame fate over visit) went e =
      let h = walks fs again missed ws p cs e.0 e.1 run (front_round (ring_of plan) fs f went) e.3 in (
        round_on fs missed ws p cs e.0 h.0 f vs frame fate over went e.1 ls e.2 _,
        ((λ counted. let both = e.2 counted in some fs missed ws p cs e.0 h.0 f vs frame fate over went e.1 ls counted both.0 both.1), h.1),
      )
  walks gs again' missed' ys q ds ls ns (IsServedToured.enters fs again missed ws p cs f vs ps run frame fate over visit nothing) went e =
      let h = walks fs again missed ws p cs e.0 e.1 run (front_round (ring_of plan) fs f went) e.2 in (anew_on fs missed ws p cs e.0 h.0 f vs frame fate ls (suc p.lost) p.opened _, h.1)
