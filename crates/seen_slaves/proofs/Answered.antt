-- Frame by frame of a serving: the clocks of its slaves, and what these answer.
use Rattle.std.proofs.Common.{◌≡◌, ℕ, suc, Bool, Option, List, [], ◌∷◌, ◌++◌, map, length, refl, sym, ap, ap₂, ◌∙◌, subst}
use Rattle.std.proofs.lemmas.List.{length-map}
use Rattle.idle_slaves.specs.of_frame_view.Seen.{seen}
use Rattle.idle_slaves.specs.of_frame_view.View.{Lens}
use Rattle.idle_slaves.proofs.Fits.{Slave}
use Rattle.idle_slaves.proofs.Walk.{one_more}
use Rattle.idle_slaves.specs.of_life_runs.First.{lens_of, first_leads}
use Rattle.idle_slaves.specs.of_life_runs.Led.{Exchanged, gives_up_at, missed_behind, speech_at}
use Rattle.idle_slaves.specs.of_datagrams.Datagram as Raw
use Rattle.idle_slaves.specs.of_link_mails.Body.{Body}
use Rattle.served_rings.specs.of_master_duty.Reply.{Reply}
use Rattle.served_rings.specs.of_master_hand.Spoken.{Asked}
use Rattle.idle_slaves.specs.of_plan_ring.Lives.{IsKnown}
use Rattle.idle_slaves.specs.of_plan_ring.Round.{AllRound, ring_of}
use Rattle.idle_slaves.proofs.of_plan_ring.Lives.{front_round, last_round}
use Rattle.idle_slaves.specs.of_run_frames.Answers.{AllAnswer, AllAsk}
use Rattle.idle_slaves.specs.of_run_frames.Goes.{Under}
use Rattle.idle_slaves.specs.of_run_frames.Led.{AreLed}
use Rattle.idle_slaves.specs.of_run_frames.Runs.{Progress}
use Rattle.idle_slaves.proofs.of_run_frames.Leading.{SeenIs}
use Rattle.idle_slaves.specs.of_segment_plan.Sound as Plan
use Rattle.idle_slaves.specs.of_segment_plan.declared.plan.Scenario.{Scenario}
use Rattle.idle_slaves.specs.of_segment_ring.declared.wire.Fate.TheVariants.{Pass, Lost}
use Rattle.served_rings.specs.of_served_places.Answered.{ServedAnswers, ServedAsks}
use Rattle.served_rings.specs.of_served_places.Toured.{IsServedToured, back_under, first_served, lost_under, serves_on, served_back, served_lost}
use Rattle.served_rings.proofs.of_served_places.Slaves.{all_led_back, all_led_lost, leads_asked}
use Rattle.served_rings.specs.Rings.{AreServedLived, ServedMember, served_members}
use Rattle.served_rings.proofs.Lives.{asked_members}
use Rattle.idle_slaves.specs.of_life_runs.Served.{Keyed, MayAsk, Serves, ServedTurn, AllServedTurn, IsServedFrame, IsServedLed, all_serve, asked_at}
use Rattle.seen_slaves.specs.Eager.{leads_of, turns_of}
use Rattle.seen_slaves.proofs.Clocks.{RunOn, answers, clocks, run_back, run_lost, stands_on}
use Rattle.seen_slaves.proofs.Seats.{nodes_are}
use Rattle.seen_slaves.proofs.Stays.{paces_asked, paces_served}
use Rattle.seen_slaves.proofs.Walk.{Led, first_of, nodes_at}
use Rattle.idle_slaves.specs.of_plan_ring.Clocks.{AllStand}

-- a clock that runs on keeps its pace
run_paces : (number : ℕ) (cs ds : List Slave) → RunOn number cs ds → map (λ (c : Slave). c.pace) ds ≡ map (λ (c : Slave). c.pace) cs
run_paces number [] [] r = refl
run_paces number [] (d ∷ ds) r = absurd r
run_paces number (c ∷ cs) [] r = absurd r
run_paces number (c ∷ cs) (d ∷ ds) r = ap₂ (λ (n : ℕ) (l : List ℕ). n ∷ l) (ap (λ (z : Slave). z.pace) r.0) (run_paces number cs ds r.1)

long_turns : (lens : ℕ → Lens) (made : ℕ) (ds : List Raw.Datagram) (ws : List Serves) (vs : List ServedTurn) (cs : List Slave) → AllServedTurn lens made ds ws vs → AreLed (leads_of ws) cs → length vs ≡ length cs
long_turns lens made ds [] [] [] t l = refl
long_turns lens made ds [] [] (c ∷ cs) t l = absurd l
long_turns lens made ds [] (v ∷ vs) cs t l = absurd t
long_turns lens made ds (w ∷ ws) [] cs t l = absurd t
long_turns lens made ds (w ∷ ws) (v ∷ vs) [] t l = absurd l
long_turns lens made ds (w ∷ ws) (v ∷ vs) (c ∷ cs) t l = ap suc (long_turns lens made ds ws vs cs t.1 l.2)

module _ (seen_is : SeenIs) (plan : Scenario) (is : Plan.IsPlan plan) (known : IsKnown plan) (slowest : ℕ) (lives : (fs : List Exchanged) (missed : ℕ) (ws : List Serves) → Led plan fs missed ws → AllRound (ring_of plan) fs → AreServedLived plan fs ws)
    (begins : AreLed (leads_of (first_of plan)) (first_served (first_of plan))) (first_stands : AllStand (clocks (first_served (first_of plan))) (served_members (lens_of plan.slaves) 0 plan.slaves (first_of plan) (nodes_at plan [])))
    (first_paces : map (λ (c : Slave). c.pace) (first_served (first_of plan)) ≡ map (λ (w : Serves). w.pace) (first_of plan)) where
  abbrev lens : ℕ → Lens
  lens = lens_of plan.slaves

  abbrev Run : List Exchanged → Option (List ℕ) → ℕ → List Serves → Progress → List Slave → Type 0
  Run fs again missed ws p cs = IsServedToured (lens_of plan.slaves) plan.recover plan.retry slowest (all_serve plan.paces (first_leads plan)) fs again missed ws p cs

  -- what holds behind each frame
  pub record Holds (fs : List Exchanged) (missed : ℕ) (ws : List Serves) (p : Progress) (cs : List Slave) : Type 0 where
    pub isled : Led plan fs missed ws
    pub led : AreLed (leads_of ws) cs
    pub paced : map (λ (c : Slave). c.pace) cs ≡ map (λ (w : Serves). w.pace) ws
    pub frames : p.frames ≡ length fs
    pub stands : AllStand (clocks cs) (served_members (lens_of plan.slaves) 0 plan.slaves ws (nodes_at plan fs))

  -- a mail was asked
  asked_on : (fs : List Exchanged) (missed : ℕ) (ws : List Serves) (p : Progress) (cs : List Slave) (place : ℕ) (k : Keyed) → MayAsk (lens_of plan.slaves) place k ws → Holds fs missed ws p cs → Holds fs missed (asked_at place k ws) p cs
  asked_on fs missed ws p cs place k may h = record {
    isled = IsServedLed.asks fs missed ws place k h.isled may;
    led = subst (λ as'. AreLed as' cs) (sym (leads_asked place k ws)) h.led;
    paced = h.paced ∙ sym (paces_asked place k ws);
    frames = h.frames;
    stands = subst (λ (ms : List ServedMember). AllStand (clocks cs) ms) (sym (asked_members lens 0 place k plan.slaves ws (nodes_at plan fs))) h.stands;
  }

  -- ---- one frame
  module _ (fs : List Exchanged) (missed : ℕ) (ws : List Serves) (p : Progress) (cs : List Slave) (h : Holds fs missed ws p cs) (f : Exchanged) (vs : List ServedTurn) (l : IsServedFrame (lens_of plan.slaves) (length fs) f.sent ws vs) (went : AllRound (ring_of plan) (fs ++ f ∷ [])) where
    abbrev gives : Bool
    gives = gives_up_at (lens_of plan.slaves) plan.recover plan.retry missed

    lived : AreServedLived plan fs ws
    lived = lives fs missed ws h.isled (front_round (ring_of plan) fs f went)

    stands : AllStand (clocks cs) (served_members lens 0 plan.slaves ws lived.nodes)
    stands = subst (λ ns. AllStand (clocks cs) (served_members lens 0 plan.slaves ws ns)) (lived.lives.nodes ∙ nodes_are plan 0 plan.slaves ws lived.nodes lived.at) h.stands

    abbrev behind : List Serves
    behind = serves_on (lens_of plan.slaves) plan.recover plan.retry slowest missed (length fs) f vs

    paced_on : map (λ (w : Serves). w.pace) behind ≡ map (λ (w : Serves). w.pace) ws
    paced_on = paces_served lens plan.recover plan.retry gives (length fs) (length fs) f l.datagrams ws vs l.each

    on_by : (q : Progress) (ds : List Slave) → q.frames ≡ suc p.frames → RunOn p.frames cs ds → AreLed (leads_of behind) ds → Holds (fs ++ f ∷ []) (missed_behind (lens_of plan.slaves) plan.recover plan.retry f.fate missed) behind q ds
    on_by q ds more run led = record {
      isled = IsServedLed.on fs missed ws f vs h.isled l;
      led = led;
      paced = run_paces p.frames cs ds run ∙ h.paced ∙ sym paced_on;
      frames = more ∙ one_more fs f p.frames h.frames;
      stands = stands_on plan is known fs missed ws f vs lived l (last_round (ring_of plan) fs f went) cs h.led stands ds (subst (λ (n : ℕ). RunOn n cs ds) h.frames run) led h.paced;
    }

    long : (g : ServedTurn → Under Body Asked Reply) → length (map g vs) ≡ length cs
    long g = length-map vs g ∙ long_turns lens (length fs) l.datagrams ws vs cs l.each h.led

    -- it came back
    pub back_on : f.fate ≡ Pass → (q : Progress) → q.frames ≡ suc p.frames → Holds (fs ++ f ∷ []) (missed_behind (lens_of plan.slaves) plan.recover plan.retry f.fate missed) behind q (served_back (lens_of plan.slaves) plan.recover plan.retry slowest p.frames f vs cs)
    back_on fate q more = on_by q (served_back lens plan.recover plan.retry slowest p.frames f vs cs) more
        (run_back (speech_at lens) p.frames (seen lens f.back) cs (map (back_under (seen lens f.back)) vs) (long (back_under (seen lens f.back))))
        (subst (λ (n : ℕ). AreLed (leads_of behind) (served_back lens plan.recover plan.retry slowest n f vs cs)) (sym h.frames) (all_led_back seen_is lens plan.recover plan.retry (length fs) f gives l.datagrams cs ws vs h.led l.each fate))

    -- it was lost
    pub lost_on : (after : ℕ) → f.fate ≡ Lost after → (q : Progress) → q.frames ≡ suc p.frames →
        Holds (fs ++ f ∷ []) (missed_behind (lens_of plan.slaves) plan.recover plan.retry f.fate missed) behind q (served_lost (lens_of plan.slaves) plan.recover plan.retry slowest gives p.frames f vs cs)
    lost_on after fate q more = on_by q (served_lost lens plan.recover plan.retry slowest gives p.frames f vs cs) more
        (run_lost (speech_at lens) p.frames gives plan.recover (seen lens f.sent) cs (map (lost_under (seen lens f.sent)) vs) (long (lost_under (seen lens f.sent))))
        (subst (λ (n : ℕ). AreLed (leads_of behind) (served_lost lens plan.recover plan.retry slowest gives n f vs cs)) (sym h.frames) (all_led_lost seen_is lens plan.recover plan.retry (length fs) f gives after l.datagrams cs ws vs h.led l.each fate))

  -- ---- ALL FRAMES
  holds : (fs : List Exchanged) (again : Option (List ℕ)) (missed : ℕ) (ws : List Serves) (p : Progress) (cs : List Slave) → Run fs again missed ws p cs → AllRound (ring_of plan) fs → Holds fs missed ws p cs
  holds fs again missed ws p cs IsServedToured.start went = record { isled = IsServedLed.start; led = begins; paced = first_paces; frames = refl; stands = first_stands }
  holds gs again' missed' ys q ds (IsServedToured.asks fs again missed ws p cs place k run may) went = asked_on fs missed ws p cs place k may (holds fs again missed ws p cs run went)
  holds gs again' missed' ys q ds (IsServedToured.lost fs again missed ws p cs f vs after ps run frame fate visit) went = lost_on fs missed ws p cs (holds fs again missed ws p cs run (front_round (ring_of plan) fs f went)) f vs frame went after fate _ refl
  holds gs again' missed' ys q ds (IsServedToured.opening fs again missed ws p cs f vs ps run frame fate under visit) went = back_on fs missed ws p cs (holds fs again missed ws p cs run (front_round (ring_of plan) fs f went)) f vs frame went fate _ refl
  holds gs again' missed' ys q ds (IsServedToured.round fs again missed ws p cs f vs ps run frame fate over visit) went = back_on fs missed ws p cs (holds fs again missed ws p cs run (front_round (ring_of plan) fs f went)) f vs frame went fate _ refl
  holds gs again' missed' ys q ds (IsServedToured.enters fs again missed ws p cs f vs ps run frame fate over visit nothing) went = back_on fs missed ws p cs (holds fs again missed ws p cs run (front_round (ring_of plan) fs f went)) f vs frame went fate _ refl

  -- what the slaves answer by one that came back
  answered_by : (fs : List Exchanged) (again : Option (List ℕ)) (missed : ℕ) (ws : List Serves) (p : Progress) (cs : List Slave) (f : Exchanged) (vs : List ServedTurn) → Run fs again missed ws p cs → IsServedFrame (lens_of plan.slaves) (length fs) f.sent ws vs → f.fate ≡ Pass → AllRound (ring_of plan) (fs ++ f ∷ []) →
      AllAsk (seen (lens_of plan.slaves) f.sent) (turns_of vs) → AllAnswer (seen (lens_of plan.slaves) f.back) cs (turns_of vs)
  answered_by fs again missed ws p cs f vs run frame fate went asks =
      let h = holds fs again missed ws p cs run (front_round (ring_of plan) fs f went) in
      answers plan is known fs missed ws f vs (lived fs missed ws p cs h f vs frame went) frame (last_round (ring_of plan) fs f went) cs h.led (stands fs missed ws p cs h f vs frame went) fate asks

  -- EACH FRAME THAT CAME BACK IS ANSWERED
  pub answered : (fs : List Exchanged) (again : Option (List ℕ)) (missed : ℕ) (ws : List Serves) (p : Progress) (cs : List Slave) → (t : Run fs again missed ws p cs) → AllRound (ring_of plan) fs → ServedAsks t → ServedAnswers t
  answered fs again missed ws p cs IsServedToured.start went asks = tt
  answered gs again' missed' ys q ds (IsServedToured.asks fs again missed ws p cs place k run may) went asks = answered fs again missed ws p cs run went asks
  answered gs again' missed' ys q ds (IsServedToured.lost fs again missed ws p cs f vs after ps run frame fate visit) went asks = answered fs again missed ws p cs run (front_round (ring_of plan) fs f went) asks
  answered gs again' missed' ys q ds (IsServedToured.opening fs again missed ws p cs f vs ps run frame fate under visit) went asks =
      (answered_by fs again missed ws p cs f vs run frame fate went asks.0, answered fs again missed ws p cs run (front_round (ring_of plan) fs f went) asks.1)
  answered gs again' missed' ys q ds (IsServedToured.round fs again missed ws p cs f vs ps run frame fate over visit) went asks =
      (answered_by fs again missed ws p cs f vs run frame fate went asks.0, answered fs again missed ws p cs run (front_round (ring_of plan) fs f went) asks.1)
  answered gs again' missed' ys q ds (IsServedToured.enters fs again missed ws p cs f vs ps run frame fate over visit nothing) went asks =
      (answered_by fs again missed ws p cs f vs run frame fate went asks.0, answered fs again missed ws p cs run (front_round (ring_of plan) fs f went) asks.1)
