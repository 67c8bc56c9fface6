-- Frame by frame.
use Rattle.std.proofs.Common.{◌≡◌, ℕ, suc, ◌+◌, Option, List, [], ◌∷◌, ◌++◌, length, refl, sym, ap, ◌∙◌, subst, arith, length-append}
use Rattle.whole_ring.specs.of_frame_view.View.{Lens}
use Rattle.run_frames.specs.of_life_runs.First.{lens_of, first_leads}
use Rattle.run_frames.specs.of_life_runs.Led.{Exchanged, Leads, gives_up_at}
use Rattle.plan_ring.specs.Lives.{IsKnown, AreLived}
use Rattle.plan_ring.specs.Round.{ring_of, AllRound}
use Rattle.plan_ring.proofs.Lives.{front_round, last_round}
use Rattle.run_frames.specs.Led.{AreLed, first_clocked, leads_behind, behind_back, behind_lost}
use Rattle.run_frames.specs.Runs.{Progress}
use Rattle.run_frames.specs.Toured.{IsToured, AskIn, AnswerIn}
use Rattle.run_frames.proofs.Leading.{SeenIs, all_led_lost, all_led_back}
use Rattle.slave_server.specs.of_segment_plan.Sound as Plan
use Rattle.slave_server.specs.of_segment_plan.declared.plan.Scenario.{Scenario}
use Rattle.plan_ring.proofs.Frames.{back_on, lost_on, answers}
use Rattle.plan_ring.proofs.Pairs.{Slave, AllPair, first_pairs}

one_more : (fs : List Exchanged) (f : Exchanged) (n : ℕ) → n ≡ length fs → suc n ≡ length (fs ++ f ∷ [])
one_more fs f n e = ap suc e ∙ sym (length-append fs (f ∷ []) ∙ (let sum : length fs + 1 ≡ suc (length fs) = omega arith in sum))

module _ (seen_is : SeenIs) (plan : Scenario) (is : Plan.IsPlan plan) (known : IsKnown plan) (slowest : ℕ) (begins : AreLived plan [] (first_leads plan)) (first : AreLed (first_leads plan) (first_clocked (first_leads plan) plan.paces)) where
  abbrev lens : ℕ → Lens
  lens = lens_of plan.slaves

  -- what holds behind each frame
  pub record Holds (fs : List Exchanged) (as' : List Leads) (p : Progress) (cs : List Slave) : Type 0 where
    pub lived : AreLived plan fs as'
    pub pairs : AllPair cs lived.members
    pub led : AreLed as' cs
    pub frames : p.frames ≡ length fs

  abbrev Run : List Exchanged → Option (List ℕ) → ℕ → List Leads → Progress → List Slave → Type 0
  Run fs again missed as' p cs = IsToured (lens_of plan.slaves) plan.recover plan.retry slowest (first_leads plan) plan.paces fs again missed as' p cs

  pub holds : (fs : List Exchanged) (again : Option (List ℕ)) (missed : ℕ) (as' : List Leads) (p : Progress) (cs : List Slave) → Run fs again missed as' p cs → AllRound (ring_of plan) fs → Holds fs as' p cs
  holds fs again missed as' p cs IsToured.start round = record {
    lived = begins;
    pairs = first_pairs plan plan.services 0 0 plan.slaves plan.slaves plan.paces begins.members begins.shown begins.lives.paces;
    led = first;
    frames = refl;
  }
  holds gs again' missed' bs q ds (IsToured.lost fs again missed as' p cs f us after ps r l fate v) round =
      let h = holds fs again missed as' p cs r (front_round (ring_of plan) fs f round) in
      let on = lost_on seen_is plan is known slowest fs missed as' f us h.lived l (last_round (ring_of plan) fs f round) p.frames cs h.pairs h.led h.frames after fate in
      record {
        lived = on.lived;
        pairs = on.paired;
        led = subst (λ (n : ℕ). AreLed (leads_behind lens plan.recover plan.retry slowest missed (length fs) f us) (behind_lost lens plan.recover plan.retry slowest (gives_up_at lens plan.recover plan.retry missed) n f us cs)) (sym h.frames)
            (all_led_lost seen_is lens plan.recover plan.retry (length fs) f (gives_up_at lens plan.recover plan.retry missed) after l.datagrams _ cs as' us h.led l.each fate);
        frames = one_more fs f p.frames h.frames;
      }
  holds gs again' missed' bs q ds (IsToured.opening fs again missed as' p cs f us ps r l fate under v) round =
      let h = holds fs again missed as' p cs r (front_round (ring_of plan) fs f round) in
      let on = back_on seen_is plan is known slowest fs missed as' f us h.lived l (last_round (ring_of plan) fs f round) p.frames cs h.pairs h.led h.frames fate in
      record {
        lived = on.lived;
        pairs = on.paired;
        led = subst (λ (n : ℕ). AreLed (leads_behind lens plan.recover plan.retry slowest missed (length fs) f us) (behind_back lens plan.recover plan.retry slowest n f us cs)) (sym h.frames)
            (all_led_back seen_is lens plan.recover plan.retry (length fs) f (gives_up_at lens plan.recover plan.retry missed) l.datagrams cs as' us h.led l.each fate);
        frames = one_more fs f p.frames h.frames;
      }
  holds gs again' missed' bs q ds (IsToured.round fs again missed as' p cs f us ps r l fate over v) round =
      let h = holds fs again missed as' p cs r (front_round (ring_of plan) fs f round) in
      let on = back_on seen_is plan is known slowest fs missed as' f us h.lived l (last_round (ring_of plan) fs f round) p.frames cs h.pairs h.led h.frames fate in
      record {
        lived = on.lived;
        pairs = on.paired;
        led = subst (λ (n : ℕ). AreLed (leads_behind lens plan.recover plan.retry slowest missed (length fs) f us) (behind_back lens plan.recover plan.retry slowest n f us cs)) (sym h.frames)
            (all_led_back seen_is lens plan.recover plan.retry (length fs) f (gives_up_at lens plan.recover plan.retry missed) l.datagrams cs as' us h.led l.each fate);
        frames = one_more fs f p.frames h.frames;
      }
  holds gs again' missed' bs q ds (IsToured.enters fs again missed as' p cs f us ps r l fate over v nothing) round =
      let h = holds fs again missed as' p cs r (front_round (ring_of plan) fs f round) in
      let on = back_on seen_is plan is known slowest fs missed as' f us h.lived l (last_round (ring_of plan) fs f round) p.frames cs h.pairs h.led h.frames fate in
      record {
        lived = on.lived;
        pairs = on.paired;
        led = subst (λ (n : ℕ). AreLed (leads_behind lens plan.recover plan.retry slowest missed (length fs) f us) (behind_back lens plan.recover plan.retry slowest n f us cs)) (sym h.frames)
            (all_led_back seen_is lens plan.recover plan.retry (length fs) f (gives_up_at lens plan.recover plan.retry missed) l.datagrams cs as' us h.led l.each fate);
        frames = one_more fs f p.frames h.frames;
      }

  -- EACH FRAME THAT CAME BACK IS ANSWERED
  pub answered : (fs : List Exchanged) (again : Option (List ℕ)) (missed : ℕ) (as' : List Leads) (p : Progress) (cs : List Slave) → (t : Run fs again missed as' p cs) → AllRound (ring_of plan) fs → AskIn t → AnswerIn t
  answered fs again missed as' p cs IsToured.start round asks = tt
  answered gs again' missed' bs q ds (IsToured.lost fs again missed as' p cs f us after ps r l fate v) round asks = answered fs again missed as' p cs r (front_round (ring_of plan) fs f round) asks
  answered gs again' missed' bs q ds (IsToured.opening fs again missed as' p cs f us ps r l fate under v) round asks =
      let h = holds fs again missed as' p cs r (front_round (ring_of plan) fs f round) in (
        answers seen_is plan is known slowest fs missed as' f us h.lived l (last_round (ring_of plan) fs f round) p.frames cs h.pairs h.led h.frames fate asks.0,
        answered fs again missed as' p cs r (front_round (ring_of plan) fs f round) asks.1,
      )
  answered gs again' missed' bs q ds (IsToured.round fs again missed as' p cs f us ps r l fate over v) round asks =
      let h = holds fs again missed as' p cs r (front_round (ring_of plan) fs f round) in (
        answers seen_is plan is known slowest fs missed as' f us h.lived l (last_round (ring_of plan) fs f round) p.frames cs h.pairs h.led h.frames fate asks.0,
        answered fs again missed as' p cs r (front_round (ring_of plan) fs f round) asks.1,
      )
  answered gs again' missed' bs q ds (IsToured.enters fs again missed as' p cs f us ps r l fate over v nothing) round asks =
      let h = holds fs again missed as' p cs r (front_round (ring_of plan) fs f round) in (
        answers seen_is plan is known slowest fs missed as' f us h.lived l (last_round (ring_of plan) fs f round) p.frames cs h.pairs h.led h.frames fate asks.0,
        answered fs again missed as' p cs r (front_round (ring_of plan) fs f round) asks.1,
      )
