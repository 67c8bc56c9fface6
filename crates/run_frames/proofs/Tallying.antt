-- A run that a master leads is one whose frames count.
use Rattle.std.proofs.Common.{◌≡◌, ℕ, suc, ◌+◌, ◌≤◌, Bool, true, false, None, List, [], ◌∷◌, ◌++◌, length, refl, sym, ap, ◌∙◌, subst, arith, length-append, if◌then◌else◌}
use Rattle.std.specs.Prelude.{⊤, nat_lt, All}
use Rattle.std.proofs.lemmas.Bool.{leb-true, leb-false}
use Rattle.std.proofs.lemmas.List.Elements.{All-head, All-tail}
use Rattle.life_runs.specs.of_frame_view.Seen.{seen}
use Rattle.life_runs.specs.of_frame_view.View.{Lens}
use Rattle.life_runs.specs.First.{leads_from}
use Rattle.life_runs.specs.Led.{Exchanged, Leads, IsLed, IsLedFrame, speech_at, is_passed, gives_up_at}
use Rattle.life_runs.specs.of_link_mails.Body.{Body}
use Rattle.life_runs.specs.of_master_duty.Reply.{Reply}
use Rattle.life_runs.specs.of_master_hand.Spoken.{Asked, acknowledged, is_followed}
use Rattle.life_runs.specs.of_segment_plan.Bound.{slowest, slowest_of}
use Rattle.life_runs.specs.of_segment_plan.Sound.{IsPace}
use Rattle.life_runs.specs.of_segment_plan.declared.service.Service as Plan
use Rattle.life_runs.specs.of_segment_plan.declared.slave.SlaveSpec.{SlaveSpec}
use Rattle.run_frames.specs.Begins.{AllNew}
use Rattle.run_frames.specs.Clocks.{Clocked}
use Rattle.run_frames.specs.Goes.{AllClocked}
use Rattle.run_frames.specs.Led.{AreLed, unders, first_clocked, behind_lost, behind_back, leads_behind, IsTallied}
use Rattle.run_frames.specs.Runs.{Progress, IsRun}
use Rattle.run_frames.proofs.Leading.{SeenIs, all_under, all_led_lost, all_led_back, led_view}

abbrev Slave : Type 0
Slave = Clocked Body Asked Reply

-- what is known behind each frame
pub record Known (lens : ℕ → Lens) (recover retry slowest : ℕ) (first : List Leads) (paces : List ℕ) (fs : List Exchanged) (missed : ℕ) (as' : List Leads) (p : Progress) (cs : List Slave) : Type 0 where
  pub led : IsLed lens recover retry first fs missed as'
  pub run : IsRun (speech_at lens) acknowledged is_followed is_passed recover slowest (first_clocked first paces) p cs
  pub slaves : AreLed as' cs
  pub frames : p.frames ≡ length fs

one_more : (fs : List Exchanged) (f : Exchanged) (n : ℕ) → n ≡ length fs → suc n ≡ length (fs ++ f ∷ [])
one_more fs f n e = ap suc e ∙ sym (length-append fs (f ∷ []) ∙ (let sum : length fs + 1 ≡ suc (length fs) = omega arith in sum))

module _ (seen_is : SeenIs) (lens : ℕ → Lens) (recover retry slowest : ℕ) (first : List Leads) (paces : List ℕ) (begins : AllNew (first_clocked first paces) × AllClocked slowest (first_clocked first paces) × AreLed first (first_clocked first paces)) where
  pub tallied : (fs : List Exchanged) (missed : ℕ) (as' : List Leads) (p : Progress) (cs : List Slave) → IsTallied lens recover retry slowest first paces fs missed as' p cs → Known lens recover retry slowest first paces fs missed as' p cs
  tallied fs missed as' p cs IsTallied.start = record {
    led = IsLed.start;
    run = IsRun.start None begins.0 begins.1;
    slaves = begins.2;
    frames = refl;
  }
  tallied gs missed' bs q ds (IsTallied.lost fs missed as' p cs f us after next r l fate one) =
      let k = tallied fs missed as' p cs r in
      let l' = subst (λ n. IsLedFrame lens n f.sent as' us) (sym k.frames) l in
      let view = led_view seen_is lens recover retry p.frames f l'.datagrams l'.frame in
      record {
        led = IsLed.on fs missed as' f us k.led l;
        run = IsRun.lost p cs (unders (seen lens f.back) us) (gives_up_at lens recover retry missed) (seen lens f.sent) next k.run
            (all_under seen_is lens recover retry p.frames f l'.datagrams (seen lens f.back) cs as' us k.slaves view l'.each) one;
        slaves = subst (λ n. AreLed (leads_behind lens recover retry slowest missed n f us) (behind_lost lens recover retry slowest (gives_up_at lens recover retry missed) p.frames f us cs)) k.frames
            (all_led_lost seen_is lens recover retry p.frames f (gives_up_at lens recover retry missed) after l'.datagrams (seen lens f.back) cs as' us k.slaves l'.each fate);
        frames = one_more fs f p.frames k.frames;
      }
  tallied gs missed' bs q ds (IsTallied.opening fs missed as' p cs f us next r l fate b under one) =
      let k = tallied fs missed as' p cs r in
      let l' = subst (λ n. IsLedFrame lens n f.sent as' us) (sym k.frames) l in
      let view = led_view seen_is lens recover retry p.frames f l'.datagrams l'.frame in
      record {
        led = IsLed.on fs missed as' f us k.led l;
        run = IsRun.opening p cs (unders (seen lens f.back) us) (seen lens f.sent) (seen lens f.back) next k.run
            (all_under seen_is lens recover retry p.frames f l'.datagrams (seen lens f.back) cs as' us k.slaves view l'.each) b under one;
        slaves = subst (λ n. AreLed (leads_behind lens recover retry slowest missed n f us) (behind_back lens recover retry slowest p.frames f us cs)) k.frames
            (all_led_back seen_is lens recover retry p.frames f (gives_up_at lens recover retry missed) l'.datagrams cs as' us k.slaves l'.each fate);
        frames = one_more fs f p.frames k.frames;
      }
  tallied gs missed' bs q ds (IsTallied.round fs missed as' p cs f us ps r l fate b over round waits) =
      let k = tallied fs missed as' p cs r in
      let l' = subst (λ n. IsLedFrame lens n f.sent as' us) (sym k.frames) l in
      let view = led_view seen_is lens recover retry p.frames f l'.datagrams l'.frame in
      record {
        led = IsLed.on fs missed as' f us k.led l;
        run = IsRun.round p cs (unders (seen lens f.back) us) (seen lens f.sent) (seen lens f.back) ps k.run
            (all_under seen_is lens recover retry p.frames f l'.datagrams (seen lens f.back) cs as' us k.slaves view l'.each) b over round waits;
        slaves = subst (λ n. AreLed (leads_behind lens recover retry slowest missed n f us) (behind_back lens recover retry slowest p.frames f us cs)) k.frames
            (all_led_back seen_is lens recover retry p.frames f (gives_up_at lens recover retry missed) l'.datagrams cs as' us k.slaves l'.each fate);
        frames = one_more fs f p.frames k.frames;
      }
  tallied gs missed' bs q ds (IsTallied.enters fs missed as' p cs f us ps r l fate b over round nothing) =
      let k = tallied fs missed as' p cs r in
      let l' = subst (λ n. IsLedFrame lens n f.sent as' us) (sym k.frames) l in
      let view = led_view seen_is lens recover retry p.frames f l'.datagrams l'.frame in
      record {
        led = IsLed.on fs missed as' f us k.led l;
        run = IsRun.enters p cs (unders (seen lens f.back) us) (seen lens f.sent) (seen lens f.back) ps k.run
            (all_under seen_is lens recover retry p.frames f l'.datagrams (seen lens f.back) cs as' us k.slaves view l'.each) b over round nothing;
        slaves = subst (λ n. AreLed (leads_behind lens recover retry slowest missed n f us) (behind_back lens recover retry slowest p.frames f us cs)) k.frames
            (all_led_back seen_is lens recover retry p.frames f (gives_up_at lens recover retry missed) l'.datagrams cs as' us k.slaves l'.each fate);
        frames = one_more fs f p.frames k.frames;
      }

-- ---- a plan's slaves before the first frame
above : (most : ℕ) (paces : List ℕ) → most ≤ slowest_of most paces
above most [] = omega arith
above most (pace ∷ paces) = go (nat_lt most pace) refl (above pace paces) (above most paces)
  where
    go : (b : Bool) → nat_lt most pace ≡ b → pace ≤ slowest_of pace paces → most ≤ slowest_of most paces → most ≤ slowest_of (if b then pace else most) paces
    go true e x y = (let less = leb-true (suc most) pace e in omega (arith, less, x))
    go false e x y = y

-- each of these is at most that
abbrev AtMost : ℕ → List ℕ → Type 0
AtMost most [] = ⊤
AtMost most (pace ∷ paces) = (pace ≤ most) × AtMost most paces

no_more : (most more : ℕ) (paces : List ℕ) → most ≤ more → AtMost most paces → AtMost more paces
no_more most more [] l a = tt
no_more most more (pace ∷ paces) l a = (omega (arith, l, a.0), no_more most more paces l a.1)

each_most : (most : ℕ) (paces : List ℕ) → AtMost (slowest_of most paces) paces
each_most most [] = tt
each_most most (pace ∷ paces) = go (nat_lt most pace) refl (each_most pace paces) (each_most most paces)
  where
    go : (b : Bool) → nat_lt most pace ≡ b → AtMost (slowest_of pace paces) paces → AtMost (slowest_of most paces) paces → (pace ≤ slowest_of (if b then pace else most) paces) × AtMost (slowest_of (if b then pace else most) paces) paces
    go true e x y = (above pace paces, x)
    go false e x y = (let less = leb-false (suc most) pace e in omega (arith, less, above most paces), y)

-- as they are switched on
pub first_known : (rows : List (ℕ × Plan.Service)) (most place : ℕ) (ss : List SlaveSpec) (paces : List ℕ) → length paces ≡ length ss → All IsPace paces → AtMost most paces →
    (let cs = first_clocked (leads_from rows place ss) paces in AllNew cs × AllClocked most cs × AreLed (leads_from rows place ss) cs × (length cs ≡ length ss))
first_known rows most place [] paces e a m = (tt, tt, tt, refl)
first_known rows most place (s ∷ ss) [] e a m = absurd (cc)
first_known rows most place (s ∷ ss) (pace ∷ paces) e a m =
    let others = first_known rows most (suc place) ss paces (let f : length paces ≡ length ss = cc in f) (All-tail IsPace pace paces a) m.1 in (
      (refl, others.0),
      (
        record {
          stands = record { first = omega arith; last = omega arith; new = λ is. refl };
          hand = λ is. refl;
          gained = omega arith;
          some = (All-head IsPace pace paces a).0;
          most = m.0;
        },
        others.1,
      ),
      (refl, refl, others.2),
      ap suc others.3,
    )

pub first_of_plan : (rows : List (ℕ × Plan.Service)) (ss : List SlaveSpec) (paces : List ℕ) → length paces ≡ length ss → All IsPace paces →
    (let cs = first_clocked (leads_from rows 0 ss) paces in AllNew cs × AllClocked (slowest paces) cs × AreLed (leads_from rows 0 ss) cs × (length cs ≡ length ss))
first_of_plan rows ss paces e a = first_known rows (slowest paces) 0 ss paces e a (each_most 0 paces)

-- the slowest makes a step
pub some_slowest : (paces : List ℕ) → 1 ≤ length paces → All IsPace paces → 1 ≤ slowest paces
some_slowest [] l a = absurd (omega (arith, l))
some_slowest (pace ∷ paces) l a = (let m = (each_most 0 (pace ∷ paces)).0 in omega (arith, m, (All-head IsPace pace paces a).0))
