-- A RUN THAT A MASTER LEADS, whose frames are visits of one tour.
use Rattle.std.specs.Prelude.{◌≡◌, ◌≤◌, ◌<◌, ℕ, suc, nat_lt, Option, None, List, [], ◌∷◌, ◌++◌, length, ⊤}
use Rattle.life_runs.specs.of_frame_view.Seen.{seen}
use Rattle.life_runs.specs.of_frame_view.View.{Lens}
use Rattle.life_runs.specs.Led.{Exchanged, Leads, Turn, IsLedFrame, gives_up_at, missed_behind}
use Rattle.life_runs.specs.of_link_mails.Body.{Body}
use Rattle.life_runs.specs.of_master_duty.Reply.{Reply}
use Rattle.life_runs.specs.of_master_hand.Spoken.{Asked}
use Rattle.life_runs.specs.of_segment_ring.declared.wire.Fate.TheVariants.{Pass, Lost}
use Rattle.run_frames.specs.Answers.{AllAsk, AllAnswer}
use Rattle.run_frames.specs.Clocks.{Clocked}
use Rattle.run_frames.specs.Led.{unders, first_clocked, behind_lost, behind_back, still_led, waits_led, leads_behind}
use Rattle.run_frames.specs.Orders.{opened_on, last_of}
use Rattle.run_frames.specs.Runs.{Progress, nothing_sent}
use Rattle.run_frames.specs.Tours.{IsVisited, again_behind, last_lost}
use Rattle.run_frames.specs.Waits.{all_anew, SomeWaits}

module _ (lens : ℕ → Lens) (recover retry slowest : ℕ) where
  -- frame by frame, with the slaves that come again: each is a visit of the tour, whether it is lost or comes back, in the first bring-up and behind it;
  -- and one that gained nothing, with nothing to repair, may be one with which a packet of the host came in, and then counts as lost
  pub data IsToured (first : List Leads) (paces : List ℕ) : List Exchanged → Option (List ℕ) → ℕ → List Leads → Progress → List (Clocked Body Asked Reply) → Type 0 where
    start : IsToured first paces [] None 0 first (nothing_sent None (first_clocked first paces)) (first_clocked first paces)
    lost : (fs : List Exchanged) (again : Option (List ℕ)) (missed : ℕ) (as' : List Leads) (p : Progress) (cs : List (Clocked Body Asked Reply)) (f : Exchanged) (us : List Turn) (after : ℕ) (ps : List ℕ) → IsToured first paces fs again missed as' p cs →
        IsLedFrame lens (length fs) f.sent as' us → f.fate ≡ Lost after → IsVisited again (length cs) p.opened p.last cs (unders (seen lens f.back) us) ps →
        IsToured first paces (fs ++ f ∷ []) (again_behind (gives_up_at lens recover retry missed) ps) (missed_behind lens recover retry f.fate missed) (leads_behind lens recover retry slowest missed (length fs) f us)
        (record { frames = suc p.frames; lost = suc p.lost; still = 0; opened = opened_on p.opened (behind_lost lens recover retry slowest (gives_up_at lens recover retry missed) p.frames f us cs); last = last_lost (nat_lt p.opened (length cs)) (gives_up_at lens recover retry missed) p.last ps; waits = all_anew cs })
        (behind_lost lens recover retry slowest (gives_up_at lens recover retry missed) p.frames f us cs)
    opening : (fs : List Exchanged) (again : Option (List ℕ)) (missed : ℕ) (as' : List Leads) (p : Progress) (cs : List (Clocked Body Asked Reply)) (f : Exchanged) (us : List Turn) (ps : List ℕ) → IsToured first paces fs again missed as' p cs →
        IsLedFrame lens (length fs) f.sent as' us → f.fate ≡ Pass → p.opened < length cs → IsVisited again (length cs) p.opened p.last cs (unders (seen lens f.back) us) ps →
        IsToured first paces (fs ++ f ∷ []) None (missed_behind lens recover retry f.fate missed) (leads_behind lens recover retry slowest missed (length fs) f us)
        (record { frames = suc p.frames; lost = p.lost; still = p.still; opened = opened_on p.opened (behind_back lens recover retry slowest p.frames f us cs); last = None; waits = all_anew cs }) (behind_back lens recover retry slowest p.frames f us cs)
    round : (fs : List Exchanged) (again : Option (List ℕ)) (missed : ℕ) (as' : List Leads) (p : Progress) (cs : List (Clocked Body Asked Reply)) (f : Exchanged) (us : List Turn) (ps : List ℕ) → IsToured first paces fs again missed as' p cs →
        IsLedFrame lens (length fs) f.sent as' us → f.fate ≡ Pass → length cs ≤ p.opened → IsVisited again (length cs) p.opened p.last cs (unders (seen lens f.back) us) ps →
        IsToured first paces (fs ++ f ∷ []) None (missed_behind lens recover retry f.fate missed) (leads_behind lens recover retry slowest missed (length fs) f us)
        (record { frames = suc p.frames; lost = p.lost; still = still_led lens recover retry slowest p f us cs; opened = p.opened; last = last_of p.last ps; waits = waits_led lens recover retry slowest p f us cs }) (behind_back lens recover retry slowest p.frames f us cs)
    enters : (fs : List Exchanged) (again : Option (List ℕ)) (missed : ℕ) (as' : List Leads) (p : Progress) (cs : List (Clocked Body Asked Reply)) (f : Exchanged) (us : List Turn) (ps : List ℕ) → IsToured first paces fs again missed as' p cs →
        IsLedFrame lens (length fs) f.sent as' us → f.fate ≡ Pass → length cs ≤ p.opened → IsVisited again (length cs) p.opened p.last cs (unders (seen lens f.back) us) ps → still_led lens recover retry slowest p f us cs ≡ suc p.still →
        IsToured first paces (fs ++ f ∷ []) None (missed_behind lens recover retry f.fate missed) (leads_behind lens recover retry slowest missed (length fs) f us)
        (record { frames = suc p.frames; lost = suc p.lost; still = 0; opened = p.opened; last = last_of p.last ps; waits = all_anew cs }) (behind_back lens recover retry slowest p.frames f us cs)

module _ {lens : ℕ → Lens} {recover retry slowest : ℕ} {first : List Leads} {paces : List ℕ} where
  -- EACH FRAME THAT CAME BACK asked by the inward half first
  abbrev pub AskIn : {fs : List Exchanged} {again : Option (List ℕ)} {missed : ℕ} {as' : List Leads} {p : Progress} {cs : List (Clocked Body Asked Reply)} → IsToured lens recover retry slowest first paces fs again missed as' p cs → Type 0
  AskIn IsToured.start = ⊤
  AskIn (IsToured.lost fs again missed as' p cs f us after ps run led fate visit) = AskIn run
  AskIn (IsToured.opening fs again missed as' p cs f us ps run led fate under visit) = AllAsk (seen lens f.sent) us × AskIn run
  AskIn (IsToured.round fs again missed as' p cs f us ps run led fate over visit) = AllAsk (seen lens f.sent) us × AskIn run
  AskIn (IsToured.enters fs again missed as' p cs f us ps run led fate over visit nothing) = AllAsk (seen lens f.sent) us × AskIn run

  -- and each slave answered by it what awaits a step
  abbrev pub AnswerIn : {fs : List Exchanged} {again : Option (List ℕ)} {missed : ℕ} {as' : List Leads} {p : Progress} {cs : List (Clocked Body Asked Reply)} → IsToured lens recover retry slowest first paces fs again missed as' p cs → Type 0
  AnswerIn IsToured.start = ⊤
  AnswerIn (IsToured.lost fs again missed as' p cs f us after ps run led fate visit) = AnswerIn run
  AnswerIn (IsToured.opening fs again missed as' p cs f us ps run led fate under visit) = AllAnswer (seen lens f.back) cs us × AnswerIn run
  AnswerIn (IsToured.round fs again missed as' p cs f us ps run led fate over visit) = AllAnswer (seen lens f.back) cs us × AnswerIn run
  AnswerIn (IsToured.enters fs again missed as' p cs f us ps run led fate over visit nothing) = AllAnswer (seen lens f.back) cs us × AnswerIn run

  -- BEHIND EACH FRAME THAT GAINED NOTHING, with nothing to repair, some slave waits yet, unless a packet of the host came in with it
  abbrev pub WaitIn : {fs : List Exchanged} {again : Option (List ℕ)} {missed : ℕ} {as' : List Leads} {p : Progress} {cs : List (Clocked Body Asked Reply)} → IsToured lens recover retry slowest first paces fs again missed as' p cs → Type 0
  WaitIn IsToured.start = ⊤
  WaitIn (IsToured.lost fs again missed as' p cs f us after ps run led fate visit) = WaitIn run
  WaitIn (IsToured.opening fs again missed as' p cs f us ps run led fate under visit) = WaitIn run
  WaitIn (IsToured.round fs again missed as' p cs f us ps run led fate over visit) =
      (still_led lens recover retry slowest p f us cs ≡ suc p.still → SomeWaits (behind_back lens recover retry slowest p.frames f us cs) (waits_led lens recover retry slowest p f us cs)) × WaitIn run
  WaitIn (IsToured.enters fs again missed as' p cs f us ps run led fate over visit nothing) = WaitIn run
