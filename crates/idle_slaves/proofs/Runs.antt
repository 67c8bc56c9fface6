-- Some slave waits behind each frame of a run that gained nothing.
use Rattle.std.proofs.Common.{◌≡◌, ℕ, suc, Option, List, sym, subst, inl, inr}
use Rattle.plan_ring.specs.of_frame_view.Seen.{seen}
use Rattle.plan_ring.specs.of_frame_view.View.{Lens}
use Rattle.plan_ring.specs.of_life_runs.Led.{Exchanged, Leads, Turn, speech_at, is_passed}
use Rattle.plan_ring.specs.of_link_mails.Body.{Body}
use Rattle.plan_ring.specs.of_master_duty.Reply.{Reply}
use Rattle.plan_ring.specs.of_master_hand.Spoken.{Asked, acknowledged, is_followed}
use Rattle.plan_ring.specs.of_run_frames.Clocks.{Clocked}
use Rattle.plan_ring.specs.of_run_frames.Led.{unders, behind_back, still_led, waits_led}
use Rattle.plan_ring.specs.of_run_frames.Runs.{Progress}
use Rattle.plan_ring.specs.of_run_frames.Toured.{IsToured, WaitIn}
use Rattle.plan_ring.specs.of_run_frames.Waits.{SomeWaits, waits_behind}
use Rattle.idle_slaves.specs.Runs.{MadeInVain, VainIn}
use Rattle.idle_slaves.proofs.Rings.{some_or_spent}

module _ (S : Type 0) (lens : ℕ → Lens) (recover retry slowest : ℕ) where
  one_waits : (p : Progress) (f : Exchanged) (us : List Turn) (cs : List (Clocked Body Asked Reply)) → still_led lens recover retry slowest p f us cs ≡ suc p.still → MadeInVain S lens p f us cs →
      SomeWaits (behind_back lens recover retry slowest p.frames f us cs) (waits_led lens recover retry slowest p f us cs)
  one_waits p f us cs still k =
      subst (λ z. SomeWaits (behind_back lens recover retry slowest p.frames f us cs) (waits_behind z p.frames cs (unders (seen lens f.back) us) p.waits)) (sym still)
      (elim (some_or_spent (speech_at lens) acknowledged is_followed is_passed p.frames (seen lens f.back) k.kept cs (unders (seen lens f.back) us) p.waits k.vain) [ inl waits ↦ waits | inr spent ↦ absurd (k.some spent) ])

module _ {lens : ℕ → Lens} {recover retry slowest : ℕ} {first : List Leads} {paces : List ℕ} (S : Type 0) where
  pub wait_in : {fs : List Exchanged} {again : Option (List ℕ)} {missed : ℕ} {as' : List Leads} {p : Progress} {cs : List (Clocked Body Asked Reply)} (run : IsToured lens recover retry slowest first paces fs again missed as' p cs) → VainIn S run → WaitIn run
  wait_in IsToured.start v = tt
  wait_in (IsToured.lost fs again missed as' p cs f us after ps run led fate visit) v = wait_in run v
  wait_in (IsToured.opening fs again missed as' p cs f us ps run led fate under visit) v = wait_in run v
  wait_in (IsToured.round fs again missed as' p cs f us ps run led fate over visit) v = ((λ still. one_waits S lens recover retry slowest p f us cs still (v.0 still)), wait_in run v.1)
  wait_in (IsToured.enters fs again missed as' p cs f us ps run led fate over visit nothing) v = wait_in run v
