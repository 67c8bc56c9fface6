-- THE FRAMES OF A RUN THAT GAINED NOTHING, slave by slave.
use Rattle.std.specs.Prelude.{◌≡◌, ℕ, suc, Option, List, ⊤}
use Rattle.plan_ring.specs.of_frame_view.Seen.{seen}
use Rattle.plan_ring.specs.of_frame_view.View.{Lens}
use Rattle.plan_ring.specs.of_life_runs.Led.{Exchanged, Leads, Turn, speech_at, is_passed}
use Rattle.plan_ring.specs.of_link_mails.Body.{Body}
use Rattle.plan_ring.specs.of_master_duty.Reply.{Reply}
use Rattle.plan_ring.specs.of_master_hand.Spoken.{Asked, acknowledged, is_followed}
use Rattle.plan_ring.specs.of_run_frames.Clocks.{Clocked}
use Rattle.plan_ring.specs.of_run_frames.Led.{unders, still_led}
use Rattle.plan_ring.specs.of_run_frames.Runs.{Progress}
use Rattle.plan_ring.specs.of_run_frames.Toured.{IsToured}
use Rattle.idle_slaves.specs.Rings.{Kept, AllVain, AllSpent}

-- SUCH A FRAME: it was in vain of each slave, and was made, so not each was spent before it
pub record MadeInVain (S : Type 0) (lens : ℕ → Lens) (p : Progress) (f : Exchanged) (us : List Turn) (cs : List (Clocked Body Asked Reply)) : Type 0 where
  pub kept : List (Kept Body S)
  pub vain : AllVain (speech_at lens) acknowledged is_followed is_passed p.frames (seen lens f.back) kept cs (unders (seen lens f.back) us) p.waits
  pub some : AllSpent kept cs → ⊥

module _ {lens : ℕ → Lens} {recover retry slowest : ℕ} {first : List Leads} {paces : List ℕ} (S : Type 0) where
  -- each that came back, with nothing to repair, and that no packet of the host came in with
  abbrev pub VainIn : {fs : List Exchanged} {again : Option (List ℕ)} {missed : ℕ} {as' : List Leads} {p : Progress} {cs : List (Clocked Body Asked Reply)} → IsToured lens recover retry slowest first paces fs again missed as' p cs → Type 0
  VainIn IsToured.start = ⊤
  VainIn (IsToured.lost fs again missed as' p cs f us after ps run led fate visit) = VainIn run
  VainIn (IsToured.opening fs again missed as' p cs f us ps run led fate under visit) = VainIn run
  VainIn (IsToured.round fs again missed as' p cs f us ps run led fate over visit) = (still_led lens recover retry slowest p f us cs ≡ suc p.still → MadeInVain S lens p f us cs) × VainIn run
  VainIn (IsToured.enters fs again missed as' p cs f us ps run led fate over visit nothing) = VainIn run
