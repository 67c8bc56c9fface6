-- A RUN AND THE FRAMES WITH WHICH PACKETS OF THE HOST CAME IN.
use Rattle.std.specs.Prelude.{◌≡◌, ◌≤◌, ℕ, ◌+◌, Bool, false, if◌then◌else◌, Option, List, ⊤}
use Rattle.idle_slaves.specs.Eager.{Remembered}
use Rattle.plan_ring.specs.of_life_runs.First.{lens_of, first_leads}
use Rattle.plan_ring.specs.of_life_runs.Led.{Exchanged, Leads}
use Rattle.plan_ring.specs.of_link_mails.Body.{Body}
use Rattle.plan_ring.specs.of_master_duty.Reply.{Reply}
use Rattle.plan_ring.specs.of_master_hand.Spoken.{Asked}
use Rattle.plan_ring.specs.of_run_frames.Clocks.{Clocked, gains_all}
use Rattle.plan_ring.specs.of_run_frames.Led.{behind_back}
use Rattle.plan_ring.specs.of_run_frames.Runs.{Progress}
use Rattle.plan_ring.specs.of_run_frames.Toured.{IsToured, AskIn}
use Rattle.plan_ring.specs.of_run_frames.Waits.{Waits}
use Rattle.plan_ring.specs.of_segment_plan.declared.plan.Scenario.{Scenario}
use Rattle.idle_slaves.specs.WaitEager.{IsEagerFrame, EagerIn}

module _ (plan : Scenario) {slowest : ℕ} {paces : List ℕ} where
  -- each frame of a round says whether a packet of the host came in with it; where none did and it gained nothing, it was made so, and was made while not all
  -- was done
  abbrev pub EagerBut : {fs : List Exchanged} {again : Option (List ℕ)} {missed : ℕ} {as' : List Leads} {p : Progress} {cs : List (Clocked Body Asked Reply)} → IsToured (lens_of plan.slaves) plan.recover plan.retry slowest (first_leads plan) paces fs again missed as' p cs → List Remembered → Type 0
  EagerBut IsToured.start ns = ⊤
  EagerBut (IsToured.lost fs again missed as' p cs f us after ps run led fate visit) ns = (ms : List Remembered) × EagerBut run ms
  EagerBut (IsToured.opening fs again missed as' p cs f us ps run led fate under visit) ns = (ms : List Remembered) × EagerBut run ms
  EagerBut (IsToured.round fs again missed as' p cs f us ps run led fate over visit) ns =
      (ms : List Remembered) × (entered : Bool)
      × (entered ≡ false → gains_all (behind_back (lens_of plan.slaves) plan.recover plan.retry slowest p.frames f us cs) ≤ gains_all cs → IsEagerFrame plan fs f ms ns as' us) × EagerBut run ms
  EagerBut (IsToured.enters fs again missed as' p cs f us ps run led fate over visit nothing) ns = (ms : List Remembered) × EagerBut run ms

  -- HOW MANY FRAMES let a packet of the host in
  abbrev pub host_frames : {fs : List Exchanged} {again : Option (List ℕ)} {missed : ℕ} {as' : List Leads} {p : Progress} {cs : List (Clocked Body Asked Reply)} → (run : IsToured (lens_of plan.slaves) plan.recover plan.retry slowest (first_leads plan) paces fs again missed as' p cs) (ns : List Remembered) → EagerBut run ns → ℕ
  host_frames IsToured.start ns e = 0
  host_frames (IsToured.lost fs again missed as' p cs f us after ps run led fate visit) ns e = host_frames run e.0 e.1
  host_frames (IsToured.opening fs again missed as' p cs f us ps run led fate under visit) ns e = host_frames run e.0 e.1
  host_frames (IsToured.round fs again missed as' p cs f us ps run led fate over visit) ns e = host_frames run e.0 e.3 + (if e.1 then 1 else 0)
  host_frames (IsToured.enters fs again missed as' p cs f us ps run led fate over visit nothing) ns e = host_frames run e.0 e.1

-- THE SAME RUN, counted so: its frames, lives and visits are the same
pub record Entered (plan : Scenario) (slowest : ℕ) (paces : List ℕ) (fs : List Exchanged) (again : Option (List ℕ)) (missed : ℕ) (as' : List Leads) (p : Progress) (cs : List (Clocked Body Asked Reply)) (ns : List Remembered)
    (old : IsToured (lens_of plan.slaves) plan.recover plan.retry slowest (first_leads plan) paces fs again missed as' p cs) (e : EagerBut plan old ns) : Type 0 where
  pub lost : ℕ
  pub still : ℕ
  pub waits : List Waits
  pub run : IsToured (lens_of plan.slaves) plan.recover plan.retry slowest (first_leads plan) paces fs again missed as' (record p { lost = lost; still = still; waits = waits }) cs
  pub few : lost ≤ p.lost + host_frames plan old ns e
  pub asks : AskIn old → AskIn run
  pub eager : EagerIn plan run ns
