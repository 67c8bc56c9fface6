-- THE FRAMES OF A PLAN'S RUN, and how many they may be.
use Rattle.std.specs.Prelude.{ℕ, ◌+◌, ◌*◌, ◌≤◌, Option, List, length}
use Rattle.plan_ring.specs.of_life_runs.First.{lens_of, first_leads}
use Rattle.plan_ring.specs.of_life_runs.Led.{Exchanged, Leads}
use Rattle.life_counts.specs.of_link_mails.Body.{Body}
use Rattle.plan_ring.specs.of_master_duty.Reply.{Reply}
use Rattle.life_counts.specs.of_master_hand.Spoken.{Asked}
use Rattle.plan_ring.specs.Round.{ring_of, AllRound}
use Rattle.plan_ring.specs.of_run_frames.Clocks.{Clocked}
use Rattle.plan_ring.specs.of_run_frames.Fates.{lost_of}
use Rattle.plan_ring.specs.of_run_frames.Runs.{Progress}
use Rattle.plan_ring.specs.of_run_frames.Toured.{IsToured, AskIn, WaitIn}
use Rattle.life_counts.specs.Split.{own_work}
use Rattle.plan_ring.specs.of_run_frames.Begun.{work_in}
use Rattle.life_counts.specs.of_segment_plan.Bound.{slowest}
use Rattle.life_counts.specs.of_segment_plan.declared.plan.Scenario.{Scenario}

-- A RUN OF A PLAN behind these frames: its master leads the slaves by them, they are the visits of one tour and count with the plan's paces; each that
-- came back asked by the inward half first; while nothing is gained some slave waits yet, but for as many frames as the host has packets; and they went
-- round its ring
pub record IsPlanRun (plan : Scenario) (fs : List Exchanged) (missed : ℕ) (leads : List Leads) (p : Progress) (cs : List (Clocked Body Asked Reply)) : Type 0 where
  pub again : Option (List ℕ)
  pub toured : IsToured (lens_of plan.slaves) plan.recover plan.retry (slowest plan.paces) (first_leads plan) plan.paces fs again missed leads p cs
  pub asks : AskIn toured
  pub waits : WaitIn toured
  pub enters : p.lost ≤ lost_of fs + length plan.host
  pub round : AllRound (ring_of plan) fs

-- the frame bound of a plan, with so much for the packets that enter the switch and those that come into hand
abbrev pub bound_with : Scenario → ℕ → ℕ
bound_with plan packets = 16 * slowest plan.paces * (length plan.slaves + 1) * (work_in own_work plan.slaves plan.services + packets + length plan.lose + 2 * length plan.slaves)
