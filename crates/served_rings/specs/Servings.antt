-- THE FRAMES OF A PLAN'S SERVING.
use Rattle.std.specs.Prelude.{ℕ, ◌+◌, ◌*◌, ◌≤◌, Option, List, length}
use Rattle.served_places.specs.of_life_runs.First.{lens_of, first_leads}
use Rattle.served_places.specs.of_life_runs.Led.{Exchanged}
use Rattle.served_places.specs.of_link_mails.Body.{Body}
use Rattle.run_work.specs.of_master_duty.Reply.{Reply}
use Rattle.run_work.specs.of_master_hand.Spoken.{Asked}
use Rattle.run_work.specs.of_plan_ring.Round.{ring_of, AllRound}
use Rattle.served_places.specs.of_run_frames.Clocks.{Clocked}
use Rattle.served_places.specs.of_run_frames.Fates.{lost_of}
use Rattle.served_places.specs.of_run_frames.Runs.{Progress}
use Rattle.run_work.specs.ServedGained.{asked_in}
use Rattle.run_work.specs.of_segment_plan.Bound.{slowest}
use Rattle.run_work.specs.of_segment_plan.declared.plan.Scenario.{Scenario}
use Rattle.served_places.specs.Answered.{ServedAsks, ServedAnswers, ServedWaits}
use Rattle.served_places.specs.Toured.{IsServedToured}
use Rattle.served_places.specs.of_life_runs.Served.{Serves, all_serve}

-- A SERVING OF A PLAN behind these frames: its master leads the slaves by them, with mails that are asked between them; they are the visits of one tour and count
-- with the plan's paces; each that came back asked by the inward half first, and each slave answered by it what awaits a step; while nothing is gained some slave
-- waits yet, but for as many frames as the host has packets, and six for each mail: it waits once, and comes five steps; and they went round its ring
pub record IsPlanServing (plan : Scenario) (fs : List Exchanged) (missed : ℕ) (ws : List Serves) (p : Progress) (cs : List (Clocked Body Asked Reply)) : Type 0 where
  pub again : Option (List ℕ)
  pub toured : IsServedToured (lens_of plan.slaves) plan.recover plan.retry (slowest plan.paces) (all_serve plan.paces (first_leads plan)) fs again missed ws p cs
  pub asks : ServedAsks toured
  pub answers : ServedAnswers toured
  pub waits : ServedWaits toured
  pub enters : p.lost ≤ lost_of fs + length plan.host + 6 * asked_in ws
  pub round : AllRound (ring_of plan) fs
