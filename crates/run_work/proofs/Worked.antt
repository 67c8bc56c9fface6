-- A plan before its first frame.
use Rattle.std.proofs.Common.{◌≡◌, ℕ, suc, None, List, [], ◌∷◌, refl, arith}
use Rattle.plan_ring.specs.of_life_runs.First.{first_leads, leads_from}
use Rattle.plan_ring.specs.of_run_frames.Led.{first_clocked}
use Rattle.plan_ring.specs.of_run_frames.Runs.{nothing_sent}
use Rattle.plan_ring.specs.of_run_frames.Toured.{IsToured}
use Rattle.life_counts.specs.of_segment_plan.declared.plan.Scenario.{Scenario}
use Rattle.life_counts.specs.of_segment_plan.declared.service.Service as Plan
use Rattle.life_counts.specs.of_segment_plan.declared.slave.SlaveSpec.{SlaveSpec}
use Rattle.run_work.specs.Bounds.{IsPlanRun}
use Rattle.run_work.specs.Switched.{AreSwitched}
use Rattle.run_work.specs.Together.{packets_begun}

-- a run of it, of which nothing was sent
nothing : (plan : Scenario) → (let cs = first_clocked (first_leads plan) plan.paces in IsPlanRun plan [] 0 (first_leads plan) (nothing_sent None cs) cs)
nothing plan = record { again = None; toured = IsToured.start; asks = tt; waits = tt; enters = omega arith; round = tt }

-- no packet came into hand, and none entered a switch
no_packets : (rows : List (ℕ × Plan.Service)) (place : ℕ) (ss : List SlaveSpec) → packets_begun ss (leads_from rows place ss) ≡ 0
no_packets rows place [] = refl
no_packets rows place (s ∷ ss) = omega (arith, no_packets rows (suc place) ss)

none_entered : (plan : Scenario) → AreSwitched plan (first_leads plan)
none_entered plan = record { entered = 0; within = omega arith; most = omega (arith, no_packets plan.services 0 plan.slaves) }
