-- THE PACKETS OF A RUN AS THOSE OF ONE SWITCH.
use Rattle.std.specs.Prelude.{ℕ, ◌+◌, ◌*◌, ◌≤◌, List, length, sum_by}
use Rattle.arrayvec.specs.ArrayVec.{ArrayVec}
use Rattle.plan_ring.specs.of_life_runs.Led.{Leads}
use Rattle.run_work.specs.Packets.{cuts}
use Rattle.life_counts.specs.Split.{entering}
use Rattle.plan_ring.specs.of_run_frames.Begun.{work_begun}
use Rattle.life_counts.specs.of_segment_plan.declared.plan.Scenario.{Scenario}
use Rattle.life_counts.specs.of_segment_plan.declared.slave.SlaveSpec.{SlaveSpec}
use Rattle.run_work.specs.Together.{packets_begun}

-- the fragments of what downloads emit, of those that began
abbrev pub cuts_begun : List SlaveSpec → List Leads → ℕ
cuts_begun slaves leads = work_begun (λ slave service. entering service) slaves leads

-- the fragments of all packets of the host
abbrev pub host_cuts : List (ArrayVec ℕ) → ℕ
host_cuts host = sum_by (λ (packet : ArrayVec ℕ). cuts packet.items) host

-- THE PACKETS THAT CAME INTO HAND ARE THOSE OF ONE SWITCH: they take no more than what entered it leads to at all slaves, of which no more entered than the
-- host's packets and what downloads emit that began
pub record AreSwitched (plan : Scenario) (leads : List Leads) : Type 0 where
  pub entered : ℕ
  pub within : entered ≤ host_cuts plan.host + cuts_begun plan.slaves leads
  pub most : entered + packets_begun plan.slaves leads ≤ entered * ((length plan.slaves + 1) * (length plan.slaves + 1))
