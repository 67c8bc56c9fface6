-- A RUN WHOSE MASTER MAKES NO VISIT IN VAIN, as the count of its frames has it.
use Rattle.std.specs.Prelude.{◌≡◌, ◌≤◌, ℕ, suc, ◌+◌, Bool, true, false, Option, Some, List, [], ◌∷◌, length, slice_get}
use Rattle.arrayvec.specs.ArrayVec.{ArrayVec}
use Rattle.seen_slaves.specs.of_idle_slaves.Eager.{Remembered}
use Rattle.run_promises.specs.of_eoe_switch.Switch.{switched}
use Rattle.run_promises.specs.of_eoe_switch.declared.switching.SwitchEvent.{SwitchEvent}
use Rattle.run_promises.specs.of_life_runs.First.{lens_of, first_leads, script_for}
use Rattle.run_promises.specs.of_life_runs.Led.{Exchanged, Leads}
use Rattle.run_promises.specs.of_link_mails.Body.{Body}
use Rattle.seen_slaves.specs.of_master_duty.Reply.{Reply}
use Rattle.seen_slaves.specs.of_master_hand.Spoken.{Asked}
use Rattle.run_promises.specs.of_master_node.Forwards.{port_by, waiting_by}
use Rattle.run_promises.specs.of_master_node.Ports.{ports_behind, ports_of}
use Rattle.seen_slaves.specs.of_master_side.Recall.{Recall}
use Rattle.seen_slaves.specs.of_plan_ring.Round.{ring_of, AllRound}
use Rattle.seen_slaves.specs.of_plan_ring.PlanRooms.{MayBegin}
use Rattle.seen_slaves.specs.of_run_frames.Clocks.{Clocked}
use Rattle.seen_slaves.specs.of_run_frames.Fates.{lost_of}
use Rattle.seen_slaves.specs.of_run_frames.Runs.{Progress}
use Rattle.seen_slaves.specs.of_run_frames.Toured.{IsToured, AskIn, WaitIn}
use Rattle.run_promises.specs.of_segment_plan.Bound.{slowest}
use Rattle.run_promises.specs.of_segment_plan.declared.plan.Scenario.{Scenario}
use Rattle.run_promises.specs.of_segment_plan.declared.service.Service.{Service}
use Rattle.run_promises.specs.of_segment_plan.declared.slave.SlaveSpec.{SlaveSpec}

-- the packets that wait for the slave at a place, behind these events
abbrev pub waiting_at : Scenario → List SwitchEvent → ℕ → List (ArrayVec ℕ)
waiting_at plan es k = waiting_by (switched (ports_of plan.slaves) es).switch (port_by (slice_get (ports_behind 0 plan.slaves) k))

-- there are some
abbrev pub is_waiting : List (ArrayVec ℕ) → Bool
is_waiting [] = false
is_waiting (p ∷ ps) = true

-- what is remembered of the slaves from a place on
abbrev pub remembered : Scenario → List SwitchEvent → ℕ → List Recall → List Remembered
remembered plan es place [] = []
remembered plan es place (m ∷ ms) = record { memory = record { paused = m.paused; turn = m.turn }; packet = is_waiting (waiting_at plan es place); asked = false } ∷ remembered plan es (suc place) ms

-- EACH SERVICE OF A SLAVE'S SCRIPT may begin
abbrev pub ScriptsMay : Scenario → Type 0
ScriptsMay plan = (place : ℕ) (s : SlaveSpec) → slice_get plan.slaves place ≡ Some s → (k : ℕ) (service : Service) → slice_get (script_for place plan.services) k ≡ Some service → MayBegin s.out_len service

-- THESE FRAMES ARE A RUN OF THE PLAN that counts: the visits of one tour, each that came back asked by the inward half first, while nothing is gained some slave waits
-- yet, but for as many frames as the host has packets, and they went round its ring
pub record HasRun (plan : Scenario) (fs : List Exchanged) (missed : ℕ) (leads : List Leads) : Type 0 where
  pub again : Option (List ℕ)
  pub progress : Progress
  pub slaves : List (Clocked Body Asked Reply)
  pub toured : IsToured (lens_of plan.slaves) plan.recover plan.retry (slowest plan.paces) (first_leads plan) plan.paces fs again missed leads progress slaves
  pub asks : AskIn toured
  pub waits : WaitIn toured
  pub enters : progress.lost ≤ lost_of fs + length plan.host
  pub round : AllRound (ring_of plan) fs
