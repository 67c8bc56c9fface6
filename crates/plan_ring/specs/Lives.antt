-- A MASTER THAT LEADS THE LIVES OF A PLAN'S SLAVES, and the ring in which their nodes live them.
use Rattle.std.specs.Prelude.{◌≡◌, ℕ, suc, true, List, [], ◌∷◌, length, slice_get, IfSome, All, ⊤}
use Rattle.whole_ring.specs.of_frame_view.View.{Lens}
use Rattle.run_frames.specs.of_life_runs.First.{lens_of, spot_of, script_for}
use Rattle.run_frames.specs.of_life_runs.Led.{Exchanged, Leads}
use Rattle.plan_ring.specs.Asked.{asked}
use Rattle.plan_ring.specs.Master.{AllLed, lived_of}
use Rattle.plan_ring.specs.Plan.{PlanMember, FitsPlan, plan_of, first_app, step}
use Rattle.slave_server.specs.of_segment_plan.declared.plan.Scenario.{Scenario}
use Rattle.slave_server.specs.of_segment_plan.declared.service.Service as Plan
use Rattle.slave_server.specs.of_segment_plan.declared.slave.SlaveSpec.{SlaveSpec}
use Rattle.plan_ring.specs.Real.{real_clearing}
use Rattle.slave_server.specs.Spec.{profile_of}
use Rattle.whole_ring.specs.Members.{IsRing}
use Rattle.plan_ring.specs.Round.{ring_of, ring_after, all_seen}

-- a state service asks for Bootstrap only where the slave has it
abbrev pub StateFits : SlaveSpec → Plan.Service → Type 0
StateFits slave (Plan.Service.State target) = target ≡ 3 → slave.boot ≡ true
StateFits slave _ = ⊤

-- a row of a plan does so for its slave
abbrev pub RowFits : List SlaveSpec → ℕ × Plan.Service → Type 0
RowFits slaves row = IfSome (slice_get slaves row.0) (λ slave. StateFits slave row.1)

-- WHAT A READER KNOWS OF A PLAN besides its ranges: each slave has a MAC address of 6 octets, and no service asks for a state that its slave lacks
pub record IsKnown (plan : Scenario) : Type 0 where
  pub macs : All (λ (s : SlaveSpec). length s.mac ≡ 6) plan.slaves
  pub states : All (RowFits plan.slaves) plan.services

-- a slave of the ring is that of the plan at this place
pub record IsOf (lens : ℕ → Lens) (place : ℕ) (s : SlaveSpec) (m : PlanMember) : Type 0 where
  pub services : m.services ≡ asked (profile_of s) s.boot lens
  pub clearing : m.clearing ≡ real_clearing
  pub plan : m.plan ≡ plan_of s
  pub spot : m.spot ≡ spot_of place s
  pub first : m.first ≡ first_app s

-- A SLAVE AND ITS MASTER: it is that of the plan, its life is the one that the master leads, by its script
pub record IsShown (plan : Scenario) (place : ℕ) (s : SlaveSpec) (m : PlanMember) (a : Leads) : Type 0 where
  pub is : IsOf (lens_of plan.slaves) place s m
  pub lived : lived_of m ≡ a.lived
  pub script : a.script ≡ script_for place plan.services

-- all of them, from a place on
abbrev pub AllShown : Scenario → ℕ → List SlaveSpec → List PlanMember → List Leads → Type 0
AllShown plan place [] [] [] = ⊤
AllShown plan place (s ∷ ss) (m ∷ ms) (a ∷ as') = IsShown plan place s m a × AllShown plan (suc place) ss ms as'
AllShown plan place _ _ _ = ⊥

-- THE LIVES OF A RUN: those that the master leads are lived by the nodes of the ring behind the frames
pub record AreLived (plan : Scenario) (fs : List Exchanged) (as' : List Leads) : Type 0 where
  pub members : List PlanMember
  pub lives : IsRing (lens_of plan.slaves) step (FitsPlan plan.slaves) (all_seen (lens_of plan.slaves) fs) (ring_after (ring_of plan) fs) members
  pub led : AllLed members
  pub shown : AllShown plan 0 plan.slaves members as'
