-- WHAT CAME INTO HAND of each slave of a plan, behind any frames of a run.
use Rattle.std.specs.Prelude.{◌≡◌, ℕ, suc, List, [], ◌∷◌, ⊤}
use Rattle.life_runs.specs.of_life_model.Script.{life_started}
use Rattle.life_runs.specs.First.{lens_of, spot_of, script_for}
use Rattle.life_runs.specs.Led.{Leads}
use Rattle.life_runs.specs.of_segment_plan.declared.plan.Scenario.{Scenario}
use Rattle.life_runs.specs.of_segment_plan.declared.slave.SlaveSpec.{SlaveSpec}
use Rattle.run_frames.specs.Came.{Came, AreFirst}

-- OF ONE at this place: over all epochs of its life the next of its script, or a packet, one by one; without the packets they are the first of the script
pub record HasCome (plan : Scenario) (place : ℕ) (s : SlaveSpec) (a : Leads) : Type 0 where
  pub spot : a.lived.spot ≡ spot_of place s
  pub script : a.script ≡ script_for place plan.services
  pub came : Came (lens_of plan.slaves s.station).out (script_for place plan.services) a.number (life_started a.lived.life)
  pub firsts : AreFirst (lens_of plan.slaves s.station).out (script_for place plan.services) a.number (life_started a.lived.life)

-- of all of them, from a place on
abbrev pub AllCome : Scenario → ℕ → List SlaveSpec → List Leads → Type 0
AllCome plan place [] [] = ⊤
AllCome plan place (s ∷ ss) (a ∷ as') = HasCome plan place s a × AllCome plan (suc place) ss as'
AllCome plan place _ _ = ⊥
