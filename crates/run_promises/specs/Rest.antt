-- WHAT A MACHINE BUILDER MAY RELY ON where a run has nothing left to do.
use Rattle.std.specs.Prelude.{◌≡◌, ◌⊎◌, ℕ, suc, true, List, [], ◌∷◌, ⊤}
use Rattle.packets_heard.specs.of_frame_view.View.{Lens}
use Rattle.packets_heard.specs.of_life_model.Lives.{Stand}
use Rattle.packets_heard.specs.of_life_runs.First.{lens_of}
use Rattle.packets_heard.specs.of_life_runs.Led.{Exchanged, Leads}
use Rattle.run_promises.specs.Rests.{IsIdle, IsDone}
use Rattle.packets_heard.specs.of_segment_plan.declared.plan.Scenario.{Scenario}
use Rattle.packets_heard.specs.of_segment_plan.declared.slave.SlaveSpec.{SlaveSpec}
use Rattle.packets_heard.specs.of_slave_server.Serving.{Serving, next_mail}
use Rattle.packets_heard.specs.of_slave_node.Node.{Node, is_settled}
use Rattle.run_promises.specs.Promise.{slaves_behind}

-- AT REST: a slave that was given up for good, or one that is settled and of which its master wants nothing
abbrev pub IsAtRest : (ℕ → Lens) → Leads → Node Serving → Type 0
IsAtRest lens a n = (a.lived.life.stand ≡ Stand.Gone) ⊎ (IsIdle lens a × (is_settled next_mail n ≡ true))

-- all of them
abbrev pub AllAtRest : (ℕ → Lens) → List Leads → List (Node Serving) → Type 0
AllAtRest lens [] [] = ⊤
AllAtRest lens (a ∷ as') (n ∷ ns) = IsAtRest lens a n × AllAtRest lens as' ns
AllAtRest lens _ _ = ⊥

-- NOTHING IS LEFT of a slave: it was given up for good, or all services of its script came into hand, and those of its newest epoch are carried out,
-- each once and in order, and answered
abbrev pub HasNothingLeft : Scenario → List Exchanged → ℕ → SlaveSpec → Leads → Node Serving → Type 0
HasNothingLeft plan fs place s a n = (a.lived.life.stand ≡ Stand.Gone) ⊎ IsDone plan fs place s a n

-- of all of them, from a place on
abbrev pub AllHaveNothingLeft : Scenario → List Exchanged → ℕ → List SlaveSpec → List Leads → List (Node Serving) → Type 0
AllHaveNothingLeft plan fs place [] [] [] = ⊤
AllHaveNothingLeft plan fs place (s ∷ ss) (a ∷ as') (n ∷ ns) = HasNothingLeft plan fs place s a n × AllHaveNothingLeft plan fs (suc place) ss as' ns
AllHaveNothingLeft plan fs place _ _ _ = ⊥

-- none of these was ever given up
abbrev pub AllStayed : List Leads → Type 0
AllStayed [] = ⊤
AllStayed (a ∷ as') = (a.lived.life.gave ≡ []) × AllStayed as'

-- all are done, from a place on
abbrev pub AllAreDone : Scenario → List Exchanged → ℕ → List SlaveSpec → List Leads → List (Node Serving) → Type 0
AllAreDone plan fs place [] [] [] = ⊤
AllAreDone plan fs place (s ∷ ss) (a ∷ as') (n ∷ ns) = IsDone plan fs place s a n × AllAreDone plan fs (suc place) ss as' ns
AllAreDone plan fs place _ _ _ = ⊥

-- a run is at rest: each of its slaves is
pub record IsResting (plan : Scenario) (fs : List Exchanged) (as' : List Leads) : Type 0 where
  pub each : AllAtRest (lens_of plan.slaves) as' (slaves_behind plan fs)

-- NOTHING IS LEFT OF A RUN
pub record NothingIsLeft (plan : Scenario) (fs : List Exchanged) (as' : List Leads) : Type 0 where
  pub each : AllHaveNothingLeft plan fs 0 plan.slaves as' (slaves_behind plan fs)

-- ALL OF A RUN IS DONE: of each slave all services of its script came into hand, and those of its newest epoch are carried out, each once and in order,
-- and answered
pub record AllIsDone (plan : Scenario) (fs : List Exchanged) (as' : List Leads) : Type 0 where
  pub each : AllAreDone plan fs 0 plan.slaves as' (slaves_behind plan fs)
