-- WHERE ALL ARE AT REST nothing is left, slave by slave.
use Rattle.std.proofs.Common.{◌≡◌, inl, inr, ℕ, suc, List, [], ◌∷◌}
use Rattle.packets_heard.specs.of_life_runs.First.{lens_of}
use Rattle.packets_heard.specs.of_life_runs.Led.{Exchanged, Leads}
use Rattle.run_promises.specs.Promise.{KeepsOne, AllKeep, Keeps, slaves_behind}
use Rattle.run_promises.specs.Rest.{IsAtRest, AllAtRest, HasNothingLeft, AllHaveNothingLeft, AllStayed, AllAreDone, IsResting, NothingIsLeft, AllIsDone}
use Rattle.run_promises.specs.Rests.{IsDone}
use Rattle.packets_heard.specs.of_segment_plan.declared.plan.Scenario.{Scenario}
use Rattle.packets_heard.specs.of_segment_plan.declared.slave.SlaveSpec.{SlaveSpec}
use Rattle.packets_heard.specs.of_slave_server.Serving.{Serving}
use Rattle.packets_heard.specs.of_slave_node.Node.{Node}

module _ (plan : Scenario) (fs : List Exchanged) where
  one_rests : (place : ℕ) (s : SlaveSpec) (a : Leads) (n : Node Serving) → KeepsOne plan fs place s a n → IsAtRest (lens_of plan.slaves) a n → HasNothingLeft plan fs place s a n
  one_rests place s a n keeps (inl gone) = inl gone
  one_rests place s a n keeps (inr rest) = inr (keeps.done rest.0 rest.1)

  all_rest : (place : ℕ) (ss : List SlaveSpec) (as' : List Leads) (ns : List (Node Serving)) → AllKeep plan fs place ss as' ns → AllAtRest (lens_of plan.slaves) as' ns → AllHaveNothingLeft plan fs place ss as' ns
  all_rest place [] [] [] keep rest = tt
  all_rest place [] [] (n ∷ ns) keep rest = absurd keep
  all_rest place [] (a ∷ as') ns keep rest = absurd keep
  all_rest place (s ∷ ss) [] ns keep rest = absurd keep
  all_rest place (s ∷ ss) (a ∷ as') [] keep rest = absurd keep
  all_rest place (s ∷ ss) (a ∷ as') (n ∷ ns) keep rest = (one_rests place s a n keep.0 rest.0, all_rest (suc place) ss as' ns keep.1 rest.1)

  one_done : (place : ℕ) (s : SlaveSpec) (a : Leads) (n : Node Serving) → KeepsOne plan fs place s a n → IsAtRest (lens_of plan.slaves) a n → a.lived.life.gave ≡ [] → IsDone plan fs place s a n
  one_done place s a n keeps (inl gone) none = absurd (keeps.given gone none)
  one_done place s a n keeps (inr rest) none = keeps.done rest.0 rest.1

  all_done : (place : ℕ) (ss : List SlaveSpec) (as' : List Leads) (ns : List (Node Serving)) → AllKeep plan fs place ss as' ns → AllAtRest (lens_of plan.slaves) as' ns → AllStayed as' → AllAreDone plan fs place ss as' ns
  all_done place [] [] [] keep rest stayed = tt
  all_done place [] [] (n ∷ ns) keep rest stayed = absurd keep
  all_done place [] (a ∷ as') ns keep rest stayed = absurd keep
  all_done place (s ∷ ss) [] ns keep rest stayed = absurd keep
  all_done place (s ∷ ss) (a ∷ as') [] keep rest stayed = absurd keep
  all_done place (s ∷ ss) (a ∷ as') (n ∷ ns) keep rest stayed = (one_done place s a n keep.0 rest.0 stayed.0, all_done (suc place) ss as' ns keep.1 rest.1 stayed.1)

pub nothing_left : (plan : Scenario) (fs : List Exchanged) (as' : List Leads) → Keeps plan fs as' → IsResting plan fs as' → NothingIsLeft plan fs as'
nothing_left plan fs as' keeps rests = record { each = all_rest plan fs 0 plan.slaves as' (slaves_behind plan fs) keeps.each rests.each }

pub all_is_done : (plan : Scenario) (fs : List Exchanged) (as' : List Leads) → Keeps plan fs as' → IsResting plan fs as' → AllStayed as' → AllIsDone plan fs as'
all_is_done plan fs as' keeps rests stayed = record { each = all_done plan fs 0 plan.slaves as' (slaves_behind plan fs) keeps.each rests.each stayed }
