-- Before the first frame no mail that is passed on is in hand.
use Rattle.std.proofs.Common.{ℕ, suc, List, [], ◌∷◌, refl}
use Rattle.run_promises.specs.of_life_runs.First.{leads_from}
use Rattle.run_promises.specs.of_segment_plan.declared.service.Service as Plan
use Rattle.run_promises.specs.of_segment_plan.declared.slave.SlaveSpec.{SlaveSpec}
use Rattle.seen_slaves.specs.of_idle_slaves.WaitEager.{AllUnpassed}

pub first_unpassed : (rows : List (ℕ × Plan.Service)) (place : ℕ) (ss : List SlaveSpec) → AllUnpassed (leads_from rows place ss)
first_unpassed rows place [] = tt
first_unpassed rows place (s ∷ ss) = (refl, first_unpassed rows (suc place) ss)
