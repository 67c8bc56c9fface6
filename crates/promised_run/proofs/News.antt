-- Before the first frame each slave of a plan is to be brought up.
use Rattle.std.proofs.Common.{◌≡◌, ℕ, zero, suc, ◌<◌, true, List, [], ◌∷◌, length, refl, arith}
use Rattle.run_promises.specs.of_life_runs.First.{leads_from}
use Rattle.run_promises.specs.of_master_node.Shows.{is_opening_lead}
use Rattle.run_promises.specs.of_master_tour.Goes.{holds_at}
use Rattle.run_promises.specs.of_segment_plan.declared.service.Service as Plan
use Rattle.run_promises.specs.of_segment_plan.declared.slave.SlaveSpec.{SlaveSpec}

pub all_news : (rows : List (ℕ × Plan.Service)) (place : ℕ) (ss : List SlaveSpec) (k : ℕ) → k < length (leads_from rows place ss) → holds_at is_opening_lead (leads_from rows place ss) k ≡ true
all_news rows place [] k l = absurd (omega (arith, l))
all_news rows place (s ∷ ss) zero l = refl
all_news rows place (s ∷ ss) (suc k) l = all_news rows (suc place) ss k (omega (arith, l))
