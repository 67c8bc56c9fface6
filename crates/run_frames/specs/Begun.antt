-- What the services that began count, by whatever each counts at its slave.
use Rattle.std.specs.Prelude.{ℕ, ◌+◌, List, [], ◌∷◌, take, sum_by, slice_get, unwrap_or, option_map}
use Rattle.life_runs.specs.of_segment_plan.declared.service.Service.{Service}
use Rattle.life_runs.specs.of_segment_plan.declared.slave.SlaveSpec.{SlaveSpec}
use Rattle.life_runs.specs.Led.{Leads}

module _ (work : SlaveSpec → Service → ℕ) where
  -- of each slave those of its script before the next one
  abbrev pub work_begun : List SlaveSpec → List Leads → ℕ
  work_begun [] leads = 0
  work_begun (s ∷ ss) [] = 0
  work_begun (s ∷ ss) (a ∷ leads) = sum_by (work s) (take a.number a.script) + work_begun ss leads

  -- a service of a plan, at its slave
  abbrev pub addressed : List SlaveSpec → ℕ × Service → ℕ
  addressed slaves row = unwrap_or (option_map (λ slave. work slave row.1) (slice_get slaves row.0)) 0

  -- ALL SERVICES OF A PLAN
  abbrev pub work_in : List SlaveSpec → List (ℕ × Service) → ℕ
  work_in slaves services = sum_by (addressed slaves) services
