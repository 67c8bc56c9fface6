-- What holds of services that were read.
use Rattle.std.specs.Prelude.{ℕ, List, length, slice_get, IfSome}
use Rattle.scenario_values.specs.of_segment_plan.declared.slave.SlaveSpec.{SlaveSpec}
use Rattle.scenario_values.specs.of_segment_plan.declared.service.Service.{Service}
use Rattle.scenario_values.specs.of_segment_plan.Sound.{IsAddressed}
use Rattle.scenario_services.specs.Suited.{Suits}

-- a service that suits the slave to which it is addressed
abbrev pub FitsSlave : List SlaveSpec → ℕ × Service → Type 0
FitsSlave slaves row = IfSome (slice_get slaves row.0) (λ slave. Suits slave row.1)

-- a service as it is read
pub record IsRead (slaves : List SlaveSpec) (row : ℕ × Service) : Type 0 where
  pub addressed : IsAddressed (length slaves) row
  pub fits : FitsSlave slaves row
