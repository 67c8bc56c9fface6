-- WHAT A READER TELLS OF A PLAN is what a run asks to be known of it.
use Rattle.std.proofs.Common.{ℕ, Option, Some, None, List}
use Rattle.std.specs.Prelude.{IfSome, slice_get}
use Rattle.std.proofs.lemmas.List.Elements.{All-weaker}
use Rattle.served_rings.specs.of_plan_ring.Lives.{IsKnown, StateFits, RowFits}
use Rattle.served_rings.specs.of_scenario.Told.{IsTold}
use Rattle.served_rings.specs.of_scenario_services.Suited.{Suits}
use Rattle.served_rings.specs.of_scenario_services.Reading.{FitsSlave}
use Rattle.packets_heard.specs.of_segment_plan.declared.plan.Scenario.{Scenario}
use Rattle.packets_heard.specs.of_segment_plan.declared.service.Service as Plan
use Rattle.packets_heard.specs.of_segment_plan.declared.slave.SlaveSpec.{SlaveSpec}

-- a service that suits its slave asks for no state that the slave lacks
state_fits : (s : SlaveSpec) (q : Plan.Service) → Suits s q → StateFits s q
state_fits s (Plan.Service.Sdo service) suits = tt
state_fits s (Plan.Service.ReadFile name pass) suits = tt
state_fits s (Plan.Service.WriteFile name pass bytes) suits = tt
state_fits s (Plan.Service.ReadIdn drive idn elements) suits = tt
state_fits s (Plan.Service.WriteIdn drive idn elements bytes) suits = tt
state_fits s (Plan.Service.SetIp block) suits = tt
state_fits s Plan.Service.GetIp suits = tt
state_fits s (Plan.Service.State target) suits = suits
state_fits s (Plan.Service.Forward packet) suits = tt

fits_at : (q : Plan.Service) (o : Option SlaveSpec) → IfSome o (λ s. Suits s q) → IfSome o (λ s. StateFits s q)
fits_at q None fits = tt
fits_at q (Some s) fits = state_fits s q fits

row_fits : (slaves : List SlaveSpec) (row : ℕ × Plan.Service) → FitsSlave slaves row → RowFits slaves row
row_fits slaves row fits = fits_at row.1 (slice_get slaves row.0) fits

pub known : (plan : Scenario) → IsTold plan → IsKnown plan
known plan told = record { macs = told.macs; states = All-weaker (FitsSlave plan.slaves) (RowFits plan.slaves) (row_fits plan.slaves) plan.services told.services }
