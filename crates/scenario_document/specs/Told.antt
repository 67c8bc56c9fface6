-- What holds of a plan that was read, beside the ranges of its numbers.
use Rattle.std.specs.Prelude.{All}
use Rattle.scenario_services.specs.of_segment_plan.declared.plan.Scenario.{Scenario}
use Rattle.scenario_slaves.specs.Plain.{HasMac}
use Rattle.scenario_slaves.specs.Distinct.{IsDistinct}
use Rattle.scenario_services.specs.Reading.{FitsSlave}

-- a plan whose slaves have each file's name and each IDN once and a MAC address of 6 octets, and each of whose services suits its slave
pub record IsTold (s : Scenario) : Type 0 where
  pub distinct : All IsDistinct s.slaves
  pub macs : All HasMac s.slaves
  pub services : All (FitsSlave s.slaves) s.services
