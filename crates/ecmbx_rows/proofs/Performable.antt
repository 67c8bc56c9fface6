-- A service of a plan may be performed.
use Rattle.segment_plan.specs.declared.service.Service.{Service}
use Rattle.segment_plan.specs.declared.service.Service.TheVariants.{Sdo, ReadFile, WriteFile, ReadIdn, WriteIdn, SetIp, GetIp, State, Forward}
use Rattle.segment_plan.specs.Sound.{IsService}
use Rattle.slave_app.specs.Meaning.{IsPerformable}

pub performable : (service : Service) → IsService service → IsPerformable service
performable (Sdo q) is = is
performable (ReadFile name pass) is = is
performable (WriteFile name pass bytes) is = is
performable (ReadIdn drive idn elements) is = is
performable (WriteIdn drive idn elements bytes) is = is
performable (SetIp block) is = is
performable GetIp is = is
performable (State target) is = is
performable (Forward packet) is = absurd is
