use Rattle.gateway_tool.specs.of_segment_plan.declared.service.Service.{Service}
use Rattle.gateway_tool.specs.of_coe_client.Talk.{service_view}
use Rattle.slave_model.specs.Profile.{Protocol, areas_of}
use Rattle.tool_law.specs.Slave.{slave_exchange}
use Rattle.tool_law.proofs.Concluding.{concluded}
use Rattle.tool_law.proofs.Calls.{entry_answered}
use Rattle.tool_law.proofs.entry_law.Goals as goal

pub returns : goal.returns
returns g c = λ o law p is al j ready s station to entry within.
    concluded (slave_exchange o p al) j (Protocol.CoE, service_view s) (record { areas = areas_of p; service = Service.Sdo s; station = station; to = to }) (entry_answered o law p is al s station to j ready entry within)
