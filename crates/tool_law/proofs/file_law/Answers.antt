use Rattle.slave_model.specs.Profile.{Protocol, areas_of}
use Rattle.tool_law.specs.Slave.{slave_exchange}
use Rattle.tool_law.proofs.Concluding.{concluded}
use Rattle.tool_law.proofs.Calls.{file_answered}
use Rattle.tool_law.proofs.file_law.Goals as goal

pub returns : goal.returns
returns g c = λ o law p is al j ready s q station to file valid few within.
    concluded (slave_exchange o p al) j (Protocol.FoE, q) (record { areas = areas_of p; service = s; station = station; to = to }) (file_answered o law p is al s q station to j file ready valid few within)
