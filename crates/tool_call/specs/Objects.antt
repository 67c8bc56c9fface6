-- What a call does, by what its files, its sink and its port tell.
use Rattle.std.specs.Prelude.{◌≡◌, ℕ, List, Option}
use Rattle.ecmbx_words.specs.of_ec_outside.Faults.{Rose}
use Rattle.ecmbx_words.specs.of_ec_outside.Files.{Table}
use Rattle.ecmbx_words.specs.of_ec_outside.declared.files.Files.{Ghosts as FilesTell}
use Rattle.ecmbx_words.specs.of_ec_outside.declared.sink.Sink.{Ghosts as SinkTells}
use Rattle.ecmbx_words.specs.of_ec_outside.declared.port.Port.{Ghosts as PortTells}
use Rattle.gateway_tool.specs.of_segment_plan.declared.service.Service.{Service}
use Rattle.gateway_tool.specs.Told.{Told, told}
use Rattle.ecmbx_words.specs.declared.status.Status.{Status}
use Rattle.ecmbx_words.specs.Files.{Followed}
use Rattle.tool_call.specs.declared.asked.Slave.{Slave}
use Rattle.tool_call.specs.Course.{call_of, CallCourse}

-- what this port tells
abbrev pub told_by : {P : Type 0} → PortTells P → P → Told
told_by tells port = told tells.heard tells.sent tells.over tells.port_faults port

-- a service of a slave is carried out over a port, and its line is put
abbrev pub CarriesOut : {O P : Type 0} → SinkTells O → PortTells P → Slave → Service → O → O → P → P → Status → Type 0
CarriesOut sink_tells port_tells s service out out' port port' status =
    Followed (CallCourse (call_of s service) (told_by port_tells port) (told_by port_tells port')) (sink_tells.written out) (sink_tells.written out') status

-- a write, an act or an ask (WritesTo, ActsTo or AsksTo of what it is about), whose files, port and sink are yet to be given
abbrev pub Doing : Type 1
Doing = Option Table → Type 0 → Type 0 → Told → Told → Option (List ℕ) → Option (List ℕ) → Status → Type 0

-- this is done with files, a sink and a port, from what they tell before it to what they tell behind it
abbrev pub Does : {F O P : Type 0} → FilesTell F → SinkTells O → PortTells P → Doing → F → F → O → O → P → P → Status → Type 0
Does files_tell sink_tells port_tells doing files files' out out' port port' status =
    doing (files_tell.table files) (Rose (files_tell.file_faults files) (files_tell.file_faults files')) (port' ≡ port) (told_by port_tells port) (told_by port_tells port') (sink_tells.written out) (sink_tells.written out') status
