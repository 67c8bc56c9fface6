-- What a form does, by what its files, its sink and its port tell.
use Rattle.std.specs.Prelude.{◌≡◌, ℕ, List, Option}
use Rattle.ec_outside.specs.Files.{Table}
use Rattle.ec_outside.specs.declared.files.Files.{Ghosts as FilesTell}
use Rattle.ec_outside.specs.declared.sink.Sink.{Ghosts as SinkTells}
use Rattle.ec_outside.specs.declared.port.Port.{Ghosts as PortTells}
use Rattle.gateway_tool.specs.Told.{Told as PortTold, told}
use Rattle.people_words.specs.declared.ended.Ended.{Ended}
use Rattle.entry_call.specs.Ends.{Follows}

-- what a port tells
abbrev pub told_by : {P : Type 0} → PortTells P → P → PortTold
told_by tells port = told tells.heard tells.sent tells.over tells.port_faults port

-- a course whose files and port are yet to be given: the files before it and behind it, whether the port stayed, and what it told first and last
abbrev pub Course : Type 1
Course = Option Table → Option Table → Type 0 → PortTold → PortTold → Ended → List ℕ → Type 0

-- a form does what a course says with files, a sink and a port, from what they tell before it to what they tell behind it
abbrev pub Does : {F O P : Type 0} → FilesTell F → SinkTells O → PortTells P → Course → F → F → O → O → P → P → Ended → Type 0
Does files_tell sink_tells port_tells course files files' out out' port port' end =
    Follows (course (files_tell.table files) (files_tell.table files') (port' ≡ port) (told_by port_tells port) (told_by port_tells port')) (sink_tells.written out) (sink_tells.written out') end
