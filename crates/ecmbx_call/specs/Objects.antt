-- What a call does and promises, by what its files, its sink, and its port or link tell.
use Rattle.std.specs.Prelude.{◌≡◌, ◌≢◌, ℕ, List, true, false}
use Rattle.gateway_stream.specs.of_ec_outside.Faults.{Rose}
use Rattle.gateway_stream.specs.of_ec_outside.declared.files.Files.{Ghosts as FilesTell}
use Rattle.gateway_stream.specs.of_ec_outside.declared.sink.Sink.{Ghosts as SinkTells}
use Rattle.gateway_stream.specs.of_ec_outside.declared.port.Port.{Ghosts as PortTells}
use Rattle.gateway_stream.specs.of_ec_links.declared.link.Link.{Ghosts as LinkTells}
use Rattle.tool_call.specs.of_segment_plan.declared.plan.Scenario.{Scenario}
use Rattle.run_report.specs.of_run_book.declared.book.Book.{Book}
use Rattle.run_report.specs.of_run_book.declared.book.Ending.TheVariants as endings
use Rattle.promised_run.specs.of_gateway_run.Serving.{Told, told}
use Rattle.tool_call.specs.of_gateway_tool.Told.{told as asked}
use Rattle.tool_call.specs.Asked.{is_ask}
use Rattle.tool_call.specs.of_ecmbx_words.declared.status.Status.{Status}
use Rattle.tool_call.specs.of_ecmbx_words.Form.{as_serve, saved_in}
use Rattle.ecmbx_call.specs.Asks.{Asks}
use Rattle.ecmbx_call.specs.Calls.{Calls}
use Rattle.ecmbx_call.specs.Causes.{IsCalm, RunsTo, SavesTo, ServesTo, ShowsTo, AuditsTo}
use Rattle.ecmbx_call.specs.Complete.{CompletesServing, CompletesTo}
use Rattle.ecmbx_call.specs.Course.{CarriesOut, Followed}
use Rattle.ecmbx_call.specs.Files.{LeavesFiles}
use Rattle.ecmbx_call.specs.First.{is_stream}
use Rattle.ecmbx_call.specs.Linked.{PutsWhole, told_first, told_last}
use Rattle.ecmbx_call.specs.Serving.{ServeCourse, ServesFile}

-- what this port tells
abbrev pub told_by : {P : Type 0} → PortTells P → P → Told
told_by tells port = told tells.heard tells.sent tells.over tells.port_faults port

-- what this link tells before its requests are heard
abbrev pub first_of : {L : Type 0} → LinkTells L → L → Told
first_of tells link = told_first tells.given tells.sent tells.over tells.link_faults link

-- what it tells behind that
abbrev pub last_of : {L : Type 0} → LinkTells L → L → L → Told
last_of tells first link = told_last tells.given tells.sent tells.over tells.link_faults first link

-- what a call leaves of the files, which saves under this name if at all
abbrev pub LeavesUnder : {F : Type 0} → FilesTell F → List ℕ → Book → F → F → Status → Type 0
LeavesUnder files_tell name book files files' status = LeavesFiles name (files_tell.table files) (files_tell.table files') (Rose (files_tell.file_faults files) (files_tell.file_faults files')) book status

-- what the words do
abbrev pub LeavesIn : {F : Type 0} → FilesTell F → List (List ℕ) → Book → F → F → Status → Type 0
LeavesIn files_tell words book files files' status = LeavesUnder files_tell (saved_in words) book files files' status

-- behind the datagrams put to a link stands nothing, or, where it had a fault, the first octets of one more; unless memory ran out, and where nothing stood there before
abbrev pub PutsNoMore : {L : Type 0} → LinkTells L → L → L → Book → Type 0
PutsNoMore link_tells first link book =
    book.ending ≢ endings.NoMemory → PutsWhole (link_tells.link_faults link) (link_tells.sent first) (link_tells.sent link)

-- octets are served over a port
abbrev pub ServesOctets : {O P : Type 0} → SinkTells O → PortTells P → List ℕ → ℕ → P → P → Book → O → O → Status → Type 0
ServesOctets sink_tells port_tells octets count port port' book out out' status =
    Followed (ServeCourse count (told_by port_tells port) (told_by port_tells port') book octets) (sink_tells.written out) (sink_tells.written out') status

-- the file under a name is served over a port
abbrev pub ServesAtPort : {F O P : Type 0} → FilesTell F → SinkTells O → PortTells P → List ℕ → ℕ → P → P → Book → F → F → O → O → Status → Type 0
ServesAtPort files_tell sink_tells port_tells name count port port' book files files' out out' status =
    ServesFile files_tell.table files_tell.file_faults sink_tells.written name count (told_by port_tells port) (told_by port_tells port') book files files' out out' status

-- the same over a link
abbrev pub ServesOnLink : {F O L : Type 0} → FilesTell F → SinkTells O → LinkTells L → List ℕ → ℕ → L → L → Book → F → F → O → O → Status → Type 0
ServesOnLink files_tell sink_tells link_tells name count first link book files files' out out' status =
    ServesFile files_tell.table files_tell.file_faults sink_tells.written name count (first_of link_tells first) (last_of link_tells first link) book files files' out out' status

-- the words are carried out over a port
abbrev pub CarriesAtPort : {F O P : Type 0} → FilesTell F → SinkTells O → PortTells P → List (List ℕ) → P → P → Book → F → F → O → O → Status → Type 0
CarriesAtPort files_tell sink_tells port_tells words port port' book files files' out out' status =
    CarriesOut files_tell.table files_tell.file_faults sink_tells.written words (told_by port_tells port) (told_by port_tells port') book files files' out out' status

-- the same over a link
abbrev pub CarriesOnLink : {F O L : Type 0} → FilesTell F → SinkTells O → LinkTells L → List (List ℕ) → L → L → Book → F → F → O → O → Status → Type 0
CarriesOnLink files_tell sink_tells link_tells words first link book files files' out out' status =
    CarriesOut files_tell.table files_tell.file_faults sink_tells.written words (first_of link_tells first) (last_of link_tells first link) book files files' out out' status

-- where no file has a fault: a scenario that is found is run
abbrev pub RunsFound : {F O : Type 0} → FilesTell F → SinkTells O → List (List ℕ) → Book → F → F → O → O → Status → Type 0
RunsFound files_tell sink_tells words book files files' out out' status =
    (plan : Scenario) → IsCalm files_tell.file_faults files files' → RunsTo words (files_tell.table files) plan book (sink_tells.written out) (sink_tells.written out') status

-- the same, and the frames are saved
abbrev pub SavesFound : {F O : Type 0} → FilesTell F → SinkTells O → List (List ℕ) → Book → F → F → O → O → Status → Type 0
SavesFound files_tell sink_tells words book files files' out out' status =
    (plan : Scenario) → IsCalm files_tell.file_faults files files' → SavesTo words (files_tell.table files) (files_tell.table files') plan book (sink_tells.written out) (sink_tells.written out') status

-- where no file and no sink has a fault: the run of a scenario that is found is complete
abbrev pub RunsWhole : {F O : Type 0} → FilesTell F → SinkTells O → List (List ℕ) → Book → F → F → O → O → Status → Type 0
RunsWhole files_tell sink_tells words book files files' out out' status =
    (plan : Scenario) → IsCalm files_tell.file_faults files files' → IsCalm sink_tells.sink_faults out out' → CompletesTo words (files_tell.table files) plan book status

-- where no file has a fault: a scenario that is found is served
abbrev pub ServesFound : {F O P : Type 0} → FilesTell F → SinkTells O → PortTells P → List (List ℕ) → P → P → Book → F → F → O → O → Status → Type 0
ServesFound files_tell sink_tells port_tells words port port' book files files' out out' status =
    (plan : Scenario) → IsCalm files_tell.file_faults files files' → ServesTo words (files_tell.table files) (told_by port_tells port) (told_by port_tells port') plan book (sink_tells.written out) (sink_tells.written out') status

-- where no file and no sink has a fault: the serving of a scenario that is found is complete
abbrev pub ServesWhole : {F O P : Type 0} → FilesTell F → SinkTells O → PortTells P → List (List ℕ) → P → P → Book → F → F → O → O → Status → Type 0
ServesWhole files_tell sink_tells port_tells words port port' book files files' out out' status =
    (plan : Scenario) → IsCalm files_tell.file_faults files files' → IsCalm sink_tells.sink_faults out out' → CompletesServing words (files_tell.table files) (told_by port_tells port) (told_by port_tells port') plan book status

-- where no file and no sink has a fault: a capture that is found is shown whole
abbrev pub ShowsFound : {F O : Type 0} → FilesTell F → SinkTells O → List (List ℕ) → F → F → O → O → Status → Type 0
ShowsFound files_tell sink_tells words files files' out out' status =
    IsCalm files_tell.file_faults files files' → IsCalm sink_tells.sink_faults out out' → ShowsTo words (files_tell.table files) (sink_tells.written out) (sink_tells.written out') status

-- the same of a capture that is audited
abbrev pub AuditsFound : {F O : Type 0} → FilesTell F → SinkTells O → List (List ℕ) → F → F → O → O → Status → Type 0
AuditsFound files_tell sink_tells words files files' out out' status =
    IsCalm files_tell.file_faults files files' → IsCalm sink_tells.sink_faults out out' → AuditsTo words (files_tell.table files) (sink_tells.written out) (sink_tells.written out') status

-- all that the top call promises, with a link in the place of the port
abbrev pub CallsOnLink : {F O L : Type 0} → FilesTell F → SinkTells O → LinkTells L → List (List ℕ) → L → L → Book → F → F → O → O → Status → Type 0
CallsOnLink files_tell sink_tells link_tells words first link book files files' out out' status =
    Calls files_tell.table files_tell.file_faults sink_tells.written sink_tells.sink_faults words (first_of link_tells first) (last_of link_tells first link) book files files' out out' status

-- where the first word is `stream`: all of that, for the words of `serve`
abbrev pub StreamsFirst : {F O L : Type 0} → FilesTell F → SinkTells O → LinkTells L → List (List ℕ) → L → L → Book → F → F → O → O → Status → Type 0
StreamsFirst files_tell sink_tells link_tells words first link book files files' out out' status =
    is_stream words ≡ true → CallsOnLink files_tell sink_tells link_tells (as_serve words) first link book files files' out out' status

-- where the first word is `ask`: all that the call of `ask` promises
abbrev pub AsksFirst : {F O P : Type 0} → FilesTell F → SinkTells O → PortTells P → List (List ℕ) → P → P → F → F → O → O → Status → Type 0
AsksFirst files_tell sink_tells port_tells words port port' files files' out out' status =
    is_ask words ≡ true
    → Asks files_tell.table files_tell.file_faults sink_tells.written sink_tells.sink_faults words (asked port_tells.heard port_tells.sent port_tells.over port_tells.port_faults port) (asked port_tells.heard port_tells.sent port_tells.over port_tells.port_faults port') files files' out out' port port' status

-- where it is neither: all that the top call promises
abbrev pub CallsElse : {F O P : Type 0} → FilesTell F → SinkTells O → PortTells P → List (List ℕ) → P → P → Book → F → F → O → O → Status → Type 0
CallsElse files_tell sink_tells port_tells words port port' book files files' out out' status =
    is_stream words ≡ false → is_ask words ≡ false
    → Calls files_tell.table files_tell.file_faults sink_tells.written sink_tells.sink_faults words (told_by port_tells port) (told_by port_tells port') book files files' out out' status
