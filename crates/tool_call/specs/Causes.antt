-- When each status comes.
use Rattle.std.specs.Prelude.{◌≡◌, ℕ, ◌<◌, List, [], ◌∷◌, length, Option, Some, None}
use Rattle.ecmbx_words.specs.of_ec_outside.Faults.{Rose}
use Rattle.ecmbx_words.specs.of_ec_outside.Files.{Table, file_of}
use Rattle.arrayvec.specs.ArrayVec.{ArrayVec}
use Rattle.gateway_tool.specs.of_segment_plan.declared.service.Service.{Service}
use Rattle.gateway_tool.specs.declared.reply.Reply.{Reply}
use Rattle.gateway_tool.specs.declared.asking.ToolEnd.{ToolEnd}
use Rattle.gateway_tool.specs.Told.{Told}
use Rattle.gateway_tool.specs.Ended.{HasEnded}
use Rattle.ecmbx_words.specs.declared.status.Status.{Status}
use Rattle.ecmbx_words.specs.declared.status.Status.TheVariants as statuses
use Rattle.ecmbx_words.specs.Ends.{IsAmong}
use Rattle.ecmbx_words.specs.Files.{Holds, IsLong}
use Rattle.tool_call.specs.declared.asked.Act.{Act}
use Rattle.tool_call.specs.declared.asked.Asked.{Asked}
use Rattle.tool_call.specs.Asked.{asked_in, file_in}
use Rattle.tool_call.specs.Course.{limit, call_of}

-- the words ask for a write, whose octets are in a file
abbrev pub Writes : List (List ℕ) → Type 0
Writes words = (a : Asked) × (name : ArrayVec ℕ) × (asked_in words ≡ Some a) × (a.act ≡ Act.Write name)

-- Usage comes exactly where the words ask for nothing, but for a fault of the sink.
abbrev pub UsageCause : List (List ℕ) → Status → Type 0
UsageCause words status =
    (status ≡ statuses.Usage → asked_in words ≡ None) × (asked_in words ≡ None → IsAmong (statuses.Usage ∷ statuses.SinkFault ∷ statuses.NoMemory ∷ []) status)

-- Absent comes exactly where the file to be written isn't there, but for a fault.
abbrev pub AbsentCause : List (List ℕ) → Option Table → Status → Type 0
AbsentCause words table status =
    (status ≡ statuses.Absent → Writes words × Holds table (file_in words) None)
    × ((files : Table) → Writes words → table ≡ Some files → file_of (file_in words) files ≡ None → IsAmong (statuses.Absent ∷ statuses.FileFault ∷ statuses.SinkFault ∷ statuses.NoMemory ∷ []) status)

-- TooLong comes exactly where it has more than 131,072 octets, but for a fault.
abbrev pub LongCause : List (List ℕ) → Option Table → Status → Type 0
LongCause words table status =
    (status ≡ statuses.TooLong → Writes words × IsLong limit table (file_in words))
    × ((files : Table) (octets : List ℕ) → Writes words → table ≡ Some files → file_of (file_in words) files ≡ Some octets → limit < length octets
    → IsAmong (statuses.TooLong ∷ statuses.FileFault ∷ statuses.SinkFault ∷ statuses.NoMemory ∷ []) status)

-- a service over the gateway that the words ask for ended so
abbrev pub EndsSo : List (List ℕ) → Told → Told → ToolEnd → Type 0
EndsSo words first last end = (a : Asked) × (service : Service) × (value : Reply) × (asked_in words ≡ Some a) × HasEnded (call_of a.slave service) first last value end

-- NoAnswer comes only where the service got no reply, PortFault only where the port failed before that
abbrev pub NoAnswerCause : List (List ℕ) → Told → Told → Status → Type 0
NoAnswerCause words first last status = status ≡ statuses.NoAnswer → EndsSo words first last ToolEnd.NoAnswer

-- PortFault comes only where the port failed before the reply
abbrev pub FaultCause : List (List ℕ) → Told → Told → Status → Type 0
FaultCause words first last status = status ≡ statuses.PortFault → EndsSo words first last ToolEnd.PortFault × Rose first.faults last.faults
