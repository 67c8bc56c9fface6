-- What the words `ask STATION OUT IN DO ARGS` come to: one case for each row of the table of answers.
use Rattle.std.specs.Prelude.{◌≡◌, ℕ, List, Option, Some, None}
use Rattle.ecmbx_words.specs.of_ec_outside.Files.{Table}
use Rattle.ecmbx_words.specs.of_ec_outside.declared.port.Peer.{Peer}
use Rattle.arrayvec.specs.ArrayVec.{ArrayVec}
use Rattle.gateway_tool.specs.of_segment_plan.declared.service.Service.{Service}
use Rattle.gateway_tool.specs.declared.reply.Reply.{Reply}
use Rattle.gateway_tool.specs.declared.asking.ToolEnd.{ToolEnd}
use Rattle.gateway_tool.specs.Rule.{Call}
use Rattle.gateway_tool.specs.Told.{Told}
use Rattle.gateway_tool.specs.Ended.{HasEnded}
use Rattle.ecmbx_words.specs.declared.status.Status.{Status}
use Rattle.ecmbx_words.specs.declared.status.Status.TheVariants as statuses
use Rattle.ecmbx_words.specs.Files.{FileCourse, Followed}
use Rattle.ecmbx_words.specs.Texts.{usage_line}
use Rattle.tool_call.specs.declared.asked.Act.{Act}
use Rattle.tool_call.specs.declared.asked.Slave.{Slave}
use Rattle.tool_call.specs.declared.asked.Asked.{Asked}
use Rattle.tool_call.specs.Asked.{asked_in, file_in}
use Rattle.tool_call.specs.Lines.{answer_line, no_answer_line, port_fault_line}

-- the gateway: 127.0.0.1, port 34980
abbrev pub gateway : Peer
gateway = record { ip = 0x7F000001; port = 34980 }

-- the most octets of a file that is written
abbrev pub limit : ℕ
limit = 131072

-- a service of a slave
abbrev pub call_of : Slave → Service → Call
call_of s service = record { areas = record { out = s.out_len; back = s.in_len }; service = service; station = s.station; to = gateway }

-- a service over the gateway: its reply, no answer, or a fault of the port; `first` and `last` are what the port told before it and behind it
pub data CallCourse (c : Call) (first last : Told) : Status → List ℕ → Type 0 where
  replied : (value : Reply) → HasEnded c first last value ToolEnd.Reply → CallCourse c first last statuses.Done (answer_line value)
  unanswered : (value : Reply) → HasEnded c first last value ToolEnd.NoAnswer → CallCourse c first last statuses.NoAnswer no_answer_line
  failed : (value : Reply) → HasEnded c first last value ToolEnd.PortFault → CallCourse c first last statuses.PortFault port_fault_line

-- a write of a file whose octets are loaded
abbrev pub WriteCourse : Slave → ArrayVec ℕ → List ℕ → Option Table → Type 0 → Type 0 → Told → Told → Status → List ℕ → Type 0
WriteCourse s name file table faulted still first last = FileCourse limit file table faulted still (λ octets. CallCourse (call_of s (Service.WriteFile name 0 octets)) first last)

-- what is to be done at a slave
abbrev pub ActCourse : Slave → Act → List ℕ → Option Table → Type 0 → Type 0 → Told → Told → Status → List ℕ → Type 0
ActCourse s (Act.Whole service) file table faulted still first last = CallCourse (call_of s service) first last
ActCourse s (Act.Write name) file table faulted still first last = WriteCourse s name file table faulted still first last

-- how a call of these words is to end, and the text to be put; `still` says that the port wasn't touched
pub data AskCourse (words : List (List ℕ)) (table : Option Table) (faulted still : Type 0) (first last : Told) : Status → List ℕ → Type 0 where
  usage : asked_in words ≡ None → still → AskCourse words table faulted still first last statuses.Usage usage_line
  asked : (a : Asked) (planned : Status) (text : List ℕ) → asked_in words ≡ Some a → ActCourse a.slave a.act (file_in words) table faulted still first last planned text → AskCourse words table faulted still first last planned text

-- a write of a file does this
abbrev pub WritesTo : Slave → ArrayVec ℕ → List ℕ → Option Table → Type 0 → Type 0 → Told → Told → Option (List ℕ) → Option (List ℕ) → Status → Type 0
WritesTo s name file table faulted still first last old new status = Followed (WriteCourse s name file table faulted still first last) old new status

-- what is done at a slave does this
abbrev pub ActsTo : Slave → Act → List ℕ → Option Table → Type 0 → Type 0 → Told → Told → Option (List ℕ) → Option (List ℕ) → Status → Type 0
ActsTo s act file table faulted still first last old new status = Followed (ActCourse s act file table faulted still first last) old new status

-- WHAT A CALL DOES to files, port and sink: from what they are before it to what they are behind it
abbrev pub AsksTo : List (List ℕ) → Option Table → Type 0 → Type 0 → Told → Told → Option (List ℕ) → Option (List ℕ) → Status → Type 0
AsksTo words table faulted still first last old new status = Followed (AskCourse words table faulted still first last) old new status
