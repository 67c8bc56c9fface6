-- What a service over the gateway comes to.
use Rattle.std.specs.Prelude.{◌≡◌, ℕ, Bool, true, false, List, [], Option, Ok, Err}
use Rattle.ec_outside.specs.Files.{Table, Saves}
use Rattle.ec_outside.specs.declared.files.FilesErr.TheVariants as errors
use Rattle.ec_outside.specs.declared.port.Peer.{Peer}
use Rattle.ecmbx_words.specs.declared.status.Status.TheVariants as statuses
use Rattle.ecmbx_words.specs.Texts.{fault_line}
use Rattle.gateway_tool.specs.Rule.{Call}
use Rattle.gateway_tool.specs.Told.{Told as PortTold}
use Rattle.gateway_tool.specs.Ended.{HasEnded}
use Rattle.gateway_tool.specs.declared.asking.ToolEnd.{ToolEnd}
use Rattle.gateway_tool.specs.declared.reply.Reply.{Reply}
use Rattle.mailbox_mail.specs.declared.outcome.ReplyKind.{ReplyKind}
use Rattle.mailbox_mail.specs.declared.outcome.ReplyKind.TheVariants as kinds
use Rattle.people_words.specs.declared.ended.Ended.{Ended}
use Rattle.segment_plan.specs.declared.service.Service.{Service}
use Rattle.segment_plan.specs.declared.slave.SlaveSpec.{SlaveSpec}
use Rattle.entry_act.specs.declared.words.Task.{Task}
use Rattle.entry_act.specs.Words.{last_in}
use Rattle.entry_texts.specs.Replies.{end_of, reply_line, saved_line}
use Rattle.entry_texts.specs.Silence.{unanswered_lines, port_fault_lines}

-- the gateway: 127.0.0.1, port 34980
abbrev pub gateway : Peer
gateway = record { ip = 0x7F000001; port = 34980 }

-- a service of a slave over the gateway, by the station and the lengths of the mailboxes that its plan gives
abbrev pub call_to : SlaveSpec → Service → Call
call_to slave service = record { areas = record { out = slave.out_len; back = slave.in_len }; service = service; station = slave.station; to = gateway }

-- a reply's value is to be saved
abbrev pub saves : Task → ReplyKind → Bool
saves Task.Save kinds.Value = true
saves _ _ = false

-- a value is saved in the file FILE, and a line says so; or a fault of the files, or want of memory, is in the way
pub data SaveCourse (words : List (List ℕ)) (slave : SlaveSpec) (service : Service) (octets : List ℕ) (before behind : Option Table) : Ended → List ℕ → Type 0 where
  saved : Saves before behind (last_in words) octets (Ok tt) → SaveCourse words slave service octets before behind (Ended.As statuses.Done) (saved_line slave service octets (last_in words))
  unsaved : Saves before behind (last_in words) octets (Err errors.Failed) → SaveCourse words slave service octets before behind (Ended.As statuses.FileFault) fault_line
  starved : Saves before behind (last_in words) octets (Err errors.NoMemory) → SaveCourse words slave service octets before behind (Ended.As statuses.NoMemory) []

-- what a reply comes to: its line, or the save of its value
pub data ReplyCourse (words : List (List ℕ)) (task : Task) (slave : SlaveSpec) (service : Service) (reply : Reply) (before behind : Option Table) : Ended → List ℕ → Type 0 where
  told : saves task reply.kind ≡ false → behind ≡ before → ReplyCourse words task slave service reply before behind (end_of reply.kind) (reply_line slave service reply)
  saved : (planned : Ended) (text : List ℕ) → saves task reply.kind ≡ true → SaveCourse words slave service reply.value before behind planned text
      → ReplyCourse words task slave service reply before behind planned text

-- WHAT A SERVICE OVER THE GATEWAY COMES TO, its end and the text put, by what the port told before it and behind it (`first` and `last`): what was sent and heard is
-- that of one call of the client, which sends each mail once
pub data ServiceCourse (words : List (List ℕ)) (task : Task) (slave : SlaveSpec) (service : Service) (before behind : Option Table) (still : Type 0) (first last : PortTold) : Ended → List ℕ → Type 0 where
  replied : (reply : Reply) (planned : Ended) (text : List ℕ) → HasEnded (call_to slave service) first last reply ToolEnd.Reply → ReplyCourse words task slave service reply before behind planned text
      → ServiceCourse words task slave service before behind still first last planned text
  unanswered : (reply : Reply) → HasEnded (call_to slave service) first last reply ToolEnd.NoAnswer → behind ≡ before
      → ServiceCourse words task slave service before behind still first last (Ended.As statuses.NoAnswer) (unanswered_lines words task slave service)
  failed : (reply : Reply) → HasEnded (call_to slave service) first last reply ToolEnd.PortFault → behind ≡ before
      → ServiceCourse words task slave service before behind still first last (Ended.As statuses.PortFault) (port_fault_lines words task slave service)
  starved : (reply : Reply) → HasEnded (call_to slave service) first last reply ToolEnd.NoMemory → behind ≡ before
      → ServiceCourse words task slave service before behind still first last (Ended.As statuses.NoMemory) []
