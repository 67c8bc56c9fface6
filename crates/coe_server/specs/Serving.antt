-- What a server's state stands for: its unfinished transfer, the mails that wait in it, and what it emits.
use Rattle.std.specs.Prelude.{◌≡◌, ℕ, suc, ◌+◌, ◌-◌, ◌≤◌, ◌==◌, ◌&&◌, nat_le, nat_lt, if◌then◌else◌, Bool, true, false, List, [], ◌∷◌, ◌++◌, map, length, take, drop, Option, None, Some, Result, Ok, Err}
use Rattle.protocol_models.specs.of_coe_codec.Coe.{IsCoe}
use Rattle.protocol_models.specs.of_coe_codec.Reading.{is_information}
use Rattle.protocol_models.specs.of_coe_codec.Writing.{coe_text}
use Rattle.protocol_models.specs.CoeMails.{Information, Coe, CoeMail, mail, failed, First, Emergency, DownloadAnswer, SegmentAnswer, Abort, InformationError, ExpeditedAnswer, FirstAnswer, UploadSegmentAnswer}
use Rattle.protocol_models.specs.Tables.{Ask}
use Rattle.protocol_models.specs.Tables as Tables
use Rattle.protocol_models.specs.CoeServer.{Transfer, idle, downloading, uploading, Emission, emergency, packet, Outcome, Server, issued, one_more, parts_of, information_parts}
pub use Rattle.object_dictionary.specs.Entries.{Stores}
use Rattle.protocol_models.specs.of_mailbox_mail.declared.mail.Mail.{Mail}
use Rattle.protocol_models.specs.CoeOctets.{coe_mail_heard, coe_mail_written}
use Rattle.coe_server.specs.declared.dictionary.Target.{Target}
use Rattle.coe_server.specs.declared.dictionary.Question.{Question}
use Rattle.coe_server.specs.declared.state.State.{State}
use Rattle.coe_server.specs.declared.state.Pending.{Pending}
use Rattle.coe_server.specs.declared.state.Emitted.{Emitted}

-- what a transfer is about, as the model has it
abbrev pub target_view : Target → Tables.Target
target_view t = record { index = t.index; sub = t.sub; all = t.all }

-- a question, as the model has it
abbrev pub ask_view : Question → Ask
ask_view (Question.List kind) = Tables.list kind
ask_view (Question.Object index) = Tables.object index
ask_view (Question.Entry index sub info) = Tables.entry index sub info

-- a server: whether its slave serves EoE, the length of the mailbox for answers, the transfer that is not finished and its octets, what is
-- still to be told and the octets of an information answer, and what is emitted
pub record Serving : Type 0 where
  pub eoe : Bool
  pub room : ℕ
  pub state : State
  pub value : List ℕ
  pub pending : Pending
  pub told : List ℕ
  pub emitted : Emitted
  pub octets : List ℕ

-- the transfer that is not finished, by the state and the value's octets
abbrev pub transfer_view : State → List ℕ → Transfer
transfer_view State.Idle value = idle
transfer_view (State.Downloading t size toggle) value = downloading (target_view t) size value toggle
transfer_view (State.Uploading t from toggle) value = uploading (target_view t) (drop from value) toggle

-- the mails that wait to be told
abbrev pub pending_mails : ℕ → List ℕ → List ℕ → Pending → List CoeMail
pending_mails room value told Pending.Nothing = []
pending_mails room value told (Pending.DownloadAnswer t) = mail (DownloadAnswer t.index t.sub) ∷ []
pending_mails room value told (Pending.SegmentAnswer toggle) = mail (SegmentAnswer toggle) ∷ []
pending_mails room value told (Pending.Abort t code) = mail (Abort t.index t.sub code) ∷ []
pending_mails room value told (Pending.Error code) = mail (InformationError code) ∷ []
pending_mails room value told (Pending.Failed detail) = failed detail ∷ []
pending_mails room value told (Pending.Whole t) = mail (ExpeditedAnswer t.index t.sub (record { items = value })) ∷ []
pending_mails room value told (Pending.First t upto) = mail (FirstAnswer t.index t.sub (length value) (record { items = take upto value })) ∷ []
pending_mails room value told (Pending.Part from toggle) = mail (UploadSegmentAnswer toggle false (record { items = take (room - 9) (drop from value) })) ∷ []
pending_mails room value told (Pending.Last from toggle) = mail (UploadSegmentAnswer toggle true (record { items = drop from value })) ∷ []
pending_mails room value told (Pending.Parts opcode from) = information_parts (suc (length told)) opcode (room - 12) (drop from told)

-- what is emitted, as the model has it
abbrev pub emission_view : Emitted → List ℕ → Option Emission
emission_view Emitted.Nothing octets = None
emission_view Emitted.Emergency octets = Some (emergency octets)
emission_view Emitted.Packet octets = Some (packet octets)

-- the mail of an emergency that is emitted
abbrev pub emergencies : Emitted → List ℕ → List CoeMail
emergencies Emitted.Emergency octets = mail (Emergency (record { items = octets })) ∷ []
emergencies _ octets = []

-- the transfer that a server has not finished
abbrev pub transfer_of : Serving → Transfer
transfer_of c = transfer_view c.state c.value

-- the packet that is emitted and not yet handed out
abbrev pub packet_in : Emitted → List ℕ → Option (List ℕ)
packet_in Emitted.Packet octets = Some octets
packet_in _ octets = None

-- the packet that a server has not yet handed out
abbrev pub packet_of : Serving → Option (List ℕ)
packet_of c = packet_in c.emitted c.octets

-- the answers that wait in a server
abbrev pub answers_of : Serving → List CoeMail
answers_of c = pending_mails c.room c.value c.told c.pending

-- the mails that wait in a server: the answers, and an emergency behind them
abbrev pub waiting_mails : Serving → List CoeMail
waiting_mails c = answers_of c ++ emergencies c.emitted c.octets

-- what a server did with a mail, by its state behind it
abbrev pub outcome_of : {S : Type 0} → S → Serving → Bool → Outcome S
outcome_of app c counts = record { app = app; transfer = transfer_of c; counts = counts; answers = answers_of c; emission = emission_view c.emitted c.octets }

-- the server is the same, with this transfer and this to be told
abbrev pub told_of : Serving → State → Pending → Serving
told_of c state pending = record c { state = state; pending = pending; emitted = Emitted.Nothing }

-- a value that is read, by what the call answers
abbrev pub Reads : Result (List ℕ) ℕ → Option ℕ → List ℕ → Type 0
Reads value None octets = value ≡ Ok octets
Reads value (Some code) octets = value ≡ Err code

-- an answer without octets, and its mail
abbrev pub IsSmall : Pending → Type 0
IsSmall (Pending.DownloadAnswer t) = Unit {0}
IsSmall (Pending.SegmentAnswer toggle) = Unit {0}
IsSmall _ = ⊥

-- the mail of such an answer
abbrev pub small_mail : Pending → CoeMail
small_mail (Pending.DownloadAnswer t) = mail (DownloadAnswer t.index t.sub)
small_mail (Pending.SegmentAnswer toggle) = mail (SegmentAnswer toggle)
small_mail _ = failed 0

-- what is emitted fits its mail
abbrev pub IsFitting : Option Emission → Type 0
IsFitting None = Unit {0}
IsFitting (Some (emergency octets)) = length octets ≡ 8
IsFitting (Some (packet octets)) = length octets ≤ 1514

-- a first part is within its size
abbrev pub IsWithin : Coe → Type 0
IsWithin (First index sub all size bytes) = length bytes.items ≤ size
IsWithin _ = Unit {0}

-- whether a transfer's octets are as they should be
abbrev pub is_sound : State → List ℕ → Bool
is_sound State.Idle value = true
is_sound (State.Downloading t size toggle) value = nat_le (length value) size && nat_le size 16384
is_sound (State.Uploading t from toggle) value = nat_lt from (length value)

-- whether the mails that are to be told have spellings and fit the mailbox
abbrev pub is_told : ℕ → List ℕ → List ℕ → Pending → Bool
is_told room value told (Pending.Whole t) = nat_le 1 (length value) && nat_le (length value) 4
is_told room value told (Pending.First t upto) = nat_le upto (room - 16)
is_told room value told (Pending.Part from toggle) = nat_lt from (length value)
is_told room value told (Pending.Last from toggle) = nat_lt from (length value) && nat_le (length value - from) (room - 9)
is_told room value told (Pending.Parts opcode from) = is_information opcode && nat_le from (length told)
is_told room value told _ = true

-- whether what is emitted fits its mail
abbrev pub is_emitted : Emitted → List ℕ → Bool
is_emitted Emitted.Emergency octets = length octets == 8
is_emitted _ octets = true

-- the part of an information answer that goes first, of what is left of it
abbrev pub first_part : ℕ → ℕ → List ℕ → Coe
first_part part opcode rest =
    if nat_le (length rest) part then Information opcode false 0 (record { items = rest })
    else Information opcode true (parts_of part (length rest - part)) (record { items = take part rest })

-- the answer with a value's size and its first octets
abbrev pub first_answer : ℕ → ℕ → ℕ → List ℕ → Coe
first_answer index sub size bytes = FirstAnswer index sub size (record { items = bytes })

-- the answer with a segment of a value
abbrev pub segment_answer : Bool → Bool → List ℕ → Coe
segment_answer toggle last bytes = UploadSegmentAnswer toggle last (record { items = bytes })

-- a part of an information answer
abbrev pub fragment : ℕ → Bool → ℕ → List ℕ → Coe
fragment opcode incomplete left bytes = Information opcode incomplete left (record { items = bytes })

-- the message that goes first of what is to be told
abbrev pub first_message : ℕ → List ℕ → List ℕ → Pending → Coe
first_message room value told (Pending.DownloadAnswer t) = DownloadAnswer t.index t.sub
first_message room value told (Pending.SegmentAnswer toggle) = SegmentAnswer toggle
first_message room value told (Pending.Abort t code) = Abort t.index t.sub code
first_message room value told (Pending.Error code) = InformationError code
first_message room value told (Pending.Whole t) = ExpeditedAnswer t.index t.sub (record { items = value })
first_message room value told (Pending.First t upto) = FirstAnswer t.index t.sub (length value) (record { items = take upto value })
first_message room value told (Pending.Part from toggle) = UploadSegmentAnswer toggle false (record { items = take (room - 9) (drop from value) })
first_message room value told (Pending.Last from toggle) = UploadSegmentAnswer toggle true (record { items = drop from value })
first_message room value told (Pending.Parts opcode from) = first_part (room - 12) opcode (drop from told)
first_message room value told _ = InformationError 0

-- the message that goes first of a server
abbrev pub message_of : Serving → Coe
message_of c = first_message c.room c.value c.told c.pending

-- whether a message is to be told; a mailbox error is none
abbrev pub has_message : Pending → Bool
has_message Pending.Nothing = false
has_message (Pending.Failed detail) = false
has_message _ = true

-- the mailbox error that is to be told
abbrev pub failure_in : Pending → Option ℕ
failure_in (Pending.Failed detail) = Some detail
failure_in _ = None

-- what is to be told behind the first message: further parts of an information answer
abbrev pub pending_behind : ℕ → List ℕ → Pending → Pending
pending_behind room told (Pending.Parts opcode from) =
    if nat_le (length told - from) (room - 12) then Pending.Nothing else Pending.Parts opcode (from + (room - 12))
pending_behind room told _ = Pending.Nothing

-- a server's message is short enough for the mailbox
abbrev pub IsShort : ℕ → Coe → Type 0
IsShort room (Emergency octets) = length octets.items ≡ 8
IsShort room (ExpeditedAnswer index sub bytes) = length bytes.items ≤ 4
IsShort room (FirstAnswer index sub size bytes) = length bytes.items ≤ room - 16
IsShort room (UploadSegmentAnswer toggle last bytes) = length bytes.items ≤ room - 9
IsShort room (Information opcode incomplete left bytes) = length bytes.items ≤ room - 12
IsShort room (DownloadAnswer index sub) = Unit {0}
IsShort room (SegmentAnswer toggle) = Unit {0}
IsShort room (Abort index sub code) = Unit {0}
IsShort room (InformationError code) = Unit {0}
IsShort room _ = ⊥

-- a body is the one spelling of this message, which is short enough for the mailbox
pub record IsWritten (room : ℕ) (message : Coe) (octets : List ℕ) : Type 0 where
  pub text : octets ≡ coe_text message
  pub spelled : IsCoe octets message
  pub short : IsShort room message

-- the first of the mails that wait, in its one spelling, which reads as it
pub record GivesNext (old : Serving) (written : Mail) (new : Serving) : Type 0 where
  pub first : CoeMail
  pub spelled : written ≡ coe_mail_written first
  pub heard : coe_mail_heard written ≡ first
  pub rest : waiting_mails old ≡ first ∷ waiting_mails new

-- the model's server behind a mail, and the mails that it gives, by what the call did
abbrev pub served_of : {S : Type 0} → Tables.Tables S → S → ℕ → Serving → Bool → Server S × List Mail
served_of o app handled c counts = (
  record { app = (issued o app (emission_view c.emitted c.octets)).0; handled = one_more counts handled; transfer = transfer_of c },
  map coe_mail_written (answers_of c ++ (issued o app (emission_view c.emitted c.octets)).1),
)
