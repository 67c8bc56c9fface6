-- A CoE server (ETG.1000.6, "CoE"; CiA 301, "SDO"): what it does with one mail.
use Rattle.std.specs.Prelude.{ℕ, zero, suc, ◌+◌, ◌-◌, ◌/◌, ◌==◌, ◌&&◌, ◌||◌, not, nat_le, nat_lt, Bool, true, false, List, [], ◌∷◌, ◌++◌, map, length, take, drop, if◌then◌else◌, Option, None, Some, Result, Ok, Err}
use Rattle.protocol_models.specs.CoeMails.{Coe, Emergency, Expedited, First, Upload, DownloadAnswer, ExpeditedAnswer, FirstAnswer, Segment, SegmentAnswer, UploadSegment, UploadSegmentAnswer, Abort, ListRequest, ObjectRequest, EntryRequest, Information, InformationError, CoeFault, Short, Service, Command, Size, CoeMail, mail, unread, failed, fragment, other}
use Rattle.protocol_models.specs.Tables.{Target, nowhere, Ask, list, object, entry, Tables}

-- the SDO transfer that is not finished: what came of a download, or what is left of an upload, and the toggle that comes next
pub data Transfer : Type 0 where
  idle : Transfer
  downloading : (t : Target) (size : ℕ) (got : List ℕ) (toggle : Bool) → Transfer
  uploading : (t : Target) (rest : List ℕ) (toggle : Bool) → Transfer

-- what a download of an entry 2F00:01 or 2F01:01 makes the slave send of itself
pub data Emission : Type 0 where
  emergency : (octets : List ℕ) → Emission
  packet : (octets : List ℕ) → Emission

-- what a server does with one mail: the tables and the transfer behind it, whether a service was carried out, the answers and an emission
pub record Outcome (S : Type 0) : Type 0 where
  pub app : S
  pub transfer : Transfer
  pub counts : Bool
  pub answers : List CoeMail
  pub emission : Option Emission

-- a service is over, with this answer
abbrev pub ended : {S : Type 0} → S → Transfer → CoeMail → Outcome S
ended app transfer answer = record { app = app; transfer = transfer; counts = true; answers = answer ∷ []; emission = None }

-- one goes on, with this answer
abbrev pub goes_on : {S : Type 0} → S → Transfer → CoeMail → Outcome S
goes_on app transfer answer = record { app = app; transfer = transfer; counts = false; answers = answer ∷ []; emission = None }

-- a mail without an answer
abbrev pub silent : {S : Type 0} → S → Transfer → Outcome S
silent app transfer = record { app = app; transfer = transfer; counts = false; answers = []; emission = None }

-- an abort of the transfer of an entry
abbrev pub abort : Target → ℕ → CoeMail
abort t code = mail (Abort t.index t.sub code)

-- the answer that accepts a download
abbrev pub download_answer : Target → CoeMail
download_answer t = mail (DownloadAnswer t.index t.sub)

-- whether two toggle bits are one
abbrev pub same : Bool → Bool → Bool
same true second = second
same false second = not second

-- what a download that was stored emits: by its subindex alone, and a packet only where the slave serves EoE
abbrev pub emission_of : Bool → Target → List ℕ → Option Emission
emission_of eoe t bytes =
    if t.all || not (t.sub == 1) then None
    else if t.index == 0x2F00 then Some (emergency bytes)
    else if eoe && t.index == 0x2F01 then Some (packet bytes)
    else None

-- a download whose last octet has come
abbrev pub stored : {S : Type 0} → Bool → S → Target → List ℕ → CoeMail → Result S ℕ → Outcome S
stored eoe app t bytes answer (Ok changed) = record { app = changed; transfer = idle; counts = true; answers = answer ∷ []; emission = emission_of eoe t bytes }
stored eoe app t bytes answer (Err code) = ended app idle (abort t code)

-- a value that came whole: the tables store it
abbrev pub takes_whole : {S : Type 0} → Tables S → Bool → S → Target → List ℕ → CoeMail → Outcome S
takes_whole o eoe app t bytes answer = stored eoe app t bytes answer (o.download app t bytes)

-- a download that has more to come: refused by its complete size, or begun
abbrev pub begins : {S : Type 0} → S → Target → ℕ → List ℕ → Option ℕ → Outcome S
begins app t size part None = goes_on app (downloading t size part false) (download_answer t)
begins app t size part (Some code) = ended app idle (abort t code)

-- an initiate download: the whole value, or its first part
abbrev pub takes_first : {S : Type 0} → Tables S → Bool → S → Target → ℕ → List ℕ → Outcome S
takes_first o eoe app t size part =
    if size == length part then takes_whole o eoe app t part (download_answer t)
    else begins app t size part (o.check app t size)

-- a segment of a download: the toggle first, then the complete size
abbrev pub takes_segment : {S : Type 0} → Tables S → Bool → S → Transfer → Bool → Bool → List ℕ → Outcome S
takes_segment o eoe app idle toggle last part = ended app idle (abort nowhere 0x05040001)
takes_segment o eoe app (uploading t rest expected) toggle last part = ended app idle (abort t 0x05040001)
takes_segment o eoe app (downloading t size got expected) toggle last part =
    if not (same expected toggle) then ended app idle (abort t 0x05030000)
    else if nat_lt size (length (got ++ part)) then ended app idle (abort t 0x06070012)
    else if last then
    (if nat_lt (length (got ++ part)) size then ended app idle (abort t 0x06070013)
    else takes_whole o eoe app t (got ++ part) (mail (SegmentAnswer toggle)))
    else goes_on app (downloading t size (got ++ part) (not expected)) (mail (SegmentAnswer toggle))

-- whether a value goes in the mail that answers its initiate, without a size
abbrev pub is_expedited : List ℕ → Bool
is_expedited bytes = nat_le 1 (length bytes) && nat_le (length bytes) 4

-- an upload, answered by the whole value or, where that is too long for a mailbox of this length, by its first part
abbrev pub opened : {S : Type 0} → ℕ → S → Target → Result (List ℕ) ℕ → Outcome S
opened room app t (Err code) = ended app idle (abort t code)
opened room app t (Ok bytes) =
    if is_expedited bytes then ended app idle (mail (ExpeditedAnswer t.index t.sub (record { items = bytes })))
    else if nat_le (length bytes) (room - 16) then ended app idle (mail (FirstAnswer t.index t.sub (length bytes) (record { items = bytes })))
    else ended app (uploading t (drop (room - 16) bytes) false) (mail (FirstAnswer t.index t.sub (length bytes) (record { items = take (room - 16) bytes })))

-- a request for the next segment of an upload
abbrev pub takes_upload_segment : {S : Type 0} → ℕ → S → Transfer → Bool → Outcome S
takes_upload_segment room app idle toggle = ended app idle (abort nowhere 0x05040001)
takes_upload_segment room app (downloading t size got expected) toggle = ended app idle (abort t 0x05040001)
takes_upload_segment room app (uploading t rest expected) toggle =
    if not (same expected toggle) then goes_on app idle (abort t 0x05030000)
    else if nat_le (length rest) (room - 9) then goes_on app idle (mail (UploadSegmentAnswer toggle true (record { items = rest })))
    else goes_on app (uploading t (drop (room - 9) rest) (not expected)) (mail (UploadSegmentAnswer toggle false (record { items = take (room - 9) rest })))

-- how many parts of this length hold so many octets
abbrev pub parts_of : ℕ → ℕ → ℕ
parts_of part octets = (octets + part - 1) / part

-- an information answer in parts of this length; each says how many follow. fuel is at least the number of parts
abbrev pub information_parts : ℕ → ℕ → ℕ → List ℕ → List CoeMail
information_parts zero opcode part bytes = []
information_parts (suc fuel) opcode part bytes =
    if nat_le (length bytes) part then mail (Information opcode false 0 (record { items = bytes })) ∷ []
    else mail (Information opcode true (parts_of part (length bytes - part)) (record { items = take part bytes })) ∷ information_parts fuel opcode part (drop part bytes)

-- the opcode of the answer to a request
abbrev pub answer_opcode : Ask → ℕ
answer_opcode (list kind) = 2
answer_opcode (object index) = 4
answer_opcode (entry index sub info) = 6

-- an information service, by what the tables tell
abbrev pub informed : {S : Type 0} → ℕ → S → Transfer → Ask → Result (List ℕ) ℕ → Outcome S
informed room app transfer a (Err code) = ended app transfer (mail (InformationError code))
informed room app transfer a (Ok bytes) = record {
  app = app;
  transfer = transfer;
  counts = true;
  answers = information_parts (suc (length bytes)) (answer_opcode a) (room - 12) bytes;
  emission = None;
}

-- an information request
abbrev pub takes_ask : {S : Type 0} → Tables S → ℕ → S → Transfer → Ask → Outcome S
takes_ask o room app transfer a = informed room app transfer a (o.info app a)

-- a mail with an unknown command: by an abort, which ends the transfer, or an information error
abbrev pub unknown_command : {S : Type 0} → S → Transfer → Bool → ℕ → ℕ → Outcome S
unknown_command app transfer true index sub = ended app transfer (mail (InformationError 0x05040001))
unknown_command app transfer false index sub = ended app idle (mail (Abort index sub 0x05040001))

-- a mail that does not read, under this service of its header. Under 1 and 3 no request comes, so only its length matters
abbrev pub takes_unread : {S : Type 0} → S → Transfer → CoeFault → ℕ → ℕ → ℕ → Outcome S
takes_unread app transfer Short service index sub = ended app transfer (failed 6)
takes_unread app transfer Service service index sub = ended app transfer (failed 4)
takes_unread app transfer Command service index sub =
    if service == 1 || service == 3 then ended app transfer (failed 4) else unknown_command app transfer (service == 8) index sub
takes_unread app transfer Size service index sub =
    if service == 1 || service == 3 then ended app transfer (failed 4) else ended app transfer (failed 8)

-- room is the length of the mailbox that the answers go through
abbrev pub coe_takes : {S : Type 0} → Tables S → Bool → ℕ → S → Transfer → Coe → Outcome S
coe_takes o eoe room app transfer (Expedited index sub all bytes) =
    let t : Target = record { index = index; sub = sub; all = all } in takes_whole o eoe app t bytes.items (download_answer t)
coe_takes o eoe room app transfer (First index sub all size bytes) = takes_first o eoe app (record { index = index; sub = sub; all = all }) size bytes.items
coe_takes o eoe room app transfer (Segment toggle last bytes) = takes_segment o eoe app transfer toggle last bytes.items
coe_takes o eoe room app transfer (Upload index sub all) = let t : Target = record { index = index; sub = sub; all = all } in opened room app t (o.upload app t)
coe_takes o eoe room app transfer (UploadSegment toggle) = takes_upload_segment room app transfer toggle
coe_takes o eoe room app transfer (Abort index sub code) = silent app idle
coe_takes o eoe room app transfer (ListRequest kind) = takes_ask o room app transfer (list kind)
coe_takes o eoe room app transfer (ObjectRequest index) = takes_ask o room app transfer (object index)
coe_takes o eoe room app transfer (EntryRequest index sub info) = takes_ask o room app transfer (entry index sub info)
coe_takes o eoe room app transfer (Information opcode incomplete left bytes) = unknown_command app transfer true 0 0
coe_takes o eoe room app transfer (InformationError code) = unknown_command app transfer true 0 0
coe_takes o eoe room app transfer _ = ended app transfer (failed 4)

-- what a server does with any mail: a message is served, one that does not read is refused, others are silent
abbrev pub coe_outcome : {S : Type 0} → Tables S → Bool → ℕ → S → Transfer → CoeMail → Outcome S
coe_outcome o eoe room app transfer (mail c) = coe_takes o eoe room app transfer c
coe_outcome o eoe room app transfer (unread fault service index sub) = takes_unread app transfer fault service index sub
coe_outcome o eoe room app transfer (failed detail) = silent app transfer
coe_outcome o eoe room app transfer (fragment body) = silent app transfer
coe_outcome o eoe room app transfer (other body) = silent app transfer

-- a server, with the number of services that it has carried out
pub record Server (S : Type 0) : Type 0 where
  pub app : S
  pub handled : ℕ
  pub transfer : Transfer

-- the number of services, with one that counts
abbrev pub one_more : Bool → ℕ → ℕ
one_more true n = suc n
one_more false n = n

-- the mails of an emission, and the state behind it
abbrev pub issued : {S : Type 0} → Tables S → S → Option Emission → S × List CoeMail
issued o app None = (app, [])
issued o app (Some (emergency octets)) = (app, mail (Emergency (record { items = octets })) ∷ [])
issued o app (Some (packet octets)) = ((o.packet app octets).0, map fragment (o.packet app octets).1)

-- the server behind what it did with a mail, and the mails that it gives
abbrev pub behind : {S : Type 0} → Tables S → ℕ → Outcome S → Server S × List CoeMail
behind o handled x = (
  record { app = (issued o x.app x.emission).0; handled = one_more x.counts handled; transfer = x.transfer },
  x.answers ++ (issued o x.app x.emission).1,
)

-- one mail taken: the server behind it, and what it gives
abbrev pub serve : {S : Type 0} → Tables S → Bool → ℕ → Server S → CoeMail → Server S × List CoeMail
serve o eoe room v m = behind o v.handled (coe_outcome o eoe room v.app v.transfer m)
