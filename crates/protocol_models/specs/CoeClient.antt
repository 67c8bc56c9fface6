-- A CoE client: the mails that it sends for a service, and the reply that the mails it hears complete.
use Rattle.std.specs.Prelude.{ℕ, zero, suc, ◌-◌, ◌==◌, ◌&&◌, ◌||◌, not, nat_le, nat_lt, Bool, true, false, List, [], ◌∷◌, ◌++◌, length, take, drop, if◌then◌else◌, Option, None, Some}
use Rattle.mailbox_mail.specs.declared.outcome.ReplyKind.{ReplyKind}
pub use Rattle.mailbox_mail.specs.Replies.{at_end}
use Rattle.exchange_model.specs.Dialogue.{Turn, next, stop}
use Rattle.protocol_models.specs.CoeMails.{Coe, Expedited, First, Upload, DownloadAnswer, ExpeditedAnswer, FirstAnswer, Segment, SegmentAnswer, UploadSegment, UploadSegmentAnswer, Abort, ListRequest, ObjectRequest, EntryRequest, Information, InformationError, CoeMail, mail, failed}
use Rattle.protocol_models.specs.Tables.{Target, Ask, list, object, entry}
use Rattle.protocol_models.specs.CoeServer.{same, is_expedited, parts_of, answer_opcode}
use Rattle.protocol_models.specs.CoeMeaning.{Service, download, upload, information, Reply}

-- the segments of what is left of a value, in parts of this length. fuel is at least the number of octets
abbrev pub segments : ℕ → ℕ → Bool → List ℕ → List CoeMail
segments zero part toggle rest = []
segments (suc fuel) part toggle rest =
    if nat_le (length rest) part then mail (Segment toggle true (record { items = rest })) ∷ []
    else mail (Segment toggle false (record { items = take part rest })) ∷ segments fuel part (not toggle) (drop part rest)

-- behind the first part of a download: nothing where that was all
abbrev pub behind_first : ℕ → List ℕ → List CoeMail
behind_first room bytes =
    if nat_le (length bytes) (room - 16) then []
    else segments (length bytes) (room - 9) false (drop (room - 16) bytes)

-- a download: expedited where the value has 1 to 4 octets, else its first part with the complete size, and the segments
abbrev pub download_mails : ℕ → Target → List ℕ → List CoeMail
download_mails room t bytes =
    if is_expedited bytes then mail (Expedited t.index t.sub t.all (record { items = bytes })) ∷ []
    else mail (First t.index t.sub t.all (length bytes) (record { items = take (room - 16) bytes })) ∷ behind_first room bytes

-- requests for so many segments
abbrev pub requests : ℕ → Bool → List CoeMail
requests zero toggle = []
requests (suc n) toggle = mail (UploadSegment toggle) ∷ requests n (not toggle)

-- the request of an information service
abbrev pub information_mail : Ask → CoeMail
information_mail (list kind) = mail (ListRequest kind)
information_mail (object index) = mail (ObjectRequest index)
information_mail (entry index sub info) = mail (EntryRequest index sub info)

-- the mails that the client of a service has, with so many requests for segments
abbrev pub mails_of : ℕ → Service → ℕ → List CoeMail
mails_of room (download t bytes) n = download_mails room t bytes
mails_of room (upload t) n = mail (Upload t.index t.sub t.all) ∷ requests n false
mails_of room (information a) n = information_mail a ∷ []

-- what an answer makes the client do: send its next mail while more is wanted, and wait behind a part of an information answer
abbrev pub turn_of : Coe → Option Turn
turn_of (DownloadAnswer index sub) = Some next
turn_of (SegmentAnswer toggle) = Some next
turn_of (FirstAnswer index sub size bytes) = if nat_lt (length bytes.items) size then Some next else Some stop
turn_of (UploadSegmentAnswer toggle last bytes) = if last then Some stop else Some next
turn_of (Information opcode incomplete left bytes) = None
turn_of _ = Some stop

-- what the client does behind its mail, by the first answer alone
abbrev pub decide : CoeMail → List CoeMail → Option Turn
decide m [] = None
decide m (mail c ∷ seen) = turn_of c
decide m (_ ∷ seen) = Some stop

-- an abort or a mailbox error in the place of an SDO answer
abbrev pub sdo_refused : CoeMail → List CoeMail → Option Reply
sdo_refused (mail (Abort index sub code)) ms = at_end ms (ReplyKind.Abort code, [])
sdo_refused (failed detail) ms = at_end ms (ReplyKind.MailboxError detail, [])
sdo_refused _ ms = None

-- an error answer or a mailbox error in the place of an information answer
abbrev pub information_refused : CoeMail → List CoeMail → Option Reply
information_refused (mail (InformationError code)) ms = at_end ms (ReplyKind.Abort code, [])
information_refused (failed detail) ms = at_end ms (ReplyKind.MailboxError detail, [])
information_refused _ ms = None

-- whether an answer names the entry that was asked for
abbrev pub is_of : Target → ℕ → ℕ → Bool
is_of t index sub = index == t.index && sub == t.sub

-- whether a mail answers the segment of this toggle
abbrev pub is_segment_answer : Bool → CoeMail → Bool
is_segment_answer toggle (mail (SegmentAnswer other)) = same toggle other
is_segment_answer toggle _ = false

-- so many segment answers, the first with this toggle
abbrev pub segments_end : ℕ → Bool → List CoeMail → Option Reply
segments_end zero toggle ms = at_end ms (ReplyKind.Done, [])
segments_end (suc n) toggle [] = None
segments_end (suc n) toggle (m ∷ ms) = if is_segment_answer toggle m then segments_end n (not toggle) ms else sdo_refused m ms

-- whether a mail accepts the download
abbrev pub is_download_answer : Target → CoeMail → Bool
is_download_answer t (mail (DownloadAnswer index sub)) = is_of t index sub
is_download_answer t _ = false

-- a download answer and as many segment answers as the download has segments
abbrev pub download_ends : ℕ → Target → List ℕ → List CoeMail → Option Reply
download_ends room t bytes [] = None
download_ends room t bytes (m ∷ ms) =
    if is_download_answer t m then segments_end (parts_of (room - 9) (length bytes - (room - 16))) false ms else sdo_refused m ms

-- the most octets that a value may have
abbrev pub most : ℕ
most = 16384

-- whether a mail brings the segment of this toggle
abbrev pub is_part : Bool → CoeMail → Bool
is_part toggle (mail (UploadSegmentAnswer other last bytes)) = same toggle other
is_part toggle _ = false

-- whether a segment says that it is the last
abbrev pub is_last : CoeMail → Bool
is_last (mail (UploadSegmentAnswer other last bytes)) = last
is_last _ = false

-- the octets of a value that a mail brings
abbrev pub octets_of : CoeMail → List ℕ
octets_of (mail (UploadSegmentAnswer toggle last bytes)) = bytes.items
octets_of (mail (Information opcode incomplete left bytes)) = bytes.items
octets_of _ = []

-- a value whose last octets have come, and just as many as it should have
abbrev pub whole_value : ℕ → List ℕ → List CoeMail → Option Reply
whole_value size got ms = if length got == size then at_end ms (ReplyKind.Value, got) else None

-- the parts of an uploaded value of this size, behind those that came: up to the last, and never more octets than the size
abbrev pub parts_end : ℕ → List ℕ → Bool → List CoeMail → Option Reply
parts_end size got toggle [] = None
parts_end size got toggle (m ∷ ms) =
    if not (is_part toggle m) then sdo_refused m ms
    else if nat_lt size (length (got ++ octets_of m)) then None
    else if is_last m then whole_value size (got ++ octets_of m) ms
    else parts_end size (got ++ octets_of m) (not toggle) ms

-- the first part with its size: the whole value, or one with parts behind it
abbrev pub first_ends : ℕ → List ℕ → List CoeMail → Option Reply
first_ends size got ms =
    if nat_lt most size || nat_lt size (length got) then None
    else if length got == size then at_end ms (ReplyKind.Value, got)
    else parts_end size got false ms

-- the answer to an initiate upload: a whole value, a first part, or a refusal
abbrev pub value_begins : Target → CoeMail → List CoeMail → Option Reply
value_begins t (mail (ExpeditedAnswer index sub bytes)) ms = if is_of t index sub then at_end ms (ReplyKind.Value, bytes.items) else None
value_begins t (mail (FirstAnswer index sub size bytes)) ms = if is_of t index sub then first_ends size bytes.items ms else None
value_begins t m ms = sdo_refused m ms

-- the reply of an upload, from its first answer on
abbrev pub upload_ends : Target → List CoeMail → Option Reply
upload_ends t [] = None
upload_ends t (m ∷ ms) = value_begins t m ms

-- whether a mail is an information answer of this opcode
abbrev pub is_information : ℕ → CoeMail → Bool
is_information opcode (mail (Information other incomplete left bytes)) = other == opcode
is_information opcode _ = false

-- whether an information answer says that more parts follow
abbrev pub is_incomplete : CoeMail → Bool
is_incomplete (mail (Information opcode incomplete left bytes)) = incomplete
is_incomplete _ = false

-- the parts of an information answer, behind those that came, up to the first without the incomplete bit
abbrev pub information_ends : ℕ → List ℕ → List CoeMail → Option Reply
information_ends opcode got [] = None
information_ends opcode got (m ∷ ms) =
    if not (is_information opcode m) then information_refused m ms
    else if nat_lt most (length (got ++ octets_of m)) then None
    else if is_incomplete m then information_ends opcode (got ++ octets_of m) ms
    else at_end ms (ReplyKind.Value, got ++ octets_of m)

-- the reply of a service, where these mails are its complete reply side; room is the length of the mailbox for requests
abbrev pub ends : ℕ → Service → List CoeMail → Option Reply
ends room (download t bytes) ms = download_ends room t bytes ms
ends room (upload t) ms = upload_ends t ms
ends room (information a) ms = information_ends (answer_opcode a) [] ms
