-- What a client sends next.
use Rattle.std.specs.Prelude.{◌≡◌, ℕ, ◌+◌, ◌-◌, ◌≤◌, ◌==◌, nat_le, Bool, true, false, not, List, [], ◌∷◌, length, take, drop, if◌then◌else◌, Option, None, Some}
use Rattle.protocol_models.specs.of_mailbox_mail.declared.mail.Kind.TheVariants.{CoE}
use Rattle.protocol_models.specs.of_coe_codec.View.{coe_seen}
use Rattle.protocol_models.specs.of_coe_codec.Writing.{HasSpelling, coe_text}
use Rattle.protocol_models.specs.of_coe_codec.declared.viewing.CoeView.{CoeView}
use Rattle.protocol_models.specs.CoeMails.{Coe, CoeMail, mail, Expedited, First, Upload, Segment, UploadSegment, ListRequest, ObjectRequest, EntryRequest}
use Rattle.protocol_models.specs.CoeServer.{is_expedited}
use Rattle.protocol_models.specs.CoeOctets.{body_heard, coe_mail_written, mail_with}
use Rattle.coe_client.specs.declared.state.Task.{Task}
use Rattle.coe_client.specs.declared.state.Unsent.{Unsent}
use Rattle.coe_client.specs.Talk.{Talking, later, awaited}

-- a message that goes, if one does, and the client behind it
abbrev pub Sent : Type 0
Sent = Option Coe × Talking

-- nothing: the client awaits an answer, or has no mail left
abbrev pub nothing : Talking → Sent
nothing c = (None, c)

-- a mail, and what is unsent behind it
abbrev pub sent : Talking → Coe → Unsent → Sent
sent c message unsent = (Some message, record c { unsent = unsent; quota = c.quota - 1 })

-- the first mail of a download: all of the value, or its first part
abbrev pub send_download : Talking → ℕ → ℕ → Bool → Sent
send_download c index sub all =
    if is_expedited c.bytes then sent c (Expedited index sub all (record { items = c.bytes })) Unsent.Nothing
    else if nat_le (length c.bytes) (c.room - 16)
    then sent c (First index sub all (length c.bytes) (record { items = c.bytes })) Unsent.Nothing
    else sent c (First index sub all (length c.bytes) (record { items = take (c.room - 16) c.bytes })) (Unsent.Segments (c.room - 16) false)

-- the first mail of what is asked
abbrev pub send_first : Talking → Task → Sent
send_first c Task.Nothing = nothing c
send_first c (Task.Download index sub all) = send_download c index sub all
send_first c (Task.Upload index sub all) = sent c (Upload index sub all) (Unsent.Requests false)
send_first c (Task.List kind) = sent c (ListRequest kind) Unsent.Nothing
send_first c (Task.Object index) = sent c (ObjectRequest index) Unsent.Nothing
send_first c (Task.Entry index sub info) = sent c (EntryRequest index sub info) Unsent.Nothing

-- the next segment of a download
abbrev pub send_segment : Talking → ℕ → Bool → Sent
send_segment c from toggle =
    if nat_le (length (drop from c.bytes)) (c.room - 9)
    then sent c (Segment toggle true (record { items = drop from c.bytes })) Unsent.Nothing
    else sent c (Segment toggle false (record { items = take (c.room - 9) (drop from c.bytes) })) (Unsent.Segments (from + (c.room - 9)) (not toggle))

-- the next of the mails that are not yet sent
abbrev pub send : Talking → Unsent → Sent
send c Unsent.Nothing = nothing c
send c Unsent.First = send_first c c.task
send c (Unsent.Segments from toggle) = send_segment c from toggle
send c (Unsent.Requests toggle) = sent c (UploadSegment toggle) (Unsent.Requests (not toggle))

-- the next mail, if one may go
abbrev pub send_next : Talking → Sent
send_next c = if c.quota == 0 then nothing c else send c c.unsent

-- what a message as it stands somewhere and the mails unsent behind it make of the client
abbrev pub sent_by : Talking → Option (CoeView × Unsent) → Sent
sent_by c None = nothing c
sent_by c (Some v) = sent c (coe_seen v.0) v.1

-- a message is the first of the mails that are left, has a spelling that fits, and leaves the reply as it is
abbrev pub NextIs : Option Coe → Talking → Talking → Type 0
NextIs None old new = (later old [] ≡ []) × (new ≡ old)
NextIs (Some message) old new =
    ((hs : List CoeMail) → later old hs ≡ mail message ∷ later new hs) × HasSpelling message × (length (coe_text message) + 6 ≤ old.room) × ((ms : List CoeMail) → awaited new ms ≡ awaited old ms) × (new.room ≡ old.room)

-- WHAT GOES OUT: the first of the mails that the client has left, in its one spelling, which reads as it
pub record SendsNext (old : Talking) (octets : List ℕ) (new : Talking) : Type 0 where
  pub next : CoeMail
  pub spelled : coe_mail_written next ≡ mail_with CoE octets
  pub read : body_heard octets ≡ next
  pub mails : (hs : List CoeMail) → later old hs ≡ next ∷ later new hs
  pub room : new.room ≡ old.room
