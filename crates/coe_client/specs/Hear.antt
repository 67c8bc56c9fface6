-- What a client makes of one mail, state by state.
use Rattle.std.specs.Prelude.{◌≡◌, ℕ, ◌+◌, ◌-◌, ◌==◌, ◌||◌, not, nat_lt, Bool, true, false, List, [], ◌∷◌, ◌++◌, length, if◌then◌else◌, None, Some}
use Rattle.protocol_models.specs.of_mailbox_mail.declared.outcome.ReplyKind.{ReplyKind}
use Rattle.protocol_models.specs.of_mailbox_mail.declared.outcome.Took.{Took}
use Rattle.protocol_models.specs.CoeMails.{Coe, DownloadAnswer, SegmentAnswer, ExpeditedAnswer, FirstAnswer, UploadSegmentAnswer, Information, InformationError, Abort, CoeMail, mail, failed}
use Rattle.protocol_models.specs.CoeServer.{same, parts_of}
use Rattle.protocol_models.specs.CoeClient.{is_of, most}
use Rattle.coe_client.specs.declared.state.Awaits.{Awaits}
use Rattle.coe_client.specs.declared.state.Unsent.{Unsent}
use Rattle.coe_client.specs.Talk.{Talking, target_of, later, awaited, is_replied}

-- what a mail is to the client, and the client behind it
abbrev pub Heard : Type 0
Heard = Took × Talking

-- none that the state awaits: the client is as before
abbrev pub foreign : Talking → Heard
foreign c = (Took.Foreign, c)

-- the number of mails that may go, behind an answer that lets one more go
abbrev pub onward : Talking → ℕ
onward c = if c.going then c.quota + 1 else c.quota

-- the service is over with this reply and no value; nothing of it is sent any more
abbrev pub refused : Talking → ReplyKind → Heard
refused c kind = (Took.Done, record c { unsent = Unsent.Nothing; awaits = Awaits.Over kind; value = []; going = false })

-- it is over with the value whose last octets these are
abbrev pub valued : Talking → List ℕ → Heard
valued c bytes = (Took.Done, record c { unsent = Unsent.Nothing; awaits = Awaits.Over ReplyKind.Value; value = c.value ++ bytes; going = false })

-- a download goes on, with so many segments that are not yet answered
abbrev pub answered : Talking → ℕ → Bool → Heard
answered c left toggle =
    if left == 0 then (Took.Done, record c { unsent = Unsent.Nothing; awaits = Awaits.Over ReplyKind.Done; quota = onward c })
    else (Took.More, record c { awaits = Awaits.SegmentAnswers left toggle; quota = onward c })

-- the parts of a value go on
abbrev pub parted : Talking → ℕ → Bool → List ℕ → Heard
parted c size toggle bytes = (Took.More, record c { awaits = Awaits.Parts size toggle; value = c.value ++ bytes; quota = onward c })

-- a download answer: it accepts the download of its entry
abbrev pub hear_acceptance : Talking → Awaits → ℕ → ℕ → Heard
hear_acceptance c Awaits.Acceptance index sub =
    if is_of (target_of c.task) index sub then answered c (parts_of (c.room - 9) (length c.bytes - (c.room - 16))) false else foreign c
hear_acceptance c _ index sub = foreign c

-- a segment answer, if it has the toggle that is expected
abbrev pub hear_segment : Talking → Awaits → Bool → Heard
hear_segment c (Awaits.SegmentAnswers left toggle) other = if same toggle other then answered c (left - 1) (not toggle) else foreign c
hear_segment c _ other = foreign c

-- a value of 1 to 4 octets
abbrev pub hear_whole : Talking → Awaits → ℕ → ℕ → List ℕ → Heard
hear_whole c Awaits.FirstAnswer index sub bytes = if is_of (target_of c.task) index sub then valued c bytes else foreign c
hear_whole c _ index sub bytes = foreign c

-- the first part of a value, with its size
abbrev pub hear_first : Talking → Awaits → ℕ → ℕ → ℕ → List ℕ → Heard
hear_first c Awaits.FirstAnswer index sub size bytes =
    if not (is_of (target_of c.task) index sub) then foreign c
    else if nat_lt most size || nat_lt size (length bytes) then foreign c
    else if length bytes == size then valued c bytes
    else parted c size false bytes
hear_first c _ index sub size bytes = foreign c

-- a further part: never above the size, and with the last one just as many octets
abbrev pub hear_part : Talking → Awaits → Bool → Bool → List ℕ → Heard
hear_part c (Awaits.Parts size toggle) other last bytes =
    if not (same toggle other) then foreign c
    else if nat_lt size (length (c.value ++ bytes)) then foreign c
    else if last then (if length (c.value ++ bytes) == size then valued c bytes else foreign c)
    else parted c size (not toggle) bytes
hear_part c _ other last bytes = foreign c

-- a part of an information answer, up to the first without the incomplete bit
abbrev pub hear_information : Talking → Awaits → ℕ → Bool → List ℕ → Heard
hear_information c (Awaits.Information opcode) other incomplete bytes =
    if not (other == opcode) then foreign c
    else if nat_lt most (length (c.value ++ bytes)) then foreign c
    else if incomplete then (Took.More, record c { value = c.value ++ bytes; going = false })
    else valued c bytes
hear_information c _ other incomplete bytes = foreign c

-- an abort in the place of an SDO answer
abbrev pub hear_abort : Talking → Awaits → ℕ → Heard
hear_abort c Awaits.Acceptance code = refused c (ReplyKind.Abort code)
hear_abort c (Awaits.SegmentAnswers left toggle) code = refused c (ReplyKind.Abort code)
hear_abort c Awaits.FirstAnswer code = refused c (ReplyKind.Abort code)
hear_abort c (Awaits.Parts size toggle) code = refused c (ReplyKind.Abort code)
hear_abort c _ code = foreign c

-- an error in the place of an information answer
abbrev pub hear_error : Talking → Awaits → ℕ → Heard
hear_error c (Awaits.Information opcode) code = refused c (ReplyKind.Abort code)
hear_error c _ code = foreign c

-- a mailbox error in the place of any answer
abbrev pub hear_failed : Talking → Awaits → ℕ → Heard
hear_failed c Awaits.Nothing detail = foreign c
hear_failed c (Awaits.Over kind) detail = foreign c
hear_failed c _ detail = refused c (ReplyKind.MailboxError detail)

-- any message
abbrev pub hear_message : Talking → Coe → Heard
hear_message c (DownloadAnswer index sub) = hear_acceptance c c.awaits index sub
hear_message c (SegmentAnswer toggle) = hear_segment c c.awaits toggle
hear_message c (ExpeditedAnswer index sub bytes) = hear_whole c c.awaits index sub bytes.items
hear_message c (FirstAnswer index sub size bytes) = hear_first c c.awaits index sub size bytes.items
hear_message c (UploadSegmentAnswer toggle last bytes) = hear_part c c.awaits toggle last bytes.items
hear_message c (Information opcode incomplete left bytes) = hear_information c c.awaits opcode incomplete bytes.items
hear_message c (Abort index sub code) = hear_abort c c.awaits code
hear_message c (InformationError code) = hear_error c c.awaits code
hear_message c _ = foreign c

-- any mail
abbrev pub hear_mail : Talking → CoeMail → Heard
hear_mail c (mail message) = hear_message c message
hear_mail c (failed detail) = hear_failed c c.awaits detail
hear_mail c _ = foreign c

-- the client goes on behind a mail as it would have with that mail ahead of the others
pub record GoesOn (old : Talking) (m : CoeMail) (new : Talking) : Type 0 where
  pub replies : (ms : List CoeMail) → awaited new ms ≡ awaited old (m ∷ ms)
  pub mails : (hs : List CoeMail) → later new hs ≡ later old (m ∷ hs)
  pub room : new.room ≡ old.room

-- the client is done behind a mail that completes its reply: nothing is left to send. Where nothing was left before it either, all mails that
-- the service has by then were sent
pub record Ends (old : Talking) (m : CoeMail) (new : Talking) : Type 0 where
  pub replies : (ms : List CoeMail) → awaited new ms ≡ awaited old (m ∷ ms)
  pub over : is_replied new.awaits ≡ true
  pub none : (hs : List CoeMail) → later new hs ≡ []
  pub mails : later old [] ≡ [] → (hs : List CoeMail) → later new hs ≡ later old (m ∷ hs)
  pub room : new.room ≡ old.room

-- the reply isn't complete yet, and may still be completed
pub record IsOpen (c : Talking) : Type 0 where
  pub over : is_replied c.awaits ≡ false
  pub yet : awaited c [] ≡ None
  pub open_to : (detail : ℕ) → awaited c (failed detail ∷ []) ≡ Some (ReplyKind.MailboxError detail, [])

-- WHAT A MAIL IS TO A CLIENT. A foreign one is the beginning of no reply side, behind the mails that were taken
abbrev pub TookIs : Took → Talking → CoeMail → Talking → Type 0
TookIs Took.More old m new = GoesOn old m new × IsOpen new
TookIs Took.Done old m new = Ends old m new
TookIs Took.Foreign old m new = ((ms : List CoeMail) → awaited old (m ∷ ms) ≡ None) × (new ≡ old)
