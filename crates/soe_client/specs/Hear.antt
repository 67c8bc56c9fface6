-- What a client makes of one mail, state by state.
use Rattle.std.specs.Prelude.{◌≡◌, ℕ, not, nat_lt, true, false, List, [], ◌∷◌, ◌++◌, length, if◌then◌else◌, None, Some}
use Rattle.soe_parts.specs.of_ec_fields.Fields.{number_at}
use Rattle.soe_parts.specs.of_mailbox_mail.declared.outcome.ReplyKind.{ReplyKind}
use Rattle.soe_parts.specs.of_mailbox_mail.declared.outcome.Took.{Took}
use Rattle.soe_parts.specs.of_protocol_models.SoeMails.{Soe, SoeMail, mail, failed}
use Rattle.soe_parts.specs.of_protocol_models.SoeServer.{most}
use Rattle.soe_parts.specs.of_protocol_models.SoeClient.{is_refusal, is_part, is_written}
use Rattle.soe_client.specs.declared.state.Unsent.{Unsent}
use Rattle.soe_client.specs.declared.state.Awaits.{Awaits}
use Rattle.soe_client.specs.Talk.{Talking, about, left, awaited, awaits_nothing}

-- what a mail was to the client, and the client behind it
abbrev pub Heard : Type 0
Heard = Took × Talking

-- none that the state awaits: the client is as before
abbrev pub foreign : Talking → Heard
foreign c = (Took.Foreign, c)

-- the service is over with this reply and no value
abbrev pub closed : Talking → ReplyKind → Heard
closed c kind = (Took.Done, record c { awaits = Awaits.Over kind; value = []; unsent = Unsent.Nothing })

-- it is over with the value whose last octets these are
abbrev pub valued : Talking → List ℕ → Heard
valued c bytes = (Took.Done, record c { awaits = Awaits.Over ReplyKind.Value; value = c.value ++ bytes; unsent = Unsent.Nothing })

-- a message in the place of an answer of this opcode
abbrev pub hear_refusal : Talking → ℕ → Soe → Heard
hear_refusal c opcode s =
    if is_refusal opcode (about c.task) s then closed c (ReplyKind.SoeError (number_at 2 s.bytes.items 0)) else foreign c

-- a message while parts of an element are awaited
abbrev pub hear_part : Talking → Soe → Heard
hear_part c s =
    if not (is_part (about c.task) (mail s)) then hear_refusal c 2 s
    else if nat_lt most (length (c.value ++ s.bytes.items)) then foreign c
    else if s.incomplete then (Took.More, record c { value = c.value ++ s.bytes.items })
    else valued c s.bytes.items

-- a message while the answer to a write is awaited
abbrev pub hear_answer : Talking → Soe → Heard
hear_answer c s = if is_written (about c.task) (mail s) then closed c ReplyKind.Done else hear_refusal c 4 s

-- a message, by what is awaited
abbrev pub hear_message : Talking → Awaits → Soe → Heard
hear_message c Awaits.Parts s = hear_part c s
hear_message c Awaits.Answer s = hear_answer c s
hear_message c _ s = foreign c

-- a mailbox error in the place of any answer
abbrev pub hear_failed : Talking → Awaits → ℕ → Heard
hear_failed c Awaits.Parts detail = closed c (ReplyKind.MailboxError detail)
hear_failed c Awaits.Answer detail = closed c (ReplyKind.MailboxError detail)
hear_failed c _ detail = foreign c

-- any mail
abbrev pub hear_mail : Talking → SoeMail → Heard
hear_mail c (mail s) = hear_message c c.awaits s
hear_mail c (failed detail) = hear_failed c c.awaits detail
hear_mail c _ = foreign c

-- the client awaits behind a mail what it would have awaited with that mail ahead of the others
pub record Follows (old : Talking) (m : SoeMail) (new : Talking) : Type 0 where
  pub replies : (ms : List SoeMail) → awaited new ms ≡ awaited old (m ∷ ms)
  pub room : new.room ≡ old.room

-- the reply isn't complete yet, and may still be completed
pub record IsOpen (c : Talking) : Type 0 where
  pub over : awaits_nothing c.awaits ≡ false
  pub yet : awaited c [] ≡ None
  pub open_to : (detail : ℕ) → awaited c (failed detail ∷ []) ≡ Some (ReplyKind.MailboxError detail, [])

-- WHAT A MAIL IS TO A CLIENT. The reply may be completed by further mails, and the mails left to send stay; it is complete, and no mail is
-- left; or the mail is the beginning of no reply side, behind the mails that were taken
abbrev pub TookIs : Took → Talking → SoeMail → Talking → Type 0
TookIs Took.More old m new = Follows old m new × IsOpen new × (left new ≡ left old)
TookIs Took.Done old m new = Follows old m new × (awaits_nothing new.awaits ≡ true) × (left new ≡ [])
TookIs Took.Foreign old m new = ((ms : List SoeMail) → awaited old (m ∷ ms) ≡ None) × (new ≡ old)
