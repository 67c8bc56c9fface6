-- What a client of address services makes of one mail.
use Rattle.std.specs.Prelude.{◌≡◌, ℕ, ◌==◌, true, List, [], ◌∷◌, if◌then◌else◌, None}
use Rattle.protocol_models.specs.of_mailbox_mail.declared.outcome.ReplyKind.{ReplyKind}
use Rattle.protocol_models.specs.of_mailbox_mail.declared.outcome.Took.{Took}
use Rattle.protocol_models.specs.EoeMails.{Eoe, SetIpAnswer, GetIpAnswer, EoeMail, mail, failed}
use Rattle.eoe_client.specs.declared.address.Awaits.{Awaits}
use Rattle.eoe_client.specs.Talk.{Talking, left, awaited, awaits_nothing}

-- what a mail was to the client, and the client behind it
abbrev pub Heard : Type 0
Heard = Took × Talking

-- none that the state awaits: the client is as before
abbrev pub foreign : Talking → Heard
foreign c = (Took.Foreign, c)

-- the service is over with this reply
abbrev pub closed : Talking → ReplyKind → List ℕ → Heard
closed c kind value = (Took.Done, record c { awaits = Awaits.Over kind; value = value })

-- an answer with this result, by what is awaited: 0 is success
abbrev pub hear_set : Talking → Awaits → ℕ → Heard
hear_set c Awaits.SetAnswer code = if code == 0 then closed c ReplyKind.Done [] else closed c (ReplyKind.EoeResult code) []
hear_set c _ code = foreign c

-- the same with the address block that was asked for, which is the value
abbrev pub hear_get : Talking → Awaits → ℕ → List ℕ → Heard
hear_get c Awaits.GetAnswer code block = if code == 0 then closed c ReplyKind.Value block else closed c (ReplyKind.EoeResult code) []
hear_get c _ code block = foreign c

-- a mailbox error in the place of an answer
abbrev pub hear_failed : Talking → Awaits → ℕ → Heard
hear_failed c Awaits.SetAnswer detail = closed c (ReplyKind.MailboxError detail) []
hear_failed c Awaits.GetAnswer detail = closed c (ReplyKind.MailboxError detail) []
hear_failed c _ detail = foreign c

-- a message
abbrev pub hear_message : Talking → Eoe → Heard
hear_message c (SetIpAnswer code) = hear_set c c.awaits code
hear_message c (GetIpAnswer code block) = hear_get c c.awaits code block.items
hear_message c _ = foreign c

-- any mail
abbrev pub hear_mail : Talking → EoeMail → Heard
hear_mail c (mail message) = hear_message c message
hear_mail c (failed detail) = hear_failed c c.awaits detail
hear_mail c _ = foreign c

-- the client awaits behind a mail what it would have awaited with that mail ahead of the others; what it has left to send stays
pub record Follows (old : Talking) (m : EoeMail) (new : Talking) : Type 0 where
  pub replies : (ms : List EoeMail) → awaited new ms ≡ awaited old (m ∷ ms)
  pub mails : left new ≡ left old
  pub room : new.room ≡ old.room

-- WHAT A MAIL IS TO A CLIENT: it completes the reply, or it is the beginning of no reply side
abbrev pub TookIs : Took → Talking → EoeMail → Talking → Type 0
TookIs Took.More old m new = ⊥
TookIs Took.Done old m new = Follows old m new × (awaits_nothing new.awaits ≡ true)
TookIs Took.Foreign old m new = ((ms : List EoeMail) → awaited old (m ∷ ms) ≡ None) × (new ≡ old)
