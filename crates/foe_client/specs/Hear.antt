-- What a client makes of one mail, state by state.
use Rattle.std.specs.Prelude.{◌≡◌, ℕ, ◌+◌, ◌-◌, ◌<◌, ◌==◌, nat_lt, true, false, List, [], ◌∷◌, ◌++◌, length, if◌then◌else◌, None, Some}
use Rattle.protocol_models.specs.of_mailbox_mail.declared.outcome.ReplyKind.{ReplyKind}
use Rattle.protocol_models.specs.of_mailbox_mail.declared.outcome.Took.{Took}
use Rattle.protocol_models.specs.FoeMails.{Foe, Data, Ack, Error, Busy, FoeMail, mail, failed}
use Rattle.protocol_models.specs.FoeServer.{is_last}
use Rattle.protocol_models.specs.FoeClient.{most}
use Rattle.foe_client.specs.declared.state.Unsent.{Unsent}
use Rattle.foe_client.specs.declared.state.Awaits.{Awaits}
use Rattle.foe_client.specs.Talk.{Talking, areas_of, later, awaited, awaits_nothing}

-- what a mail was to the client, and the client behind it
abbrev pub Heard : Type 0
Heard = Took × Talking

-- none that the state awaits: the client is as before
abbrev pub foreign : Talking → Heard
foreign c = (Took.Foreign, c)

-- the greatest number of mails that may go
abbrev pub most_mails : ℕ
most_mails = 18446744073709551615

-- the number of mails that may go, behind an answer that lets one more go; it stands still at its type's end
abbrev pub onward : ℕ → ℕ
onward quota = if quota == most_mails then quota else quota + 1

-- the service is over with this reply and no value, and no mail may go any more
abbrev pub refused : Talking → ReplyKind → Heard
refused c kind = (Took.Done, record c { awaits = Awaits.Over kind; value = []; quota = 0 })

-- a packet of a file that is read: it is acknowledged, and of the last one nothing but its acknowledgement is left
abbrev pub hear_data : Talking → Awaits → ℕ → List ℕ → Heard
hear_data c (Awaits.Packet number) packet bytes =
    if packet == number then
    (if nat_lt most (length (c.value ++ bytes)) then foreign c
    else if is_last c.back bytes then (Took.Done, record c { awaits = Awaits.Over ReplyKind.Value; value = c.value ++ bytes; unsent = Unsent.Ack packet; quota = 1 })
    else (Took.More, record c { awaits = Awaits.Packet (number + 1); value = c.value ++ bytes; quota = c.quota + 1 }))
    else foreign c
hear_data c _ packet bytes = foreign c

-- an acknowledgement of a packet that was written
abbrev pub hear_ack : Talking → Awaits → ℕ → Heard
hear_ack c (Awaits.Ack left number) packet =
    if packet == number then
    (if left == 0 then (Took.Done, record c { awaits = Awaits.Over ReplyKind.Done; quota = 0 })
    else (Took.More, record c { awaits = Awaits.Ack (left - 1) (number + 1); quota = onward c.quota }))
    else foreign c
hear_ack c _ packet = foreign c

-- a busy answer, which comes before the last acknowledgement alone
abbrev pub hear_busy : Talking → Awaits → Heard
hear_busy c (Awaits.Ack left number) = if left == 0 then (Took.More, record c { quota = onward c.quota }) else foreign c
hear_busy c _ = foreign c

-- an FoE error or a mailbox error in the place of an answer
abbrev pub hear_refusal : Talking → Awaits → ReplyKind → Heard
hear_refusal c Awaits.Nothing kind = foreign c
hear_refusal c (Awaits.Over other) kind = foreign c
hear_refusal c _ kind = refused c kind

-- a message, by what is awaited
abbrev pub hear_message : Talking → Foe → Heard
hear_message c (Data packet bytes) = hear_data c c.awaits packet bytes.items
hear_message c (Ack packet) = hear_ack c c.awaits packet
hear_message c (Busy done entire) = hear_busy c c.awaits
hear_message c (Error code) = hear_refusal c c.awaits (ReplyKind.FoeError code)
hear_message c _ = foreign c

-- any mail
abbrev pub hear_mail : Talking → FoeMail → Heard
hear_mail c (mail message) = hear_message c message
hear_mail c (failed detail) = hear_refusal c c.awaits (ReplyKind.MailboxError detail)
hear_mail c _ = foreign c

-- the client goes on behind a mail as it would have with that mail ahead of the others; its mails that may go are counted to 2 ^ 64 - 1
pub record GoesOn (old : Talking) (m : FoeMail) (new : Talking) : Type 0 where
  pub replies : (ms : List FoeMail) → awaited new ms ≡ awaited old (m ∷ ms)
  pub mails : old.quota < most_mails → (hs : List FoeMail) → later new hs ≡ later old (m ∷ hs)
  pub areas : areas_of new ≡ areas_of old

-- the mails that are left behind the end of a service: the acknowledgement of a file's last packet, and no other
abbrev pub left_behind : FoeMail → List FoeMail
left_behind (mail (Data packet bytes)) = mail (Ack packet) ∷ []
left_behind _ = []

-- the service is over. Where no mail was left, the client goes on as it would have with that mail ahead of the others; mails that were left are
-- dropped
pub record Ends (old : Talking) (m : FoeMail) (new : Talking) : Type 0 where
  pub over : awaits_nothing new.awaits ≡ true
  pub replies : (ms : List FoeMail) → awaited new ms ≡ awaited old (m ∷ ms)
  pub mails : later old [] ≡ [] → (hs : List FoeMail) → later new hs ≡ later old (m ∷ hs)
  pub left : later new [] ≡ left_behind m
  pub areas : areas_of new ≡ areas_of old

-- the reply isn't complete yet, and may still be completed
pub record IsOpen (c : Talking) : Type 0 where
  pub over : awaits_nothing c.awaits ≡ false
  pub yet : awaited c [] ≡ None
  pub open_to : (detail : ℕ) → awaited c (failed detail ∷ []) ≡ Some (ReplyKind.MailboxError detail, [])

-- WHAT A MAIL IS TO A CLIENT. The reply may be completed by further mails; or it is complete, and no mail is left but the last acknowledgement of
-- a file that was read; or the mail is the beginning of no reply side, behind the mails that were taken
abbrev pub TookIs : Took → Talking → FoeMail → Talking → Type 0
TookIs Took.More old m new = GoesOn old m new × IsOpen new
TookIs Took.Done old m new = Ends old m new
TookIs Took.Foreign old m new = ((ms : List FoeMail) → awaited old (m ∷ ms) ≡ None) × (new ≡ old)
