-- The rules of the mailboxes, and how an open link goes on by its datagrams.
use Rattle.std.specs.Prelude.{ℕ, ◌/◌, ◌%◌, ◌==◌, Bool, true, false, not, ◌&&◌, ◌||◌, if◌then◌else◌, List, [], ◌∷◌, length, replicate, slice_index, Option, Some, None, Result, Ok, Err}
use Rattle.std.specs.Str.{bytes_eq}
use Rattle.capture_view.specs.of_mailbox_mail.declared.mail.Mail.{Mail}
use Rattle.capture_view.specs.of_mailbox_mail.declared.mail.MailFault.{MailFault}
use Rattle.capture_view.specs.of_mailbox_mail.Mail.{mail_read}
use Rattle.capture_view.specs.of_mailbox_mail.Counter.{counter_behind}
use Rattle.capture_audit.specs.declared.rule.Rule.{Rule}
use Rattle.capture_audit.specs.declared.rule.Rule.TheVariants.{NoMail, OtherMail, OtherAccess, BadReturn, NotOpen}
use Rattle.capture_audit.specs.declared.access.MailAccess.{MailAccess}
use Rattle.capture_audit.specs.declared.access.MailAccess.TheVariants.{WriteMail, ReadMail, WriteRequest, ReadAcknowledge}
use Rattle.capture_audit.specs.declared.link.Link.{Link}
use Rattle.capture_audit.specs.declared.link.Inward.{Inward}
use Rattle.capture_audit.specs.declared.link.Inward.TheVariants.{Clear, Doubt, Asked, Refetch}
use Rattle.capture_audit.specs.Exchanges.{Return, Sent}

-- the number of a rule: A1 to A5
abbrev pub number_of : Rule → ℕ
number_of NoMail = 1
number_of OtherMail = 2
number_of OtherAccess = 3
number_of BadReturn = 4
number_of NotOpen = 5

-- it returned with working counter 1
abbrev pub is_done : Option Return → Bool
is_done None = false
is_done (Some back) = back.counter == 1

-- a link that has just opened: no mail was sent or accepted, nothing is in doubt
abbrev pub new_link : ℕ → ℕ → Link
new_link out_len in_len =
    record { out_len = out_len; in_len = in_len; last_sent = 0; written = []; waits = false; last_accepted = 0; state = Clear; bit = false }

-- a mail goes on: as the write before, octet for octet, where that hasn't come back; else as a mail with the next counter
abbrev pub goes_on : Link → List ℕ → Mail → Bool
goes_on link body mail = if link.waits then bytes_eq body link.written else mail.counter == counter_behind link.last_sent

-- A1 and A2: what is written to mailbox 0
abbrev pub write_rule : Link → List ℕ → Result Mail MailFault → Option Rule
write_rule link body (Err fault) = Some NoMail
write_rule link body (Ok mail) =
    if not (length body == link.out_len) then Some NoMail
    else if not (goes_on link body mail) then Some OtherMail
    else None

-- what an inward half sends by its state: a read of mailbox 1 while nothing is in doubt; behind a lost read the repeat
-- request, then the read of its acknowledge, then the read of mailbox 1 again
abbrev pub access_awaited : Inward → MailAccess
access_awaited Clear = ReadMail
access_awaited Doubt = WriteRequest
access_awaited Asked = ReadAcknowledge
access_awaited Refetch = ReadMail

-- what a repeat request writes: bit 0 enables the manager, bit 1 is the request
abbrev pub request_octet : Bool → ℕ
request_octet bit = if bit then 3 else 1

-- its octets: reads are blank; a request has the half's bit
abbrev pub octets_awaited : Link → Inward → List ℕ
octets_awaited link Clear = replicate link.in_len 0
octets_awaited link Doubt = request_octet link.bit ∷ []
octets_awaited link Asked = 0 ∷ []
octets_awaited link Refetch = replicate link.in_len 0

-- the same access
abbrev pub same_access : MailAccess → MailAccess → Bool
same_access WriteMail WriteMail = true
same_access ReadMail ReadMail = true
same_access WriteRequest WriteRequest = true
same_access ReadAcknowledge ReadAcknowledge = true
same_access _ _ = false

-- A3: a datagram of the inward half
abbrev pub inward_rule : Link → MailAccess → List ℕ → Option Rule
inward_rule link access body =
    if same_access access (access_awaited link.state) && bytes_eq body (octets_awaited link link.state) then None else Some OtherAccess

-- A1 to A3: what was sent
abbrev pub sent_rule : Link → MailAccess → List ℕ → Option Rule
sent_rule link WriteMail body = write_rule link body (mail_read body)
sent_rule link access body = inward_rule link access body

-- a mail that was read is due: the last accepted one once more, or the next one; counter 0 is none
abbrev pub is_due : Link → Result Mail MailFault → Bool
is_due link (Err fault) = false
is_due link (Ok mail) = not (mail.counter == 0) && (mail.counter == link.last_accepted || mail.counter == counter_behind link.last_accepted)

-- what a read brought is due; the other accesses bring no mail
abbrev pub brings_due : Link → MailAccess → List ℕ → Bool
brings_due link ReadMail body = is_due link (mail_read body)
brings_due link access body = true

-- A4: what returned
abbrev pub return_rule : Link → MailAccess → Option Return → Option Rule
return_rule link access None = None
return_rule link access (Some back) =
    if back.counter == 0 then None
    else if back.counter == 1 && brings_due link access back.body then None
    else Some BadReturn

-- the first of two that applies
abbrev pub first_rule : Option Rule → Option Rule → Option Rule
first_rule (Some rule) other = Some rule
first_rule None other = other

-- the first rule that an access of a mailbox breaks whose link is open
abbrev pub link_rule : Link → MailAccess → Sent → Option Rule
link_rule link access sent = first_rule (sent_rule link access sent.body) (return_rule link access sent.back)

-- the mail is written, and waits until that has returned with working counter 1; a repeated write changes nothing else
abbrev pub write_on : Link → Sent → Result Mail MailFault → Link
write_on link sent (Err fault) = link
write_on link sent (Ok mail) =
    if link.waits then record link { waits = not (is_done sent.back) }
    else record link { last_sent = mail.counter; written = sent.body; waits = not (is_done sent.back) }

-- a read brought this
abbrev pub accept_on : Link → Result Mail MailFault → Link
accept_on link (Err fault) = record link { state = Clear }
accept_on link (Ok mail) = record link { state = Clear; last_accepted = mail.counter }

-- mailbox 1 is read: where that is lost, the repeat request is inverted and in doubt
abbrev pub read_on : Link → Option Return → Link
read_on link None = record link { state = Doubt; bit = not link.bit }
read_on link (Some back) = if back.counter == 0 then record link { state = Clear } else accept_on link (mail_read back.body)

-- the repeat request is written
abbrev pub request_on : Link → Option Return → Link
request_on link None = link
request_on link (Some back) = if back.counter == 0 then link else record link { state = Asked }

-- bit 1 of an octet: the repeat acknowledge in the PDI control
abbrev pub bit_1 : ℕ → Bool
bit_1 octet = octet / 2 % 2 == 1

-- two bits are equal
abbrev pub same_bit : Bool → Bool → Bool
same_bit a b = if a then b else not b

-- the acknowledge is read
abbrev pub acknowledge_on : Link → Option Return → Link
acknowledge_on link None = link
acknowledge_on link (Some back) =
    if back.counter == 0 then link
    else if same_bit (bit_1 (slice_index back.body 0)) link.bit then record link { state = Refetch }
    else link

-- the link behind an access that breaks no rule
abbrev pub link_on : Link → MailAccess → Sent → Link
link_on link WriteMail sent = write_on link sent (mail_read sent.body)
link_on link ReadMail sent = read_on link sent.back
link_on link WriteRequest sent = request_on link sent.back
link_on link ReadAcknowledge sent = acknowledge_on link sent.back

-- the new mail of a write
abbrev pub mail_written : Link → Result Mail MailFault → List Mail
mail_written link (Err fault) = []
mail_written link (Ok mail) = if link.waits then [] else mail ∷ []

-- the mails sent by an access
abbrev pub mails_sent : Link → MailAccess → Sent → List Mail
mails_sent link WriteMail sent = mail_written link (mail_read sent.body)
mails_sent link access sent = []

-- the new mail of a read
abbrev pub mail_new : Link → Result Mail MailFault → List Mail
mail_new link (Err fault) = []
mail_new link (Ok mail) = if mail.counter == link.last_accepted then [] else mail ∷ []

-- the mail that a read brought
abbrev pub mail_back : Link → Option Return → List Mail
mail_back link None = []
mail_back link (Some back) = if back.counter == 0 then [] else mail_new link (mail_read back.body)

-- the mails accepted by an access
abbrev pub mails_accepted : Link → MailAccess → Sent → List Mail
mails_accepted link ReadMail sent = mail_back link sent.back
mails_accepted link access sent = []
