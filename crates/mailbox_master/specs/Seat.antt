-- Halves that are kept in a place of their own, and what they read without a copy.
use Rattle.std.specs.Prelude.{◌≡◌, Ok, ℕ, Option, Some, None, option_map, List, length, replicate, ◌≤◌, ⊤}
use Rattle.link_mails.specs.of_mailbox_mail.declared.mail.Kind.{Kind}
use Rattle.link_mails.specs.of_mailbox_mail.declared.mail.Mail.{Mail}
use Rattle.link_mails.specs.of_mailbox_mail.Area.{mail_area}
use Rattle.link_mails.specs.of_mailbox_mail.Mail.{mail_read}
use Rattle.link_mails.specs.of_mailbox_mail.View.{mail_seen}
use Rattle.link_mails.specs.of_link_model.Master.{OutHalf}
use Rattle.link_mails.specs.Body.{Body, link_mail}
use Rattle.mailbox_master.specs.Links.{OutLink}
use Rattle.mailbox_master.specs.declared.inward.Got.{Got}
use Rattle.mailbox_master.specs.declared.inward.Got.TheVariants.{Mail as GotMail, Repeat as GotRepeat, Empty as GotEmpty, Bad as GotBad}
use Rattle.mailbox_master.specs.declared.seat.GotView.{GotView}
use Rattle.mailbox_master.specs.declared.seat.GotView.TheVariants.{Mail as SeenMail, Repeat as SeenRepeat, Empty as SeenEmpty, Bad as SeenBad}

-- the outward half of a seat, which holds a mail or none
abbrev pub seat_half : OutLink (Option Mail) → OutHalf Body
seat_half o = record { last = o.last; holding = option_map link_mail o.state }

-- a mail not yet counted, of its parts
abbrev pub mail_by : ℕ → Kind → List ℕ → Mail
mail_by address kind octets = record { address = address; kind = kind; counter = 0; body = record { items = octets } }

-- the octets of mailbox 0 with a mail, or with none
abbrev pub text_of : ℕ → Option Mail → List ℕ
text_of len (Some m) = mail_area len m
text_of len None = replicate len 0

-- the body of the datagram that writes the mail held, zeros where there is none
abbrev pub seat_octets : OutLink (Option Mail) → List ℕ
seat_octets o = text_of o.len o.state

-- what a read gave, by what stands in the area
abbrev pub got_seen : GotView → Got
got_seen (SeenMail v) = GotMail (mail_seen v)
got_seen SeenRepeat = GotRepeat
got_seen SeenEmpty = GotEmpty
got_seen (SeenBad fault) = GotBad fault

-- a mail that was got has at most 1,480 octets
abbrev pub IsWithin : GotView → Type 0
IsWithin (SeenMail v) = length v.body.now ≤ 1480
IsWithin SeenRepeat = ⊤
IsWithin SeenEmpty = ⊤
IsWithin (SeenBad fault) = ⊤

-- an area of this many octets that is written with a mail reads as it
abbrev pub ReadsAs : ℕ → Mail → Type 0
ReadsAs len m = (mail_read (mail_area len m) ≡ Ok m) × (length (mail_area len m) ≡ len)
