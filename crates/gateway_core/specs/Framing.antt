-- The datagrams of the gateway (ETG.8200).
use Rattle.std.specs.Prelude.{ℕ, ◌+◌, ◌-◌, ◌==◌, if◌then◌else◌, nat_lt, List, ◌++◌, length, take, drop, Result, Ok, Err}
use Rattle.byteorder.specs.Endian.{little_bytes}
use Rattle.mailbox_mail.specs.of_ec_fields.Fields.{number_at, bits_of}
use Rattle.mailbox_mail.specs.Mail.{mail_text, mail_read}
use Rattle.mailbox_mail.specs.View.{mail_seen}
use Rattle.mailbox_mail.specs.declared.mail.Mail.{Mail}
use Rattle.mailbox_mail.specs.declared.mail.MailFault.{MailFault}
use Rattle.mailbox_mail.specs.declared.mail.MailView.{MailView}
use Rattle.gateway_core.specs.declared.framing.GatewayFault.{GatewayFault}
use Rattle.gateway_core.specs.declared.framing.GatewayFault.TheVariants as faults

-- the type in the frame header, its bits 12 to 15
abbrev pub type_in : List ℕ → ℕ
type_in octets = bits_of (number_at 2 octets 0) 12 4

-- the length in the frame header, its bits 0 to 10
abbrev pub length_in : List ℕ → ℕ
length_in octets = bits_of (number_at 2 octets 0) 0 11

-- the octets of that length behind the frame header
abbrev pub octets_in : List ℕ → List ℕ
octets_in octets = take (length_in octets) (drop 2 octets)

-- the mail that was read, or the fault of the datagram
abbrev pub request_of : Result Mail MailFault → Result Mail GatewayFault
request_of (Ok mail) = Ok mail
request_of (Err fault) = Err faults.Mail

-- the mail of a datagram, or the first of its faults
abbrev pub request_in : List ℕ → Result Mail GatewayFault
request_in octets =
    if nat_lt (length octets) 8 then Err faults.Short
    else if type_in octets == 5
    then (if nat_lt (length octets - 2) (length_in octets) then Err faults.Length else request_of (mail_read (octets_in octets)))
    else Err faults.WrongType

-- the same, where the mail is seen as it stands there
abbrev pub request_seen : Result MailView GatewayFault → Result Mail GatewayFault
request_seen (Ok view) = Ok (mail_seen view)
request_seen (Err fault) = Err fault

-- the octets that a mail has
abbrev pub length_read : Result Mail GatewayFault → Result ℕ GatewayFault
length_read (Ok mail) = Ok (6 + length mail.body.items)
length_read (Err fault) = Err fault

-- the datagram of a mail: a frame header of type 5 with the mail's length, and the mail
abbrev pub gram_text : Mail → List ℕ
gram_text mail = little_bytes 2 (20480 + length (mail_text 0 0 mail)) ++ mail_text 0 0 mail
