-- The mails of SoE as octets: what a mailbox mail reads as, and what a mail is written as.
use Rattle.std.specs.Prelude.{ℕ, ◌==◌, if◌then◌else◌, Bool, List, [], Result, Ok, Err}
use Rattle.coe_codec.specs.of_ec_fields.Fields.{number_at, bits_of}
pub use Rattle.mailbox_mail.specs.Bodies.{is_error, mail_with}
use Rattle.mailbox_mail.specs.Mail.{error_of}
use Rattle.mailbox_mail.specs.declared.mail.Mail.{Mail}
use Rattle.mailbox_mail.specs.declared.mail.Kind.{Kind}
use Rattle.mailbox_mail.specs.declared.mail.Kind.TheVariants.{Error, SoE, VoE}
use Rattle.soe_codec.specs.Message.{soe_read, soe_text}
use Rattle.exchange_model.specs.Areas.{Areas}
use Rattle.exchange_model.specs.Exchange.{Exchange}
use Rattle.exchange_model.specs.Lifted.{lifted}
use Rattle.protocol_models.specs.Elements.{Elements}
use Rattle.protocol_models.specs.SoeMails.{Soe, SoeFault, SoeMail, mail, unread, failed, other}
use Rattle.protocol_models.specs.SoeServer.{Server}
use Rattle.protocol_models.specs.SoeClient.{Service, Reply}
use Rattle.protocol_models.specs.SoeModel.{soe_exchange}

-- the incomplete bit of a body's word
abbrev pub is_marked : List ℕ → Bool
is_marked body = bits_of (number_at 2 body 0) 3 1 == 1

-- an SoE body: the message in it, or its fault with the incomplete bit of its word
abbrev pub heard : List ℕ → Result Soe SoeFault → SoeMail
heard body (Ok s) = mail s
heard body (Err fault) = unread fault (is_marked body)

-- what the body of an SoE mail reads as
abbrev pub body_heard : List ℕ → SoeMail
body_heard body = heard body (soe_read body)

-- a body under the type in the mail's header
abbrev pub by_kind : Kind → List ℕ → SoeMail
by_kind SoE body = body_heard body
by_kind Error body = if is_error body then failed (number_at 2 body 2) else other body
by_kind _ body = other body

-- what a mailbox mail reads as
abbrev pub soe_mail_heard : Mail → SoeMail
soe_mail_heard m = by_kind m.kind m.body.items

-- what a mail is written as
abbrev pub soe_mail_written : SoeMail → Mail
soe_mail_written (mail s) = mail_with SoE (soe_text s)
soe_mail_written (unread fault incomplete) = mail_with SoE []
soe_mail_written (failed detail) = error_of detail
soe_mail_written (other body) = mail_with VoE body

-- SoE as an exchange of mailbox mails
abbrev pub soe_mail_exchange : {S : Type 0} → Elements S → Areas → Exchange (Server S) S Mail Service Reply
soe_mail_exchange o areas = lifted (soe_exchange o areas) soe_mail_heard soe_mail_written
