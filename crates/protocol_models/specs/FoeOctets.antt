-- The mails of FoE as octets: what a mailbox mail reads as, and what a mail is written as.
use Rattle.std.specs.Prelude.{ℕ, if◌then◌else◌, List, [], Result, Ok, Err}
use Rattle.coe_codec.specs.of_ec_fields.Fields.{number_at}
pub use Rattle.mailbox_mail.specs.Bodies.{is_error, mail_with}
use Rattle.mailbox_mail.specs.Mail.{error_of}
use Rattle.mailbox_mail.specs.declared.mail.Mail.{Mail}
use Rattle.mailbox_mail.specs.declared.mail.Kind.{Kind}
use Rattle.mailbox_mail.specs.declared.mail.Kind.TheVariants.{Error, FoE, VoE}
use Rattle.foe_codec.specs.Message.{foe_read, foe_text}
use Rattle.exchange_model.specs.Areas.{Areas}
use Rattle.exchange_model.specs.Exchange.{Exchange}
use Rattle.exchange_model.specs.Lifted.{lifted}
use Rattle.protocol_models.specs.FoeMails.{Foe, FoeFault, FoeMail, mail, unread, failed, other}
use Rattle.protocol_models.specs.Files.{Files}
use Rattle.protocol_models.specs.FoeServer.{Server}
use Rattle.protocol_models.specs.FoeMeaning.{Service, Reply}
use Rattle.protocol_models.specs.FoeModel.{foe_exchange}

-- an FoE body: the message in it, or its fault
abbrev pub heard : Result Foe FoeFault → FoeMail
heard (Ok f) = mail f
heard (Err fault) = unread fault

-- an FoE body: the message in it, or its fault
abbrev pub body_heard : List ℕ → FoeMail
body_heard body = heard (foe_read body)

-- a body under the type in the mail's header
abbrev pub by_kind : Kind → List ℕ → FoeMail
by_kind FoE body = body_heard body
by_kind Error body = if is_error body then failed (number_at 2 body 2) else other body
by_kind _ body = other body

-- what a mailbox mail reads as
abbrev pub foe_mail_heard : Mail → FoeMail
foe_mail_heard m = by_kind m.kind m.body.items

-- what a mail is written as
abbrev pub foe_mail_written : FoeMail → Mail
foe_mail_written (mail f) = mail_with FoE (foe_text f)
foe_mail_written (unread fault) = mail_with FoE []
foe_mail_written (failed detail) = error_of detail
foe_mail_written (other body) = mail_with VoE body

-- FoE as an exchange of mailbox mails
abbrev pub foe_mail_exchange : {S : Type 0} → Files S → Areas → Exchange (Server S) S Mail Service Reply
foe_mail_exchange o areas = lifted (foe_exchange o areas) foe_mail_heard foe_mail_written
