-- The mails of EoE as octets: what a mailbox mail reads as, and what a mail is written as.
use Rattle.std.specs.Prelude.{ℕ, if◌then◌else◌, List, [], ◌++◌, Result, Ok, Err}
use Rattle.byteorder.specs.Endian.{little_bytes}
use Rattle.coe_codec.specs.of_ec_fields.Fields.{number_at, bits_of}
pub use Rattle.mailbox_mail.specs.Bodies.{is_error, mail_with}
use Rattle.mailbox_mail.specs.Mail.{error_of}
use Rattle.mailbox_mail.specs.declared.mail.Mail.{Mail}
use Rattle.mailbox_mail.specs.declared.mail.Kind.{Kind}
use Rattle.mailbox_mail.specs.declared.mail.Kind.TheVariants.{Error, EoE, VoE}
use Rattle.eoe.specs.Message.{eoe_read, eoe_text}
use Rattle.exchange_model.specs.Areas.{Areas}
use Rattle.exchange_model.specs.Exchange.{Exchange}
use Rattle.exchange_model.specs.Lifted.{lifted}
use Rattle.protocol_models.specs.EoeMails.{Eoe, EoeFault, EoeMail, mail, unread, unsupported, failed, other}
use Rattle.protocol_models.specs.Network.{Network, Station}
use Rattle.protocol_models.specs.EoeServer.{Server}
use Rattle.protocol_models.specs.EoeClient.{Service, Reply}
use Rattle.protocol_models.specs.EoeModel.{eoe_exchange}

-- an EoE body: the message in it, or its fault with the type in its first word
abbrev pub heard : List ℕ → Result Eoe EoeFault → EoeMail
heard body (Ok e) = mail e
heard body (Err fault) = unread fault (bits_of (number_at 2 body 0) 0 4)

-- a body under the type in the mail's header
abbrev pub by_kind : Kind → List ℕ → EoeMail
by_kind EoE body = heard body (eoe_read body)
by_kind Error body = if is_error body then failed (number_at 2 body 2) else other body
by_kind _ body = other body

-- what a mailbox mail reads as
abbrev pub eoe_mail_heard : Mail → EoeMail
eoe_mail_heard m = by_kind m.kind m.body.items

-- an answer to a type that isn't served has its type alone in the first word, and the result in the second
abbrev pub eoe_mail_written : EoeMail → Mail
eoe_mail_written (mail e) = mail_with EoE (eoe_text e)
eoe_mail_written (unread fault kind) = mail_with EoE []
eoe_mail_written (unsupported kind) = mail_with EoE (little_bytes 2 kind ++ little_bytes 2 2)
eoe_mail_written (failed detail) = error_of detail
eoe_mail_written (other body) = mail_with VoE body

-- EoE as an exchange of mailbox mails
abbrev pub eoe_mail_exchange : {S : Type 0} → Network S → Areas → Exchange (Server S) (Station S) Mail Service Reply
eoe_mail_exchange o areas = lifted (eoe_exchange o areas) eoe_mail_heard eoe_mail_written
