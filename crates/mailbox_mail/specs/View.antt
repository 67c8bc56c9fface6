-- A mail as it stands in an area.
use Rattle.std.specs.Prelude.{Result, Ok, Err}
use Rattle.mailbox_mail.specs.declared.mail.Mail.{Mail}
use Rattle.mailbox_mail.specs.declared.mail.MailView.{MailView}
use Rattle.mailbox_mail.specs.declared.mail.MailFault.{MailFault}

-- the mail that is seen
abbrev pub mail_seen : MailView → Mail
mail_seen v = record { address = v.address; kind = v.kind; counter = v.counter; body = record { items = v.body.now } }

-- the same of what came of an area
abbrev pub seen : Result MailView MailFault → Result Mail MailFault
seen (Ok v) = Ok (mail_seen v)
seen (Err fault) = Err fault
