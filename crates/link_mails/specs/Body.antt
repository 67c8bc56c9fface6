-- A mail as the link has it: its counter, and as its body the rest of it or the fault with which it does not read.
use Rattle.std.specs.Prelude.{ℕ, ◌/◌, ◌%◌, ◌==◌, Bool, if◌then◌else◌, Option, Some, None, Result, Ok, Err}
use Rattle.mailbox_mail.specs.declared.mail.Mail.{Mail}
use Rattle.mailbox_mail.specs.declared.mail.MailFault.{MailFault}
use Rattle.link_model.specs.Mails.{LinkMail}

-- what a link carries
abbrev pub Body : Type 0
Body = Result Mail MailFault

-- a mail without its counter: mails are compared so
abbrev pub uncounted : Mail → Mail
uncounted m = record m { counter = 0 }

-- a mail with this counter
abbrev pub counted_as : ℕ → Mail → Mail
counted_as counter m = record m { counter = counter }

-- a mail as the link has it
abbrev pub link_mail : Mail → LinkMail Body
link_mail m = record { counter = m.counter; body = Ok (uncounted m) }

-- what an area reads as, as the link has it: a mail that does not read counts as one with counter 0
abbrev pub link_read : Result Mail MailFault → LinkMail Body
link_read (Ok m) = link_mail m
link_read (Err fault) = record { counter = 0; body = Err fault }

-- the mail that a read of mailbox 1 brings by its return: none where its working counter is 0, and none where the area
-- is no mail
abbrev pub mail_brought : ℕ → Result Mail MailFault → Option (LinkMail Body)
mail_brought counter (Ok m) = if counter == 0 then None else Some (link_mail m)
mail_brought counter (Err fault) = None

-- bit 1 of an octet: the repeat request in activate, its acknowledge in PDI control
abbrev pub bit_1 : ℕ → Bool
bit_1 octet = octet / 2 % 2 == 1
