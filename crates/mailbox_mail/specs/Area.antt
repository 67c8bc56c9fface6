-- A mailbox area as a mail is written into it.
use Rattle.std.specs.Prelude.{ℕ, ◌+◌, ◌-◌, List, ◌++◌, length, replicate}
use Rattle.mailbox_mail.specs.Mail.{mail_text}
use Rattle.mailbox_mail.specs.declared.mail.Mail.{Mail}

-- an area of this many octets with a mail at its head, and zeros behind it
abbrev pub mail_area : ℕ → Mail → List ℕ
mail_area len mail = mail_text 0 0 mail ++ replicate (len - (6 + length mail.body.items)) 0
