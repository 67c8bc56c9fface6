-- A mail's header by itself, and the mail of a body that stands behind it.
use Rattle.std.specs.Prelude.{ℕ, ◌+◌, ◌*◌, List, [], ◌∷◌, ◌++◌, take, drop}
use Rattle.byteorder.specs.Endian.{little_bytes}
use Rattle.mailbox_mail.specs.Kind.{code_of}
use Rattle.mailbox_mail.specs.declared.mail.Mail.{Mail}
use Rattle.mailbox_mail.specs.declared.mail.MailHead.{MailHead}

-- what a mail's header says but the length
abbrev pub head_of : Mail → MailHead
head_of m = record { address = m.address; kind = m.kind; counter = m.counter }

-- the six octets of a header before a body of this many octets: length and address, channel 0, type with counter
abbrev pub head_text : MailHead → ℕ → List ℕ
head_text head len = little_bytes 2 len ++ (little_bytes 2 head.address ++ 0 ∷ (code_of head.kind + 16 * head.counter) ∷ [])

-- the mail whose body is the octets that stand behind the header of an area
abbrev pub mail_behind : MailHead → ℕ → List ℕ → Mail
mail_behind head len area =
    record { address = head.address; kind = head.kind; counter = head.counter; body = record { items = take len (drop 6 area) } }
