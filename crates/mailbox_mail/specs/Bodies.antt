-- What bodies of all protocols share: the body of a mailbox error, and the mail that has a body.
use Rattle.std.specs.Prelude.{ℕ, ◌==◌, ◌&&◌, nat_le, Bool, List, length}
use Rattle.ec_fields.specs.Fields.{number_at}
use Rattle.mailbox_mail.specs.declared.mail.Mail.{Mail}
use Rattle.mailbox_mail.specs.declared.mail.Kind.{Kind}

-- a mailbox error: its type and a detail
abbrev pub is_error : List ℕ → Bool
is_error body = nat_le 4 (length body) && number_at 2 body 0 == 1

-- a mail with this body, to nobody and not yet counted
abbrev pub mail_with : Kind → List ℕ → Mail
mail_with kind body = record { address = 0; kind = kind; counter = 0; body = record { items = body } }
