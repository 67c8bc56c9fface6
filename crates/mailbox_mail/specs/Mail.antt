use Rattle.std.specs.Prelude.{◌≡◌, ℕ, Bool, ◌+◌, ◌-◌, ◌*◌, ◌/◌, ◌%◌, ◌<◌, ◌≤◌, List, ◌∷◌, ◌++◌, length, take, drop, slice_index, nat_lt, ◌||◌, if◌then◌else◌, is_none, Option, Some, None, Result, Ok, Err}
use Rattle.byteorder.specs.Endian.{little_bytes}
use Rattle.ec_fields.specs.Fields.{number_at}
use Rattle.mailbox_mail.specs.Kind.{code_of, kind_of}
use Rattle.mailbox_mail.specs.declared.mail.Kind.{Kind}
use Rattle.mailbox_mail.specs.declared.mail.Kind.TheVariants.{Error}
use Rattle.mailbox_mail.specs.declared.mail.Mail.{Mail}
use Rattle.mailbox_mail.specs.declared.mail.MailFault.{MailFault}
use Rattle.mailbox_mail.specs.declared.mail.MailFault.TheVariants.{Short, LengthPastArea, UnknownKind}

-- the octets of a mail: length and address, channel with priority, type with counter and its ignored bit 7, the body
abbrev pub mail_text : ℕ → ℕ → Mail → List ℕ
mail_text channel top m =
    little_bytes 2 (length m.body.items) ++ (little_bytes 2 m.address ++ channel ∷ (code_of m.kind + 16 * m.counter + 128 * top) ∷ m.body.items)

-- the mail grammar: any channel, any bit 7, any octets behind the body
pub record IsMail (area : List ℕ) (m : Mail) : Type 0 where
  pub channel : ℕ
  pub top : ℕ
  pub rest : List ℕ
  pub octets : area ≡ mail_text channel top m ++ rest
  pub one_bit : top ≤ 1
  pub addressed : m.address < 65536
  pub counted : m.counter ≤ 7
  pub fits : length m.body.items ≤ 1480

-- the number in the header's last octet that stands for the protocol
abbrev pub type_in : List ℕ → ℕ
type_in area = slice_index area 5 % 16

-- whether the body's length exceeds what is left, or the most that a body has
abbrev pub is_past : List ℕ → Bool
is_past area = nat_lt (length area - 6) (number_at 2 area 0) || nat_lt 1480 (number_at 2 area 0)

-- the first part of an area that is no mail's
abbrev pub fault_of : List ℕ → Option MailFault
fault_of area =
    if nat_lt (length area) 6 then Some Short
    else if is_past area then Some LengthPastArea
    else if is_none (kind_of (type_in area)) then Some UnknownKind
    else None

-- the mail in an area with a sound header, of this kind
abbrev pub mail_in : List ℕ → Kind → Mail
mail_in area kind =
    record { address = number_at 2 area 2; kind = kind; counter = slice_index area 5 / 16 % 8; body = record { items = take (number_at 2 area 0) (drop 6 area) } }

-- the mail in an area, by its kind where it has one
abbrev pub mail_of : List ℕ → Option Kind → Result Mail MailFault
mail_of area None = Err UnknownKind
mail_of area (Some kind) = Ok (mail_in area kind)

-- what an area reads as
abbrev pub mail_read : List ℕ → Result Mail MailFault
mail_read area =
    if nat_lt (length area) 6 then Err Short
    else if is_past area then Err LengthPastArea
    else mail_of area (kind_of (type_in area))

-- the mailbox error with a detail, not yet counted
abbrev pub error_of : ℕ → Mail
error_of detail = record { address = 0; kind = Error; counter = 0; body = record { items = 1 ∷ 0 ∷ little_bytes 2 detail } }
