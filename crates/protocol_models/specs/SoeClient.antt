-- SoE services: what they mean on whole elements, the mails that a client sends for them, and the reply that the mails it hears complete.
use Rattle.std.specs.Prelude.{ℕ, ◌==◌, ◌&&◌, ◌||◌, not, nat_le, nat_lt, Bool, false, List, [], ◌∷◌, ◌++◌, length, if◌then◌else◌, Option, None, Result, Ok, Err}
use Rattle.coe_codec.specs.of_ec_fields.Fields.{number_at}
use Rattle.mailbox_mail.specs.declared.outcome.ReplyKind.{ReplyKind}
pub use Rattle.mailbox_mail.specs.Replies.{at_end}
use Rattle.protocol_models.specs.Elements.{Target, Elements}
use Rattle.protocol_models.specs.SoeMails.{Soe, SoeMail, mail, failed, message, fragments_of}
use Rattle.protocol_models.specs.SoeServer.{most}

-- an element that is read, or written whole
pub data Service : Type 0 where
  read : (t : Target) → Service
  write : (t : Target) (bytes : List ℕ) → Service

-- a target whose numbers fit their fields
abbrev pub is_target : Target → Bool
is_target t = nat_lt t.drive 8 && nat_lt t.idn 65536 && nat_lt t.elements 256

-- a service whose numbers fit, and whose octets are no more than a transfer
abbrev pub is_service : Service → Bool
is_service (read t) = is_target t
is_service (write t bytes) = is_target t && nat_le (length bytes) most

-- the mails of a service, through a mailbox of this length: a read is one mail, a write goes in fragments
abbrev pub mails_of : ℕ → Service → List SoeMail
mails_of room (read t) = mail (message 1 false t t.idn []) ∷ []
mails_of room (write t bytes) = fragments_of room 3 t bytes

-- a reply: its kind, and the octets where it has some
abbrev pub Reply : Type 0
Reply = ReplyKind × List ℕ

-- what a service does to the table, and what it replies
pub record Meaning (S : Type 0) : Type 0 where
  pub app : S
  pub reply : Reply

-- a read leaves the table, and replies by the octets or the code
abbrev pub read_means : {S : Type 0} → S → Result (List ℕ) ℕ → Meaning S
read_means app (Ok bytes) = record { app = app; reply = (ReplyKind.Value, bytes) }
read_means app (Err code) = record { app = app; reply = (ReplyKind.SoeError code, []) }

-- a refused service changes nothing
abbrev pub write_means : {S : Type 0} → S → Result S ℕ → Meaning S
write_means app (Ok changed) = record { app = changed; reply = (ReplyKind.Done, []) }
write_means app (Err code) = record { app = app; reply = (ReplyKind.SoeError code, []) }

-- what a service means
abbrev pub meaning_of : {S : Type 0} → Elements S → S → Service → Meaning S
meaning_of o app (read t) = read_means app (o.read app t)
meaning_of o app (write t bytes) = write_means app (o.write app t bytes)

-- an answer to a request about this target, with this opcode
abbrev pub is_answer : ℕ → Target → Soe → Bool
is_answer opcode t s = s.opcode == opcode && s.drive == t.drive && s.elements == t.elements && (s.incomplete || s.field == t.idn)

-- a refusal has the error bit and a code
abbrev pub is_refusal : ℕ → Target → Soe → Bool
is_refusal opcode t s = s.error && not s.incomplete && nat_le 2 (length s.bytes.items) && is_answer opcode t s

-- an error answer or a mailbox error in the place of an answer
abbrev pub refused : ℕ → Target → SoeMail → List SoeMail → Option Reply
refused opcode t (mail s) ms = if is_refusal opcode t s then at_end ms (ReplyKind.SoeError (number_at 2 s.bytes.items 0), []) else None
refused opcode t (failed detail) ms = at_end ms (ReplyKind.MailboxError detail, [])
refused opcode t _ ms = None

-- a part of the element that is read
abbrev pub is_part : Target → SoeMail → Bool
is_part t (mail s) = not s.error && is_answer 2 t s
is_part t _ = false

-- a fragment behind which others follow
abbrev pub is_incomplete : SoeMail → Bool
is_incomplete (mail s) = s.incomplete
is_incomplete _ = false

-- the octets of a message
abbrev pub octets_of : SoeMail → List ℕ
octets_of (mail s) = s.bytes.items
octets_of _ = []

-- the parts of an element, behind those that came, up to the first without the incomplete bit
abbrev pub read_ends : Target → List ℕ → List SoeMail → Option Reply
read_ends t got [] = None
read_ends t got (m ∷ ms) =
    if not (is_part t m) then refused 2 t m ms
    else if nat_lt most (length (got ++ octets_of m)) then None
    else if is_incomplete m then read_ends t (got ++ octets_of m) ms
    else at_end ms (ReplyKind.Value, got ++ octets_of m)

-- the answer to a write
abbrev pub is_written : Target → SoeMail → Bool
is_written t (mail s) = not s.error && not s.incomplete && is_answer 4 t s
is_written t _ = false

-- the one answer to a write
abbrev pub write_ends : Target → List SoeMail → Option Reply
write_ends t [] = None
write_ends t (m ∷ ms) = if is_written t m then at_end ms (ReplyKind.Done, []) else refused 4 t m ms

-- the reply of a service, where these mails are its complete reply side
abbrev pub ends : Service → List SoeMail → Option Reply
ends (read t) ms = read_ends t [] ms
ends (write t bytes) ms = write_ends t ms
