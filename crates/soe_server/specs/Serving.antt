-- What a server's state stands for: its join, and the mails that wait in it.
use Rattle.std.specs.Prelude.{◌≡◌, ℕ, ◌==◌, ◌&&◌, ◌||◌, nat_le, nat_lt, Bool, true, false, List, [], ◌∷◌, map, length, Option, None, Some}
use Rattle.idn_table.specs.of_mailbox_mail.declared.mail.Mail.{Mail}
use Rattle.idn_table.specs.of_protocol_models.SoeMails.{Soe, SoeMail, mail, failed, message, refusal}
use Rattle.idn_table.specs.of_protocol_models.SoeServer.{Join, Outcome, Server, one_more}
use Rattle.idn_table.specs.of_protocol_models.SoeOctets.{soe_mail_written}
use Rattle.soe_parts.specs.declared.subject.Subject.{Subject}
use Rattle.soe_parts.specs.Parts.{subject_view, left_from}
use Rattle.soe_server.specs.declared.state.Common.{Common}
use Rattle.soe_server.specs.declared.state.Pending.{Pending}

-- what a message without the incomplete bit is about
abbrev pub subject_of : Soe → Subject
subject_of s = record { drive = s.drive; idn = s.field; elements = s.elements }

-- a server: the length of the mailbox for answers, what the fragments that came have in common and their octets, and what is still to be told
-- with the octets of an element
pub record Serving : Type 0 where
  pub room : ℕ
  pub join : Option Common
  pub value : List ℕ
  pub pending : Pending
  pub told : List ℕ

-- the join with the octets that came
abbrev pub join_view : Option Common → List ℕ → Option Join
join_view None value = None
join_view (Some c) value = Some (record { opcode = c.opcode; drive = c.drive; elements = c.elements; octets = value })

-- the join of a server
abbrev pub join_of : Serving → Option Join
join_of c = join_view c.join c.value

-- whether a message goes on with what the fragments have in common
abbrev pub goes_with : Option Common → Soe → Bool
goes_with None s = false
goes_with (Some c) s = c.opcode == s.opcode && c.drive == s.drive && c.elements == s.elements

-- the mails that wait to be told
abbrev pub pending_mails : ℕ → List ℕ → Pending → List SoeMail
pending_mails room told Pending.Nothing = []
pending_mails room told (Pending.Written s) = mail (message 4 false (subject_view s) s.idn []) ∷ []
pending_mails room told (Pending.Refused opcode s code) = mail (refusal opcode (subject_view s) code) ∷ []
pending_mails room told (Pending.Failed detail) = failed detail ∷ []
pending_mails room told (Pending.Parts s from) = left_from room 2 (subject_view s) told (Some from)

-- the mails that wait in a server
abbrev pub waiting_mails : Serving → List SoeMail
waiting_mails c = pending_mails c.room c.told c.pending

-- what a server did with a mail, by its state behind it
abbrev pub outcome_of : {S : Type 0} → S → Serving → Bool → Outcome S
outcome_of app c counts = record { app = app; join = join_of c; counts = counts; answers = waiting_mails c }

-- the model's server behind a mail, and the mails that it gives, by what the call did
abbrev pub served_of : {S : Type 0} → S → ℕ → Serving → Bool → Server S × List Mail
served_of app handled c counts = (record { app = app; handled = one_more counts handled; join = join_of c }, map soe_mail_written (waiting_mails c))

-- the server is the same, with this join and this to be told
abbrev pub told_of : Serving → Option Common → Pending → Serving
told_of c join pending = record c { join = join; pending = pending }

-- whether the mails that are to be told have spellings
abbrev pub is_told : List ℕ → Pending → Bool
is_told told (Pending.Written s) = nat_lt s.drive 8
is_told told (Pending.Refused opcode s code) = (opcode == 2 || opcode == 4) && nat_lt s.drive 8
is_told told (Pending.Parts s from) = nat_le from (length told) && nat_lt s.drive 8
is_told told _ = true

-- whether what is to be told is a message, and no mailbox error
abbrev pub is_message : Pending → Bool
is_message Pending.Nothing = false
is_message (Pending.Failed detail) = false
is_message _ = true

-- the first of the mails that wait
pub record GivesNext (old : Serving) (written : Mail) (new : Serving) : Type 0 where
  pub first : SoeMail
  pub spelled : written ≡ soe_mail_written first
  pub rest : waiting_mails old ≡ first ∷ waiting_mails new
