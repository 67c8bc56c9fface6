-- What a client's state stands for: the mails that it has left to send, and the reply that further mails complete.
use Rattle.std.specs.Prelude.{◌≡◌, ℕ, nat_le, nat_lt, Bool, true, false, List, [], ◌∷◌, length, Option, None, Some}
use Rattle.soe_parts.specs.of_mailbox_mail.declared.mail.Kind.TheVariants.{SoE}
use Rattle.soe_parts.specs.of_protocol_models.Elements.{Target, target}
use Rattle.soe_parts.specs.of_protocol_models.SoeMails.{SoeMail, mail, message}
use Rattle.soe_parts.specs.of_protocol_models.SoeClient.{Reply, at_end, read_ends, write_ends}
use Rattle.soe_parts.specs.of_protocol_models.SoeOctets.{soe_mail_written, mail_with}
use Rattle.soe_client.specs.declared.state.Task.{Task}
use Rattle.soe_client.specs.declared.state.Unsent.{Unsent}
use Rattle.soe_client.specs.declared.state.Awaits.{Awaits}
use Rattle.soe_parts.specs.Parts.{subject_view, left_from}

-- a client's state: the length of the mailbox for requests, what is asked and its octets, what is not yet sent, and what is awaited with the
-- octets that came
pub record Talking : Type 0 where
  pub room : ℕ
  pub task : Task
  pub bytes : List ℕ
  pub unsent : Unsent
  pub awaits : Awaits
  pub value : List ℕ

-- what a service is about
abbrev pub about : Task → Target
about Task.Nothing = target 0 0 0
about (Task.Read s) = subject_view s
about (Task.Write s) = subject_view s

-- whether the drive's number fits its field
abbrev pub is_near : Task → Bool
is_near Task.Nothing = true
is_near (Task.Read s) = nat_lt s.drive 8
is_near (Task.Write s) = nat_lt s.drive 8

-- the mails not yet sent
abbrev pub unsent_mails : ℕ → Target → List ℕ → Unsent → List SoeMail
unsent_mails room t bytes Unsent.Nothing = []
unsent_mails room t bytes Unsent.Request = mail (message 1 false t t.idn []) ∷ []
unsent_mails room t bytes (Unsent.Octets from) = left_from room 3 t bytes (Some from)

-- the mails that a client has left to send
abbrev pub left : Talking → List SoeMail
left c = unsent_mails c.room (about c.task) c.bytes c.unsent

-- the reply that these mails complete behind those that it took
abbrev pub answers_from : Target → List ℕ → Awaits → List SoeMail → Option Reply
answers_from t value Awaits.Nothing ms = None
answers_from t value Awaits.Parts ms = read_ends t value ms
answers_from t value Awaits.Answer ms = write_ends t ms
answers_from t value (Awaits.Over kind) ms = at_end ms (kind, value)

-- the reply that these mails complete
abbrev pub awaited : Talking → List SoeMail → Option Reply
awaited c ms = answers_from (about c.task) c.value c.awaits ms

-- whether a service is over, so that no answer is awaited any more
abbrev pub awaits_nothing : Awaits → Bool
awaits_nothing (Awaits.Over kind) = true
awaits_nothing _ = false

-- the octets from here on lie within the service's
abbrev pub is_left : List ℕ → Unsent → Bool
is_left bytes (Unsent.Octets from) = nat_le from (length bytes)
is_left bytes _ = true

-- nothing of a service is sent yet
abbrev pub is_begun : Unsent → Bool
is_begun (Unsent.Octets from) = nat_le from 0
is_begun _ = true

-- a client that has begun a service
abbrev pub begun : ℕ → Task → List ℕ → Unsent → Awaits → Talking
begun room task bytes unsent awaits = record { room = room; task = task; bytes = bytes; unsent = unsent; awaits = awaits; value = [] }

-- WHAT GOES OUT: the first of the mails that the client has left, in its one spelling
pub record SendsNext (old : Talking) (octets : List ℕ) (new : Talking) : Type 0 where
  pub next : SoeMail
  pub spelled : soe_mail_written next ≡ mail_with SoE octets
  pub mails : left old ≡ next ∷ left new
  pub room : new.room ≡ old.room
