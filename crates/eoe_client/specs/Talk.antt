-- What the state of a client of address services, and of a sender of packets, stands for.
use Rattle.std.specs.Prelude.{◌≡◌, ℕ, ◌-◌, Bool, true, false, List, [], ◌∷◌, map, length, Option, None}
use Rattle.protocol_models.specs.of_mailbox_mail.declared.mail.Kind.TheVariants.{EoE}
pub use Rattle.protocol_models.specs.of_mailbox_mail.Replies.{at_end}
use Rattle.protocol_models.specs.of_eoe.Cutting.{Cutting, fragments_from}
use Rattle.protocol_models.specs.EoeMails.{SetIp, GetIp, EoeMail, mail, part}
use Rattle.protocol_models.specs.EoeClient.{Reply, set_reply, get_reply}
use Rattle.protocol_models.specs.EoeOctets.{eoe_mail_written, mail_with}
use Rattle.eoe_client.specs.declared.address.Unsent.{Unsent}
use Rattle.eoe_client.specs.declared.address.Awaits.{Awaits}

-- a client's state: the length of the mailbox for requests, the block that is set, what is not yet sent, and what is awaited with the block that
-- came
pub record Talking : Type 0 where
  pub room : ℕ
  pub block : List ℕ
  pub unsent : Unsent
  pub awaits : Awaits
  pub value : List ℕ

-- the mails that it has left to send
abbrev pub unsent_mails : List ℕ → Unsent → List EoeMail
unsent_mails block Unsent.Nothing = []
unsent_mails block Unsent.Set = mail (SetIp (record { items = block })) ∷ []
unsent_mails block Unsent.Get = mail GetIp ∷ []

-- the same of a client
abbrev pub left : Talking → List EoeMail
left c = unsent_mails c.block c.unsent

-- the reply that one mail is, where it stands alone
abbrev pub alone : (EoeMail → Option Reply) → List EoeMail → Option Reply
alone reply_of (m ∷ []) = reply_of m
alone reply_of _ = None

-- the reply that these mails complete behind those that the client took
abbrev pub answers_from : Awaits → List ℕ → List EoeMail → Option Reply
answers_from Awaits.Nothing value ms = None
answers_from Awaits.SetAnswer value ms = alone set_reply ms
answers_from Awaits.GetAnswer value ms = alone get_reply ms
answers_from (Awaits.Over kind) value ms = at_end ms (kind, value)

-- the reply that these mails complete
abbrev pub awaited : Talking → List EoeMail → Option Reply
awaited c ms = answers_from c.awaits c.value ms

-- whether a service is over, so that no answer is awaited any more
abbrev pub awaits_nothing : Awaits → Bool
awaits_nothing (Awaits.Over kind) = true
awaits_nothing _ = false

-- WHAT GOES OUT: the first of the mails that the client has left, in its one spelling
pub record SendsNext (old : Talking) (octets : List ℕ) (new : Talking) : Type 0 where
  pub next : EoeMail
  pub spelled : eoe_mail_written next ≡ mail_with EoE octets
  pub mails : left old ≡ next ∷ left new
  pub room : new.room ≡ old.room

-- the fragments of a packet that are left to send
abbrev pub fragments_left : Cutting → List EoeMail
fragments_left c = map part (fragments_from c.packet c.size c.frame (length c.packet - c.number) c.number c.at)

-- a sender's state: the length of the mailbox for requests, and the packet on its way
pub record Sending : Type 0 where
  pub room : ℕ
  pub cutting : Cutting

-- WHAT A SENDER GIVES: the first of the fragments that are left, in its one spelling
pub record SendsPart (old : Sending) (octets : List ℕ) (new : Sending) : Type 0 where
  pub next : EoeMail
  pub spelled : eoe_mail_written next ≡ mail_with EoE octets
  pub mails : fragments_left old.cutting ≡ next ∷ fragments_left new.cutting
  pub room : new.room ≡ old.room
