-- What a client sends next.
use Rattle.std.specs.Prelude.{◌≡◌, ℕ, ◌+◌, ◌-◌, ◌≤◌, List, ◌∷◌, length, take, drop}
use Rattle.protocol_models.specs.of_mailbox_mail.declared.mail.Kind.TheVariants.{FoE}
use Rattle.protocol_models.specs.of_foe_codec.Message.{IsSpellable, foe_text}
use Rattle.protocol_models.specs.FoeMails.{Foe, Read, Write, Data, Ack, FoeMail, mail}
use Rattle.protocol_models.specs.FoeServer.{packet_room}
use Rattle.protocol_models.specs.FoeOctets.{foe_mail_written, mail_with}
use Rattle.foe_client.specs.declared.state.Unsent.{Unsent}
use Rattle.foe_client.specs.Talk.{Talking, areas_of, following, later, awaited}

-- the message of the first mail that isn't sent
abbrev pub message_of : Talking → Unsent → Foe
message_of c Unsent.ReadRequest = Read c.pass (record { items = c.name })
message_of c Unsent.WriteRequest = Write c.pass (record { items = c.name })
message_of c (Unsent.Packet number from) = Data number (record { items = take (packet_room c.out) (drop from c.bytes) })
message_of c (Unsent.Ack number) = Ack number

-- the client behind that mail
abbrev pub sent_first : Talking → Talking
sent_first c = record c { unsent = following c.out c.bytes c.unsent; quota = c.quota - 1 }

-- a message is the first of the mails that are left, has a spelling that fits, and leaves the reply as it is
pub record IsNext (message : Foe) (old new : Talking) : Type 0 where
  pub mails : (hs : List FoeMail) → later old hs ≡ mail message ∷ later new hs
  pub spellable : IsSpellable message
  pub fits : length (foe_text message) + 6 ≤ old.out
  pub replies : (ms : List FoeMail) → awaited new ms ≡ awaited old ms
  pub areas : areas_of new ≡ areas_of old

-- WHAT GOES OUT: the first of the mails that the client has left, in its one spelling, and no longer than the mailbox takes
pub record SendsNext (old : Talking) (octets : List ℕ) (new : Talking) : Type 0 where
  pub next : FoeMail
  pub spelled : foe_mail_written next ≡ mail_with FoE octets
  pub mails : (hs : List FoeMail) → later old hs ≡ next ∷ later new hs
  pub areas : areas_of new ≡ areas_of old
