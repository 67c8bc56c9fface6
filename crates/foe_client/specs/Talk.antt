-- What a client's state stands for: the mails that it has left to send, by what it will hear, and the reply that further mails complete.
use Rattle.std.specs.Prelude.{◌≡◌, ℕ, zero, suc, ◌+◌, ◌-◌, ◌≤◌, ◌&&◌, nat_lt, nat_le, ◌==◌, Bool, true, false, List, [], ◌∷◌, length, drop, if◌then◌else◌, Option, None}
use Rattle.protocol_models.specs.of_mailbox_mail.declared.outcome.ReplyKind.{ReplyKind}
use Rattle.protocol_models.specs.of_foe_codec.Message.{is_name}
use Rattle.protocol_models.specs.FoeMails.{Read, Write, Data, Ack, FoeMail, mail}
use Rattle.protocol_models.specs.FoeServer.{packet_room, packet_of}
use Rattle.protocol_models.specs.FoeMeaning.{Reply}
use Rattle.protocol_models.specs.of_exchange_model.Areas.{Areas}
use Rattle.protocol_models.specs.FoeClient.{at_end, is_busy, acks_end, packets_end}
use Rattle.foe_client.specs.declared.state.Unsent.{Unsent}
use Rattle.foe_client.specs.declared.state.Awaits.{Awaits}

-- a client's state: the lengths of the mailboxes, what is asked, the file that is written, the first mail that isn't sent and how many mails may
-- go, and what is awaited with the octets that came
pub record Talking : Type 0 where
  pub out : ℕ
  pub back : ℕ
  pub pass : ℕ
  pub name : List ℕ
  pub bytes : List ℕ
  pub unsent : Unsent
  pub quota : ℕ
  pub awaits : Awaits
  pub value : List ℕ

-- the lengths of both mailboxes
abbrev pub areas_of : Talking → Areas
areas_of c = record { out = c.out; back = c.back }

-- a mail, and the one that follows it
abbrev pub mail_of : ℕ → ℕ → List ℕ → List ℕ → Unsent → FoeMail
mail_of out pass name bytes Unsent.ReadRequest = mail (Read pass (record { items = name }))
mail_of out pass name bytes Unsent.WriteRequest = mail (Write pass (record { items = name }))
mail_of out pass name bytes (Unsent.Packet number from) = packet_of out number (drop from bytes)
mail_of out pass name bytes (Unsent.Ack number) = mail (Ack number)

-- the mail that follows
abbrev pub following : ℕ → List ℕ → Unsent → Unsent
following out bytes Unsent.ReadRequest = Unsent.Ack 1
following out bytes Unsent.WriteRequest = Unsent.Packet 1 0
following out bytes (Unsent.Packet number from) =
    if nat_lt (length (drop from bytes)) (packet_room out) then Unsent.Packet number from else Unsent.Packet (number + 1) (from + packet_room out)
following out bytes (Unsent.Ack number) = Unsent.Ack (number + 1)

-- of the mails not yet sent the first, so many
abbrev pub sending : ℕ → ℕ → List ℕ → List ℕ → ℕ → Unsent → List FoeMail
sending out pass name bytes zero unsent = []
sending out pass name bytes (suc n) unsent = mail_of out pass name bytes unsent ∷ sending out pass name bytes n (following out bytes unsent)

-- a packet
abbrev pub is_data : FoeMail → Bool
is_data (mail (Data packet bytes)) = true
is_data _ = false

-- an acknowledgement
abbrev pub is_any_ack : FoeMail → Bool
is_any_ack (mail (Ack packet)) = true
is_any_ack _ = false

-- how many mails more these answers let go: one for each packet of a read
abbrev pub for_packets : List FoeMail → ℕ
for_packets [] = 0
for_packets (m ∷ ms) = if is_data m then suc (for_packets ms) else 0

-- and one for each acknowledgement of a write but the last, and each busy answer before that
abbrev pub for_acks : ℕ → List FoeMail → ℕ
for_acks left [] = 0
for_acks zero (m ∷ ms) = if is_busy m then suc (for_acks zero ms) else 0
for_acks (suc left) (m ∷ ms) = if is_any_ack m then suc (for_acks left ms) else 0

-- whether a reply has a value: that of a file that was read
abbrev pub is_value : ReplyKind → Bool
is_value ReplyKind.Value = true
is_value _ = false

-- how many mails more these answers let go, by what is awaited
abbrev pub lets_go : Awaits → List FoeMail → ℕ
lets_go Awaits.Nothing ms = 0
lets_go (Awaits.Packet number) ms = for_packets ms
lets_go (Awaits.Ack left number) ms = for_acks left ms
lets_go (Awaits.Over kind) ms = if is_value kind then for_packets ms else 0

-- the mails that it has left to send in all, when it has heard these answers more
abbrev pub later : Talking → List FoeMail → List FoeMail
later c hs = sending c.out c.pass c.name c.bytes (c.quota + lets_go c.awaits hs) c.unsent

-- the reply that these mails complete behind those that it took
abbrev pub answers_from : ℕ → List ℕ → Awaits → List FoeMail → Option Reply
answers_from back value Awaits.Nothing ms = None
answers_from back value (Awaits.Packet number) ms = packets_end back number value ms
answers_from back value (Awaits.Ack left number) ms = acks_end left number ms
answers_from back value (Awaits.Over kind) ms = at_end ms (kind, value)

-- the reply that these mails complete
abbrev pub awaited : Talking → List FoeMail → Option Reply
awaited c ms = answers_from c.back c.value c.awaits ms

-- whether a service is over, so that no answer is awaited any more
abbrev pub awaits_nothing : Awaits → Bool
awaits_nothing (Awaits.Over kind) = true
awaits_nothing _ = false

-- whether the octets that came, and the numbers, fit what is awaited
abbrev pub is_sound : Awaits → List ℕ → Bool
is_sound (Awaits.Packet number) value = nat_le (length value) 131072 && nat_le number (length value + 1)
is_sound (Awaits.Ack left number) value = length value == 0 && nat_le (left + number) 131073
is_sound _ value = true

-- whether a request has a name, and a packet is one of the file's
abbrev pub is_left : Unsent → List ℕ → List ℕ → Bool
is_left Unsent.ReadRequest name bytes = is_name name
is_left Unsent.WriteRequest name bytes = is_name name
is_left (Unsent.Packet number from) name bytes = nat_le from (length bytes) && nat_le number (from + 1)
is_left (Unsent.Ack number) name bytes = true

-- how many packets more may come, at most
abbrev pub ahead : Awaits → List ℕ → ℕ
ahead (Awaits.Packet number) value = 131073 - length value
ahead _ value = 0

-- whether what is awaited may follow what a read sends
abbrev pub is_read_awaited : Awaits → Bool
is_read_awaited (Awaits.Ack left number) = false
is_read_awaited _ = true

-- whether the acknowledgements of a read that may go have numbers of 32 bits
abbrev pub is_bounded : Unsent → ℕ → Awaits → List ℕ → Bool
is_bounded Unsent.ReadRequest quota awaits value = is_read_awaited awaits && nat_le (quota + ahead awaits value) 131074
is_bounded (Unsent.Ack number) quota awaits value = is_read_awaited awaits && nat_le (number + quota + ahead awaits value) 131074
is_bounded _ quota awaits value = true

-- whether a mail is one of a read
abbrev pub is_read : Unsent → Bool
is_read Unsent.ReadRequest = true
is_read (Unsent.Ack number) = true
is_read _ = false

-- the number of a read's mail; the request stands ahead of the first acknowledgement
abbrev pub number_of : Unsent → ℕ
number_of (Unsent.Ack number) = number
number_of _ = 0

-- whether behind the mails that may go comes the acknowledgement of the packet that is awaited
abbrev pub is_next : Unsent → ℕ → Awaits → Bool
is_next unsent quota (Awaits.Packet number) = is_read unsent && nat_lt 0 number && number_of unsent + quota == number
is_next unsent quota _ = true

-- what a service begins with
abbrev pub IsFresh : Unsent → Awaits → Type 0
IsFresh Unsent.ReadRequest (Awaits.Packet number) = number ≡ 1
IsFresh Unsent.WriteRequest (Awaits.Ack left number) = left + number ≤ 131073
IsFresh _ _ = ⊥

-- a client that has begun a service
abbrev pub begun : Areas → List ℕ → ℕ → List ℕ → Unsent → Awaits → Talking
begun areas name pass bytes unsent awaits =
    record { out = areas.out; back = areas.back; pass = pass; name = name; bytes = bytes; unsent = unsent; quota = 1; awaits = awaits; value = [] }
