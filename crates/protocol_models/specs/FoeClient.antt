-- An FoE client: the mails that it sends for a service, and the reply that the mails it hears complete.
use Rattle.std.specs.Prelude.{ℕ, zero, suc, ◌+◌, ◌/◌, ◌==◌, nat_lt, Bool, true, false, List, [], ◌∷◌, ◌++◌, length, drop, if◌then◌else◌, Option, None, Some}
use Rattle.mailbox_mail.specs.declared.outcome.ReplyKind.{ReplyKind}
pub use Rattle.mailbox_mail.specs.Replies.{at_end}
use Rattle.exchange_model.specs.Areas.{Areas}
use Rattle.exchange_model.specs.Dialogue.{Turn, next, again, stop}
use Rattle.protocol_models.specs.FoeMails.{Read, Write, Data, Ack, Error, Busy, FoeMail, mail, failed}
use Rattle.protocol_models.specs.FoeServer.{packet_room, packet_of, is_last}
use Rattle.protocol_models.specs.FoeMeaning.{Service, read, write, Reply}

-- the packets of what is left of a file, the first with this number: full ones, and a last one that isn't full, if need be an empty one.
-- fuel is more than the number of octets
abbrev pub packets : ℕ → ℕ → ℕ → List ℕ → List FoeMail
packets zero out number left = []
packets (suc fuel) out number left =
    packet_of out number left ∷ (if nat_lt (length left) (packet_room out) then [] else packets fuel out (number + 1) (drop (packet_room out) left))

-- so many acknowledgements, the first with this number
abbrev pub acks : ℕ → ℕ → List FoeMail
acks zero number = []
acks (suc n) number = mail (Ack number) ∷ acks n (number + 1)

-- the mails that the client of a service has, with so many acknowledgements
abbrev pub mails_of : ℕ → Service → ℕ → List FoeMail
mails_of out (read name pass) n = mail (Read pass (record { items = name })) ∷ acks n 1
mails_of out (write name pass bytes) n = mail (Write pass (record { items = name })) ∷ packets (suc (length bytes)) out 1 bytes

-- what an answer to a request or an acknowledgement of a read makes the client do: acknowledge each packet
abbrev pub read_turn : FoeMail → Turn
read_turn (mail (Data packet bytes)) = next
read_turn _ = stop

-- what one to a request or a packet of a write does: the next packet, or the last one again
abbrev pub write_turn : Bool → FoeMail → Turn
write_turn last (mail (Ack packet)) = next
write_turn last (mail (Busy done entire)) = if last then again else stop
write_turn last _ = stop

-- what a client does behind a mail of its own by the answer to it
abbrev pub turn_behind : ℕ → FoeMail → FoeMail → Turn
turn_behind out (mail (Read pass name)) h = read_turn h
turn_behind out (mail (Ack packet)) h = read_turn h
turn_behind out (mail (Write pass name)) h = write_turn false h
turn_behind out (mail (Data packet bytes)) h = write_turn (is_last out bytes.items) h
turn_behind out _ h = stop

-- a client waits for one answer
abbrev pub decide : ℕ → FoeMail → List FoeMail → Option Turn
decide out m [] = None
decide out m (h ∷ seen) = Some (turn_behind out m h)

-- an FoE error or a mailbox error in the place of an answer
abbrev pub refused_by : FoeMail → List FoeMail → Option Reply
refused_by (mail (Error code)) ms = at_end ms (ReplyKind.FoeError code, [])
refused_by (failed detail) ms = at_end ms (ReplyKind.MailboxError detail, [])
refused_by _ ms = None

-- the acknowledgement of the packet of this number
abbrev pub is_ack : ℕ → FoeMail → Bool
is_ack number (mail (Ack packet)) = packet == number
is_ack number _ = false

-- a busy answer
abbrev pub is_busy : FoeMail → Bool
is_busy (mail (Busy done entire)) = true
is_busy _ = false

-- the acknowledgement of the last packet, of this number, with busy answers before it
abbrev pub last_end : ℕ → List FoeMail → Option Reply
last_end number [] = None
last_end number (m ∷ ms) =
    if is_ack number m then at_end ms (ReplyKind.Done, [])
    else if is_busy m then last_end number ms
    else refused_by m ms

-- acknowledgements, the first with this number: so many, and then the last
abbrev pub acks_end : ℕ → ℕ → List FoeMail → Option Reply
acks_end zero number ms = last_end number ms
acks_end (suc n) number [] = None
acks_end (suc n) number (m ∷ ms) = if is_ack number m then acks_end n (number + 1) ms else refused_by m ms

-- the most octets that a file has
abbrev pub most : ℕ
most = 131072

-- the packet of this number
abbrev pub is_packet : ℕ → FoeMail → Bool
is_packet number (mail (Data packet bytes)) = packet == number
is_packet number _ = false

-- the octets of a packet
abbrev pub octets_in : FoeMail → List ℕ
octets_in (mail (Data packet bytes)) = bytes.items
octets_in _ = []

-- packets of a file, the first with this number, behind the octets that came: up to the first that isn't full
abbrev pub packets_end : ℕ → ℕ → List ℕ → List FoeMail → Option Reply
packets_end back number got [] = None
packets_end back number got (m ∷ ms) =
    if is_packet number m then
    (if nat_lt most (length (got ++ octets_in m)) then None
    else if is_last back (octets_in m) then at_end ms (ReplyKind.Value, got ++ octets_in m)
    else packets_end back (number + 1) (got ++ octets_in m) ms)
    else refused_by m ms

-- how many packets of a file are full
abbrev pub full_packets : ℕ → ℕ → ℕ
full_packets out octets = octets / packet_room out

-- the reply of a service, where these mails are its complete reply side: the packets of a file, or the acknowledgements of the request, of each
-- full packet and of the last
abbrev pub ends : Areas → Service → List FoeMail → Option Reply
ends areas (read name pass) ms = packets_end areas.back 1 [] ms
ends areas (write name pass bytes) ms = acks_end (suc (full_packets areas.out (length bytes))) 0 ms
