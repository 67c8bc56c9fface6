-- An FoE server (ETG.1000.6, "FoE"): what it does with one mail.
use Rattle.std.specs.Prelude.{ℕ, suc, ◌+◌, ◌-◌, ◌==◌, not, nat_lt, Bool, true, false, List, [], ◌∷◌, ◌++◌, length, take, drop, if◌then◌else◌, Option, None, Some}
use Rattle.protocol_models.specs.FoeMails.{Foe, Read, Write, Data, Ack, Error, Busy, FoeFault, Short, Opcode, Name, FoeMail, mail, unread, failed, other}
use Rattle.protocol_models.specs.Files.{Files}

-- the transfer that is not finished
pub data Transfer : Type 0 where
  idle : Transfer
  -- packet `number` of a file was sent; it and the packets behind it bring what is left
  reading : (number : ℕ) (left : List ℕ) → Transfer
  -- packet `number` of a new version was acknowledged; got is what came so far
  writing : (name : List ℕ) (number : ℕ) (got : List ℕ) → Transfer
  -- the last packet, of this number, was answered by busy so often; got is all that came
  closing : (name : List ℕ) (number : ℕ) (got : List ℕ) (told : ℕ) → Transfer

-- what a server does with one mail: the files and the transfer behind it, whether a service was carried out, and the answers
pub record Outcome (S : Type 0) : Type 0 where
  pub app : S
  pub transfer : Transfer
  pub counts : Bool
  pub answers : List FoeMail

-- a service is over, with this answer
abbrev pub ended : {S : Type 0} → S → Transfer → FoeMail → Outcome S
ended app transfer answer = record { app = app; transfer = transfer; counts = true; answers = answer ∷ [] }

-- one goes on, with this answer
abbrev pub goes_on : {S : Type 0} → S → Transfer → FoeMail → Outcome S
goes_on app transfer answer = record { app = app; transfer = transfer; counts = false; answers = answer ∷ [] }

-- a mail without an answer
abbrev pub silent : {S : Type 0} → S → Transfer → Outcome S
silent app transfer = record { app = app; transfer = transfer; counts = false; answers = [] }

-- an FoE error with this code
abbrev pub refusal : ℕ → FoeMail
refusal code = mail (Error code)

-- the acknowledgement of the packet of this number
abbrev pub ack : ℕ → FoeMail
ack number = mail (Ack number)

-- the octets of a file that a mailbox of this length takes in one packet
abbrev pub packet_room : ℕ → ℕ
packet_room room = room - 12

-- the packet of this number, of what is left
abbrev pub packet_of : ℕ → ℕ → List ℕ → FoeMail
packet_of room number left = mail (Data number (record { items = take (packet_room room) left }))

-- a packet that isn't full is the last
abbrev pub is_last : ℕ → List ℕ → Bool
is_last room part = nat_lt (length part) (packet_room room)

-- a read request, refused by a code or answered by the file's first packet
abbrev pub opened : {S : Type 0} → ℕ → S → List ℕ → Option ℕ → Outcome S
opened back app bytes None = ended app (reading 1 bytes) (packet_of back 1 bytes)
opened back app bytes (Some code) = ended app idle (refusal code)

-- a request for a file drops the transfer that stood, and is refused or answered by the first packet
abbrev pub takes_read : {S : Type 0} → Files S → ℕ → S → List ℕ → ℕ → Outcome S
takes_read o back app name pass = opened back app (o.get app name) (o.allowed app name pass false)

-- a write request, refused by a code or acknowledged with packet 0
abbrev pub begun : {S : Type 0} → S → List ℕ → Option ℕ → Outcome S
begun app name None = goes_on app (writing name 0 []) (ack 0)
begun app name (Some code) = ended app idle (refusal code)

-- a request to write drops the transfer that stood, and is refused or acknowledged
abbrev pub takes_write : {S : Type 0} → Files S → S → List ℕ → ℕ → Outcome S
takes_write o app name pass = begun app name (o.allowed app name pass true)

-- a new version that is whole: busy until that was told as often as the file says, then committed with the acknowledgement
abbrev pub closes : {S : Type 0} → Files S → S → List ℕ → ℕ → List ℕ → ℕ → Outcome S
closes o app name number got told =
    if nat_lt told (o.busy app name) then goes_on app (closing name number got (told + 1)) (mail (Busy told (o.busy app name)))
    else ended (o.put app name got) idle (ack number)

-- a packet of a new version behind its number: the room for it first
abbrev pub stores : {S : Type 0} → Files S → ℕ → S → List ℕ → ℕ → List ℕ → List ℕ → Outcome S
stores o out app name number got part =
    if not (o.has_room app (length (got ++ part))) then ended app idle (refusal 0x8003)
    else if is_last out part then closes o app name number (got ++ part) 0
    else goes_on app (writing name number (got ++ part)) (ack number)

-- a packet of octets: without a write 8004, another number 8005. The repeated last packet is known by its number
abbrev pub takes_data : {S : Type 0} → Files S → ℕ → S → Transfer → ℕ → List ℕ → Outcome S
takes_data o out app idle packet part = ended app idle (refusal 0x8004)
takes_data o out app (reading number left) packet part = ended app idle (refusal 0x8004)
takes_data o out app (writing name number got) packet part =
    if packet == number + 1 then stores o out app name packet got part else ended app idle (refusal 0x8005)
takes_data o out app (closing name number got told) packet part =
    if packet == number then closes o app name number got told else ended app idle (refusal 0x8005)

-- the next packet of a file, behind the acknowledgement of this one; nothing behind the last
abbrev pub continues : {S : Type 0} → ℕ → S → ℕ → List ℕ → Outcome S
continues back app number left =
    if nat_lt (length left) (packet_room back) then silent app idle
    else goes_on app (reading (number + 1) (drop (packet_room back) left)) (packet_of back (number + 1) (drop (packet_room back) left))

-- an acknowledgement: without a read 8004, another number 8005, which doesn't count as a service either
abbrev pub takes_ack : {S : Type 0} → ℕ → S → Transfer → ℕ → Outcome S
takes_ack back app idle packet = ended app idle (refusal 0x8004)
takes_ack back app (reading number left) packet =
    if packet == number then continues back app number left else goes_on app idle (refusal 0x8005)
takes_ack back app (writing name number got) packet = ended app idle (refusal 0x8004)
takes_ack back app (closing name number got told) packet = ended app idle (refusal 0x8004)

-- a mail that does not read, which leaves the transfer
abbrev pub takes_unread : {S : Type 0} → S → Transfer → FoeFault → Outcome S
takes_unread app transfer Short = ended app transfer (failed 6)
takes_unread app transfer Opcode = ended app transfer (refusal 0x8004)
takes_unread app transfer Name = ended app transfer (refusal 0x8001)

-- out is the length of the mailbox that requests go through, back that of the one for answers
abbrev pub foe_takes : {S : Type 0} → Files S → ℕ → ℕ → S → Transfer → Foe → Outcome S
foe_takes o out back app transfer (Read pass name) = takes_read o back app name.items pass
foe_takes o out back app transfer (Write pass name) = takes_write o app name.items pass
foe_takes o out back app transfer (Data packet bytes) = takes_data o out app transfer packet bytes.items
foe_takes o out back app transfer (Ack packet) = takes_ack back app transfer packet
foe_takes o out back app transfer (Error code) = silent app idle
foe_takes o out back app transfer (Busy done entire) = ended app idle (refusal 0x8004)

-- any mail: a mailbox error and a mail of another protocol are none of a server's
abbrev pub foe_outcome : {S : Type 0} → Files S → ℕ → ℕ → S → Transfer → FoeMail → Outcome S
foe_outcome o out back app transfer (mail f) = foe_takes o out back app transfer f
foe_outcome o out back app transfer (unread fault) = takes_unread app transfer fault
foe_outcome o out back app transfer (failed detail) = silent app transfer
foe_outcome o out back app transfer (other body) = silent app transfer

-- a server, with the number of services that it has carried out
pub record Server (S : Type 0) : Type 0 where
  pub app : S
  pub handled : ℕ
  pub transfer : Transfer

-- a mail that counts is one more
abbrev pub one_more : Bool → ℕ → ℕ
one_more true n = suc n
one_more false n = n

-- the server behind such an outcome, and what it gives
abbrev pub behind : {S : Type 0} → ℕ → Outcome S → Server S × List FoeMail
behind handled x = (record { app = x.app; handled = one_more x.counts handled; transfer = x.transfer }, x.answers)

-- one mail taken: the server behind it, and what it gives
abbrev pub serve : {S : Type 0} → Files S → ℕ → ℕ → Server S → FoeMail → Server S × List FoeMail
serve o out back v m = behind v.handled (foe_outcome o out back v.app v.transfer m)
