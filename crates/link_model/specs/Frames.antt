-- Datagrams: what a slave does by the datagrams of a frame that are addressed to it, and how the halves go on
-- by a frame that returned or was lost.
use Rattle.std.specs.Prelude.{◌≡◌, ℕ, ◌+◌, ◌%◌, ◌==◌, Bool, if◌then◌else◌, Option, Some, None, List, [], ◌∷◌, ◌++◌}
use Rattle.link_model.specs.Mails.{LinkMail, news}
use Rattle.link_model.specs.Master.{InHalf, InState, out_answered, read_answered, read_lost, doubt_answered, asked_answered}
use Rattle.link_model.specs.Slave.{Node}
use Rattle.link_model.specs.Link.{Halves, Fate, Event, written}

-- what a datagram asks of the slave that it is addressed to: the write of mailbox 0, the read of mailbox 1, the
-- write of the repeat request, the read of the acknowledge, or anything that changes no sync manager and no station
pub data Ask (B : Type 0) : Type 0 where
  WriteMail : LinkMail B → Ask B
  ReadMail : Ask B
  WriteRequest : Bool → Ask B
  ReadAcknowledge : Ask B
  Other : Ask B

-- a datagram: its station, what it asks, its working counter, and what a read put into it
pub record Gram (B : Type 0) : Type 0 where
  pub station : ℕ
  pub ask : Ask B
  pub counter : ℕ
  pub mail : Option (LinkMail B)
  pub acknowledge : Bool

-- a working counter with one more access done
abbrev pub counted : ℕ → ℕ
counted c = (c + 1) % 65536

-- a slave behind a datagram that asks this of it
abbrev pub node_meets : {B S : Type 0} → Node B S → Ask B → Node B S
node_meets n (Ask.WriteMail m) = record n { out = written n.out n.out.box m }
node_meets n Ask.ReadMail = record n { inn = record n.inn { box = None } }
node_meets n (Ask.WriteRequest bit) = record n { inn = record n.inn { request = bit } }
node_meets n Ask.ReadAcknowledge = n
node_meets n Ask.Other = n

-- the write of mailbox 0 is done where it was empty
abbrev pub write_done : {B : Type 0} → Gram B → Option (LinkMail B) → Gram B
write_done g None = record g { counter = counted g.counter }
write_done g (Some stands) = g

-- the read of mailbox 1 is done where it was full
abbrev pub read_done : {B : Type 0} → Gram B → Option (LinkMail B) → Gram B
read_done g None = g
read_done g (Some m) = record g { counter = counted g.counter; mail = Some m }

-- the datagram behind that slave
abbrev pub gram_meets : {B S : Type 0} → Node B S → Ask B → Gram B → Gram B
gram_meets n (Ask.WriteMail m) g = write_done g n.out.box
gram_meets n Ask.ReadMail g = read_done g n.inn.box
gram_meets n (Ask.WriteRequest bit) g = record g { counter = counted g.counter }
gram_meets n Ask.ReadAcknowledge g = record g { counter = counted g.counter; acknowledge = n.inn.acknowledge }
gram_meets n Ask.Other g = g

-- a slave with this station behind the datagrams of a frame
abbrev pub node_after : {B S : Type 0} → ℕ → Node B S → List (Gram B) → Node B S
node_after station n [] = n
node_after station n (g ∷ gs) = node_after station (if g.station == station then node_meets n g.ask else n) gs

-- the frame behind a slave with this station
abbrev pub grams_after : {B S : Type 0} → ℕ → Node B S → List (Gram B) → List (Gram B)
grams_after station n [] = []
grams_after station n (g ∷ gs) =
    (if g.station == station then gram_meets n g.ask g else g) ∷ grams_after station (if g.station == station then node_meets n g.ask else n) gs

-- the mail that a returned read of mailbox 1 brings
abbrev pub mail_back : {B : Type 0} → Gram B → Option (LinkMail B)
mail_back g = if g.counter == 0 then None else g.mail

-- the halves behind a returned datagram of theirs
abbrev pub halves_answered : {B : Type 0} → Halves B → Ask B → Gram B → Halves B
halves_answered h (Ask.WriteMail m) g = record h { out = out_answered h.out g.counter }
halves_answered h Ask.ReadMail g = record h { inn = read_answered h.inn (mail_back g) }
halves_answered h (Ask.WriteRequest bit) g = record h { inn = doubt_answered h.inn g.counter }
halves_answered h Ask.ReadAcknowledge g = record h { inn = asked_answered h.inn g.counter g.acknowledge }
halves_answered h Ask.Other g = h

-- the bodies that they accept by it
abbrev pub halves_accept : {B : Type 0} → Halves B → Ask B → Gram B → List B
halves_accept h (Ask.WriteMail m) g = []
halves_accept h Ask.ReadMail g = news h.inn.last (mail_back g)
halves_accept h (Ask.WriteRequest bit) g = []
halves_accept h Ask.ReadAcknowledge g = []
halves_accept h Ask.Other g = []

-- the halves behind a datagram of theirs that was lost
abbrev pub halves_lost : {B : Type 0} → Halves B → Ask B → Halves B
halves_lost h (Ask.WriteMail m) = h
halves_lost h Ask.ReadMail = record h { inn = read_lost h.inn }
halves_lost h (Ask.WriteRequest bit) = h
halves_lost h Ask.ReadAcknowledge = h
halves_lost h Ask.Other = h

-- the halves of this station behind a returned frame, datagram by datagram
abbrev pub halves_after : {B : Type 0} → ℕ → Halves B → List (Gram B) → Halves B
halves_after station h [] = h
halves_after station h (g ∷ gs) = halves_after station (if g.station == station then halves_answered h g.ask g else h) gs

-- the bodies that they accept by it
abbrev pub all_accepted : {B : Type 0} → ℕ → Halves B → List (Gram B) → List B
all_accepted station h [] = []
all_accepted station h (g ∷ gs) =
    (if g.station == station then halves_accept h g.ask g else []) ++ all_accepted station (if g.station == station then halves_answered h g.ask g else h) gs

-- the halves of this station behind a lost frame
abbrev pub halves_without : {B : Type 0} → ℕ → Halves B → List (Gram B) → Halves B
halves_without station h [] = h
halves_without station h (g ∷ gs) = halves_without station (if g.station == station then halves_lost h g.ask else h) gs

-- the datagrams of a frame that are addressed to this station, in order
abbrev pub own : {B : Type 0} → ℕ → List (Gram B) → List (Gram B)
own station [] = []
own station (g ∷ gs) = if g.station == station then g ∷ own station gs else own station gs

-- what the datagram of the inward half asks
abbrev pub in_ask : {B : Type 0} → InState → Bool → Ask B
in_ask InState.Clear bit = Ask.ReadMail
in_ask InState.Doubt bit = Ask.WriteRequest bit
in_ask InState.Asked bit = Ask.ReadAcknowledge
in_ask InState.Refetch bit = Ask.ReadMail

-- datagrams to one station, in any order: the write of the mail held at most once, the datagram of the inward
-- half at most once, both with working counter 0, and others
pub data IsSent {B : Type 0} : Option (LinkMail B) → Option InHalf → List (Gram B) → Type 0 where
  nothing : {held : Option (LinkMail B)} {inn : Option InHalf} → IsSent held inn []
  other : {held : Option (LinkMail B)} {inn : Option InHalf} (g : Gram B) (gs : List (Gram B)) → g.ask ≡ Ask.Other → IsSent held inn gs → IsSent held inn (g ∷ gs)
  write : {inn : Option InHalf} (m : LinkMail B) (g : Gram B) (gs : List (Gram B)) → g.ask ≡ Ask.WriteMail m → g.counter ≡ 0 → IsSent None inn gs → IsSent (Some m) inn (g ∷ gs)
  inward : {held : Option (LinkMail B)} (h : InHalf) (g : Gram B) (gs : List (Gram B)) → g.ask ≡ in_ask h.state h.bit → g.counter ≡ 0 → IsSent held None gs → IsSent held (Some h) (g ∷ gs)

-- the frame has, for a station with these halves, each half's datagram at most once and any others
abbrev pub IsFrameFor : {B : Type 0} → ℕ → Halves B → List (Gram B) → Type 0
IsFrameFor station h gs = IsSent h.out.holding (Some h.inn) (own station gs)

-- the event of one link that a datagram is, before further ones
abbrev pub event_of : {B S : Type 0} → Fate → Ask B → List (Event B S) → List (Event B S)
event_of fate (Ask.WriteMail m) es = Event.Out fate ∷ es
event_of fate Ask.ReadMail es = Event.In fate ∷ es
event_of fate (Ask.WriteRequest bit) es = Event.In fate ∷ es
event_of fate Ask.ReadAcknowledge es = Event.In fate ∷ es
event_of fate Ask.Other es = es

-- the events of one link that the datagrams to its station are
abbrev pub events_of : {B S : Type 0} → Fate → List (Gram B) → List (Event B S)
events_of fate [] = []
events_of fate (g ∷ gs) = event_of fate g.ask (events_of fate gs)
