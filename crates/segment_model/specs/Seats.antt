-- A session with a segment: per slave the master's side, the slave, and the mails that went between them; its steps by frames; its record.
use Rattle.std.specs.Prelude.{◌≡◌, ℕ, zero, suc, ◌==◌, ◌&&◌, ◌||◌, Bool, true, false, not, is_none, is_some, if◌then◌else◌, Option, Some, None, option_map, List, [], ◌∷◌, ◌++◌, map, length, ⊤}
use Rattle.exchange_model.specs.Exchange.{Exchange, Speech}
use Rattle.exchange_model.specs.Rows.{Row, begun, row_heard, row_told, left}
use Rattle.link_model.specs.Master.{out_hold}
use Rattle.link_model.specs.Slave.{node_look, node_take, node_takes, node_offers}
use Rattle.link_model.specs.Link.{Halves, Link, new_link}
use Rattle.link_model.specs.Mails.{LinkMail}
use Rattle.link_model.specs.Frames.{Ask, Gram, halves_after, halves_without, all_accepted, IsFrameFor}
use Rattle.link_model.specs.Segment.{RingFate, Distinct}
use Rattle.segment_model.specs.Slaves.{Serving, serving, Registers, Processor, state_told, Datagram, grams, Slave, Ring, slave_after, frame_after, slave_steps, ring_back, Move}
use Rattle.segment_model.specs.Record.{Frame}

-- the master's side of one slave: its two halves, whether the mail held was not yet sent, the rows that are over, and the newest row
pub record Side (M Q R : Type 0) : Type 0 where
  pub halves : Halves M
  pub fresh : Bool
  pub past : List (Row M Q R)
  pub now : Option (Row M Q R)

-- one slave of a session: its station, the server that it began with, the master's side and the slave, and, as ghosts, the mails held,
-- taken, offered and accepted
pub record Seat (V M Q R : Type 0) : Type 0 where
  pub station : ℕ
  pub start : V
  pub side : Side M Q R
  pub slave : Slave V M
  pub held : List M
  pub taken : List M
  pub offered : List M
  pub accepted : List M

-- what a master chooses for one slave before a frame: the service that comes into hand, and whether the next mail is taken up
pub record Choice (Q : Type 0) : Type 0 where
  pub begin : Option Q
  pub hold : Bool

-- one turn of a session: the master's choices, the frame with its fate, and the places at which processors step behind it
pub record Turn (M Q : Type 0) : Type 0 where
  pub choices : List (Choice Q)
  pub move : Move M

-- the moves of turns
abbrev pub moves : {M Q : Type 0} → List (Turn M Q) → List (Move M)
moves ts = map (λ t. t.move) ts

-- the link of a seat
abbrev pub link_of : {V M Q R : Type 0} → Seat V M Q R → Link M (Serving V M)
link_of s = record { halves = s.side.halves; node = s.slave.node; held = s.held; taken = s.taken; offered = s.offered; accepted = s.accepted }

-- the newest row in a list
abbrev pub newest : {M Q R : Type 0} → Option (Row M Q R) → List (Row M Q R)
newest None = []
newest (Some r) = r ∷ []

-- all rows of a side
abbrev pub rows_of : {M Q R : Type 0} → Side M Q R → List (Row M Q R)
rows_of d = d.past ++ newest d.now

-- no mail is left
abbrev pub is_none_left : {M : Type 0} → List M → Bool
is_none_left [] = true
is_none_left (m ∷ ms) = false

-- a row is over: nothing is left to tell, and it has its answer and its last mail was sent, or, where it has none and ends with its last
-- write, that write is done
abbrev pub is_over : {M Q R : Type 0} → Speech M Q R → Option (LinkMail M) → Bool → Row M Q R → Bool
is_over x holding fresh r = is_none_left (left x r) && (if x.handed r.service && is_none r.answer then is_none holding else is_some r.answer && not fresh)

-- a service comes into hand, where it is one of those that the laws speak of and the newest row is over
abbrev pub side_begins : {M Q R : Type 0} → Speech M Q R → ℕ → Side M Q R → Option (Row M Q R) → Option Q → Side M Q R
side_begins x frame d now None = d
side_begins x frame d None (Some q) = if x.valid q then record d { now = Some (begun q frame) } else d
side_begins x frame d (Some r) (Some q) =
    if x.valid q && is_over x d.halves.out.holding d.fresh r then record d { past = d.past ++ r ∷ []; now = Some (begun q frame) } else d

-- the first mail of those left
abbrev pub first_left : {M : Type 0} → List M → List M
first_left [] = []
first_left (m ∷ ms) = m ∷ []

-- the next mail of the row in hand is taken up, where the outward half is idle
abbrev pub next_mail : {M Q R : Type 0} → Speech M Q R → Option (Row M Q R) → Option (LinkMail M) → Bool → List M
next_mail x now holding false = []
next_mail x None holding true = []
next_mail x (Some r) (Some m) true = []
next_mail x (Some r) None true = first_left (left x r)

-- the side behind the mail that it takes up
abbrev pub side_holds : {M Q R : Type 0} → Side M Q R → List M → Side M Q R
side_holds d [] = d
side_holds d (m ∷ ms) = record {
  halves = record d.halves { out = out_hold d.halves.out m };
  fresh = true;
  past = d.past;
  now = option_map (λ r. row_told m r) d.now;
}

-- the side before a frame, by this choice
abbrev pub side_next : {M Q R : Type 0} → Speech M Q R → ℕ → Side M Q R → Choice Q → Side M Q R
side_next x frame d c =
    let e = side_begins x frame d d.now c.begin in
    side_holds e (next_mail x e.now e.halves.out.holding c.hold)

-- the mails that it takes up by this choice
abbrev pub side_takes_up : {M Q R : Type 0} → Speech M Q R → ℕ → Side M Q R → Choice Q → List M
side_takes_up x frame d c =
    let e = side_begins x frame d d.now c.begin in
    next_mail x e.now e.halves.out.holding c.hold

-- the frame writes mailbox 0 of this station
abbrev pub is_write : {M : Type 0} → Ask M → Bool
is_write (Ask.WriteMail m) = true
is_write Ask.ReadMail = false
is_write (Ask.WriteRequest bit) = false
is_write Ask.ReadAcknowledge = false
is_write Ask.Other = false

-- a write of mailbox 0 for this station stands in the frame
abbrev pub writes : {M : Type 0} → ℕ → List (Gram M) → Bool
writes station [] = false
writes station (g ∷ gs) = if g.station == station then is_write g.ask || writes station gs else writes station gs

-- the side of this station behind a frame that came back
abbrev pub side_back : {M Q R : Type 0} → Speech M Q R → ℕ → ℕ → List (Datagram M) → Side M Q R → Side M Q R
side_back x frame station back d = record {
  halves = halves_after station d.halves (grams back);
  fresh = d.fresh && not (writes station (grams back));
  past = d.past;
  now = option_map (λ r. row_heard x frame (all_accepted station d.halves (grams back)) r) d.now;
}

-- and behind a lost one
abbrev pub side_lost : {M Q R : Type 0} → ℕ → List (Datagram M) → Side M Q R → Side M Q R
side_lost station sent d = record d { halves = halves_without station d.halves (grams sent); fresh = d.fresh && not (writes station (grams sent)) }

-- the seat before a frame
abbrev pub seat_next : {V A M Q R : Type 0} → Exchange V A M Q R → ℕ → Seat V M Q R → Choice Q → Seat V M Q R
seat_next x frame s c = record s { side = side_next x.speech frame s.side c; held = s.held ++ side_takes_up x.speech frame s.side c }

-- all seats before a frame, by a choice each
abbrev pub seats_next : {V A M Q R : Type 0} → Exchange V A M Q R → ℕ → List (Seat V M Q R) → List (Choice Q) → List (Seat V M Q R)
seats_next x frame [] cs = []
seats_next x frame (s ∷ ss) [] = s ∷ ss
seats_next x frame (s ∷ ss) (c ∷ cs) = seat_next x frame s c ∷ seats_next x frame ss cs

-- a seat behind a frame that came back as `back`
abbrev pub seat_back : {V A M Q R : Type 0} → Exchange V A M Q R → ℕ → Seat V M Q R → List (Datagram M) → List (Datagram M) → Seat V M Q R
seat_back x frame s ds back = record s {
  side = side_back x.speech frame s.station back s.side;
  slave = slave_after s.station s.slave ds;
  accepted = s.accepted ++ all_accepted s.station s.side.halves (grams back);
}

-- all seats behind it, in ring order
abbrev pub seats_back : {V A M Q R : Type 0} → Exchange V A M Q R → ℕ → List (Seat V M Q R) → List (Datagram M) → List (Datagram M) → List (Seat V M Q R)
seats_back x frame [] ds back = []
seats_back x frame (s ∷ ss) ds back = seat_back x frame s ds back ∷ seats_back x frame ss (frame_after s.station s.slave ds) back

-- and behind one that was sent as `sent` and lost behind so many slaves
abbrev pub seats_lost : {V M Q R : Type 0} → ℕ → List (Seat V M Q R) → List (Datagram M) → List (Datagram M) → List (Seat V M Q R)
seats_lost after [] ds sent = []
seats_lost zero (s ∷ ss) ds sent = record s { side = side_lost s.station sent s.side } ∷ seats_lost zero ss ds sent
seats_lost (suc k) (s ∷ ss) ds sent =
    record s { side = side_lost s.station sent s.side; slave = slave_after s.station s.slave ds } ∷ seats_lost k ss (frame_after s.station s.slave ds) sent

-- the ring of a session
abbrev pub ring_of : {V M Q R : Type 0} → List (Seat V M Q R) → Ring V M
ring_of ss = map (λ s. (s.station, s.slave)) ss

-- the master's sides with their stations
abbrev pub sides_of : {V M Q R : Type 0} → List (Seat V M Q R) → List (ℕ × Side M Q R)
sides_of ss = map (λ s. (s.station, s.side)) ss

-- the stations
abbrev pub stations_of : {V M Q R : Type 0} → List (Seat V M Q R) → List ℕ
stations_of ss = map (λ s. s.station) ss

-- the seats behind a frame of this fate
abbrev pub seats_after : {V A M Q R : Type 0} → Exchange V A M Q R → ℕ → List (Seat V M Q R) → List (Datagram M) → RingFate → List (Seat V M Q R)
seats_after x frame ss ds RingFate.Back = seats_back x frame ss ds (ring_back (ring_of ss) ds RingFate.Back)
seats_after x frame ss ds (RingFate.Lost after) = seats_lost after ss ds ds

-- the step of a seat's processor, with the mails that it takes and offers
abbrev pub seat_steps : {V A M Q R : Type 0} → Exchange V A M Q R → Processor V → Seat V M Q R → Seat V M Q R
seat_steps x processor s =
    let n = state_told processor (processor.carry s.slave.registers).state (node_look s.slave.node) in
    let k = node_take (serving x) n in
    record s { slave = slave_steps x processor s.slave; taken = s.taken ++ node_takes (serving x) n; offered = s.offered ++ node_offers (serving x) k }

-- the slave at the k-th place makes one
abbrev pub seat_steps_at : {V A M Q R : Type 0} → Exchange V A M Q R → Processor V → ℕ → List (Seat V M Q R) → List (Seat V M Q R)
seat_steps_at x processor k [] = []
seat_steps_at x processor zero (s ∷ ss) = seat_steps x processor s ∷ ss
seat_steps_at x processor (suc k) (s ∷ ss) = s ∷ seat_steps_at x processor k ss

-- the slaves at these places make one each, in this order
abbrev pub seats_step : {V A M Q R : Type 0} → Exchange V A M Q R → Processor V → List (Seat V M Q R) → List ℕ → List (Seat V M Q R)
seats_step x processor ss [] = ss
seats_step x processor ss (k ∷ ks) = seats_step x processor (seat_steps_at x processor k ss) ks

-- A SESSION: its seats in ring order, and the frames so far
pub record Session (V M Q R : Type 0) : Type 0 where
  pub seats : List (Seat V M Q R)
  pub frames : List (Frame M)

-- one turn of it
abbrev pub happens : {V A M Q R : Type 0} → Exchange V A M Q R → Processor V → Session V M Q R → Turn M Q → Session V M Q R
happens x processor w t =
    let next = seats_next x (length w.frames) w.seats t.choices in
    record {
      seats = seats_step x processor (seats_after x (length w.frames) next t.move.sent t.move.fate) t.move.steps;
      frames = w.frames ++ record { sent = t.move.sent; fate = t.move.fate; back = ring_back (ring_of next) t.move.sent t.move.fate } ∷ [];
    }

-- any list of them
abbrev pub run : {V A M Q R : Type 0} → Exchange V A M Q R → Processor V → Session V M Q R → List (Turn M Q) → Session V M Q R
run x processor w [] = w
run x processor w (t ∷ ts) = run x processor (happens x processor w t) ts

-- a frame has each half's datagram at most once, and any others that are no access of a mailbox
abbrev pub IsFrame : {V M Q R : Type 0} → List (Seat V M Q R) → List (Datagram M) → Type 0
IsFrame [] ds = ⊤
IsFrame (s ∷ ss) ds = IsFrameFor s.station s.side.halves (grams ds) × IsFrame ss ds

-- each turn of the list may come where it comes
abbrev pub MayRun : {V A M Q R : Type 0} → Exchange V A M Q R → Processor V → Session V M Q R → List (Turn M Q) → Type 0
MayRun x processor w [] = ⊤
MayRun x processor w (t ∷ ts) = IsFrame (seats_next x (length w.frames) w.seats t.choices) t.move.sent × MayRun x processor (happens x processor w t) ts

-- a slave of a plan: its station, its server and its registers at the end of bring-up
pub record Planned (V : Type 0) : Type 0 where
  pub station : ℕ
  pub server : V
  pub registers : Registers

-- a seat at the end of bring-up
abbrev pub new_seat : {V M Q R : Type 0} → Planned V → Seat V M Q R
new_seat p =
    let w = new_link (record { server = p.server; waiting = [] }) in
    record {
      station = p.station;
      start = p.server;
      side = record { halves = w.halves; fresh = false; past = []; now = None };
      slave = record { node = w.node; registers = p.registers };
      held = [];
      taken = [];
      offered = [];
      accepted = [];
    }

-- the seats of a plan at the end of bring-up
abbrev pub new_seats : {V M Q R : Type 0} → List (Planned V) → List (Seat V M Q R)
new_seats ps = map (λ p. new_seat p) ps

-- a session at the end of bring-up, which took these frames
abbrev pub new_session : {V M Q R : Type 0} → List (Frame M) → List (Planned V) → Session V M Q R
new_session opening ps = record { seats = new_seats ps; frames = opening }

-- no datagram of these is an access of a mailbox
abbrev pub NoMailbox : {M : Type 0} → List (Datagram M) → Type 0
NoMailbox [] = ⊤
NoMailbox (d ∷ ds) = (d.gram.ask ≡ Ask.Other) × NoMailbox ds

-- the frames of bring-up access no mailbox
abbrev pub IsOpening : {M : Type 0} → List (Frame M) → Type 0
IsOpening [] = ⊤
IsOpening (f ∷ fs) = (NoMailbox f.sent × NoMailbox f.back) × IsOpening fs

-- the servers are ready
abbrev pub AllReady : {V A M Q R : Type 0} → Exchange V A M Q R → List (Planned V) → Type 0
AllReady x [] = ⊤
AllReady x (p ∷ ps) = (x.ready p.server ≡ true) × AllReady x ps

-- a plan of which the laws speak: no station twice, and servers that are ready
pub record IsPlan {V A M Q R : Type 0} (x : Exchange V A M Q R) (ps : List (Planned V)) : Type 0 where
  pub stations : Distinct (map (λ p. p.station) ps)
  pub ready : AllReady x ps
