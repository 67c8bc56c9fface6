-- A computed run of the toy exchange over two slaves: a lost write, a lost read with its repeat, an answer while its mail is still held
-- (the slave's processor is slow), and a frame for both slaves.
use Rattle.std.proofs.Common.{◌≡◌, ℕ, true, false, Option, Some, None, List, [], ◌∷◌, map, take, refl, arith}
use Rattle.exchange_model.specs.Toy.{Mail, first, second, posted, held, total, noted, Service, sum, post, Adder, adder}
use Rattle.exchange_model.specs.Rows.{Row}
use Rattle.link_model.specs.Frames.{Ask, IsSent.nothing, IsSent.write, IsSent.inward}
use Rattle.link_model.specs.Segment.{RingFate}
use Rattle.segment_model.specs.Slaves.{Registers, Processor, IsStill, Address, Access, Datagram}
use Rattle.segment_model.specs.Record.{heard, news_from, first_end}
use Rattle.segment_model.specs.Ends.{Task, Outcome, ends}
use Rattle.segment_model.specs.Split.{IsBound}
use Rattle.segment_model.specs.Laws.{EachOf, Promised, HandedBy}
use Rattle.exchange_model.proofs.Toys.{adder_law}
use Rattle.segment_model.proofs.Bounds.{bound_promised, bound_handed}
use Rattle.segment_model.specs.Seats.{Session, Seat, Choice, Turn, Planned, rows_of, new_session, run, MayRun, IsPlan, sides_of, ring_of}

abbrev blank : Registers
blank = record { station = 4097; first = true; second = true; control = None; state = 2; refused = None }

abbrev two : List (Planned Adder)
two =
    record { station = 4097; server = record { value = 0; handled = 0; half = None }; registers = blank }
    ∷ record { station = 4098; server = record { value = 10; handled = 0; half = None }; registers = record blank { station = 4098 } } ∷ []

abbrev leave : Processor Adder
leave = record { carry = λ r. r; tell = λ state v. v }

abbrev asks : ℕ → Ask Mail → Datagram Mail
asks station ask = record {
  gram = record { station = station; ask = ask; counter = 0; mail = None; acknowledge = false };
  address = Address.Station station;
  access = Access.Elsewhere;
  counter = 0;
  found = None;
}

abbrev writes : ℕ → ℕ → Mail → Datagram Mail
writes station counter m = asks station (Ask.WriteMail (record { counter = counter; body = m }))

abbrev turn : List (Choice Service) → List (Datagram Mail) → RingFate → List ℕ → Turn Mail Service
turn choices sent fate steps = record { choices = choices; move = record { sent = sent; fate = fate; steps = steps } }

abbrev none : Choice Service
none = record { begin = None; hold = false }

abbrev holds : Choice Service
holds = record { begin = None; hold = true }

abbrev begins : Service → Choice Service
begins q = record { begin = Some q; hold = true }

abbrev both : List ℕ
both = 0 ∷ 1 ∷ []

-- the first sum: its write is met and lost and repeated; the read of its first answer is met and lost, and the mail fetched again; the second
-- write is met and lost while the slave is slow, comes back full, and the answer is read while the mail is still held
abbrev turns : List (Turn Mail Service)
turns =
    turn (begins (sum 3) ∷ []) (writes 4097 1 (first 3) ∷ []) (RingFate.Lost 1) both
    ∷ turn [] (writes 4097 1 (first 3) ∷ []) RingFate.Back both
    ∷ turn [] (asks 4097 Ask.ReadMail ∷ []) (RingFate.Lost 1) both
    ∷ turn [] (asks 4097 (Ask.WriteRequest true) ∷ []) RingFate.Back both
    ∷ turn [] (asks 4097 Ask.ReadAcknowledge ∷ []) RingFate.Back both
    ∷ turn [] (asks 4097 Ask.ReadMail ∷ []) RingFate.Back both
    ∷ turn (holds ∷ []) (writes 4097 2 second ∷ []) (RingFate.Lost 1) []
    ∷ turn [] (writes 4097 2 second ∷ []) RingFate.Back both
    ∷ turn [] (asks 4097 Ask.ReadMail ∷ []) RingFate.Back both
    ∷ turn (begins (post 4) ∷ begins (post 7) ∷ []) (writes 4098 1 (posted 7) ∷ writes 4097 2 second ∷ []) RingFate.Back both
    ∷ turn [] (asks 4097 Ask.ReadMail ∷ asks 4098 Ask.ReadMail ∷ []) RingFate.Back both
    ∷ turn (holds ∷ []) (writes 4097 3 (posted 4) ∷ []) RingFate.Back both
    ∷ turn [] (asks 4097 Ask.ReadMail ∷ []) RingFate.Back both
    ∷ []

abbrev ended : Session Adder Mail Service ℕ
ended = run adder leave (new_session [] two) turns

abbrev rows : List (Seat Adder Mail Service ℕ) → List (List (Row Mail Service ℕ))
rows ss = map (λ s. rows_of s.side) ss

abbrev values : List (Seat Adder Mail Service ℕ) → List (ℕ × ℕ)
values ss = map (λ s. (s.slave.node.server.server.value, s.slave.node.server.server.handled)) ss

all_rows : rows ended.seats ≡
    (record { service = sum 3; frame = 0; told = first 3 ∷ second ∷ []; heard = held ∷ total 3 ∷ []; answer = Some (3, 8) }
    ∷ record { service = post 4; frame = 9; told = posted 4 ∷ []; heard = noted 3 ∷ noted 4 ∷ []; answer = None } ∷ [])
    ∷ (record { service = post 7; frame = 9; told = posted 7 ∷ []; heard = noted 7 ∷ []; answer = None } ∷ []) ∷ []
all_rows = refl

all_values : values ended.seats ≡ (7, 2) ∷ (17, 1) ∷ []
all_values = refl

all_heard : (heard 4097 ended.frames ≡ held ∷ total 3 ∷ noted 3 ∷ noted 4 ∷ []) × (heard 4098 ended.frames ≡ noted 7 ∷ [])
all_heard = (refl, refl)

-- the answer is read while the mail of its service is still held
answered_while_held : (let w = run adder leave (new_session [] two) (take 9 turns) in map (λ s. s.side.halves.out.holding) w.seats) ≡ Some (record { counter = 2; body = second }) ∷ None ∷ []
answered_while_held = refl

-- what the record says of each service, from its own frame on: the second mail of the sum, written again in the row of the post, is no mail of it
abbrev outcome : ℕ → ℕ → Service → Option (Outcome ℕ × ℕ)
outcome station frame q = first_end (ends adder.speech (λ m. false) (Task.Mails q)) frame [] (news_from station frame ended.frames)

outcomes : (outcome 4097 0 (sum 3) ≡ Some (Outcome.Replied 3, 8)) × (outcome 4097 9 (post 4) ≡ Some (Outcome.Handed, 11)) × (outcome 4098 9 (post 7) ≡ Some (Outcome.Handed, 9))
outcomes = (refl, refl, refl)

-- and each frame is one that the master may send
may : MayRun adder leave (new_session [] two) turns
may = ((write _ _ _ refl refl nothing, (nothing, tt)), ((write _ _ _ refl refl nothing, (nothing, tt)), ((inward _ _ _ refl refl nothing, (nothing, tt)), ((inward _ _ _ refl refl nothing, (nothing, tt)), ((inward _ _ _ refl refl nothing, (nothing, tt)), ((inward _ _ _ refl refl nothing, (nothing, tt)), ((write _ _ _ refl refl nothing, (nothing, tt)), ((write _ _ _ refl refl nothing, (nothing, tt)), ((inward _ _ _ refl refl nothing, (nothing, tt)), ((write _ _ _ refl refl nothing, (write _ _ _ refl refl nothing, tt)), ((inward _ _ _ refl refl nothing, (inward _ _ _ refl refl nothing, tt)), ((write _ _ _ refl refl nothing, (nothing, tt)), ((inward _ _ _ refl refl nothing, (nothing, tt)), tt)))))))))))))

-- so the laws speak of this run
plan : IsPlan adder two
plan = record { stations = (((λ e. absurd (omega (arith, e))), tt), (tt, tt)); ready = (refl, (refl, tt)) }

bound : IsBound adder leave two (sides_of ended.seats) (ring_of ended.seats) ended.frames
bound = record { opening = []; quiet = tt; turns = turns; may = may; sides = refl; ring = refl; frames = refl }

still : IsStill leave
still state v = refl

promised : EachOf (Promised adder (λ m. false) ended.frames) two (sides_of ended.seats) (ring_of ended.seats)
promised = bound_promised adder adder_law (λ m. false) leave still two plan (sides_of ended.seats) (ring_of ended.seats) ended.frames bound

handed : EachOf (HandedBy adder (λ m. false) ended.frames) two (sides_of ended.seats) (ring_of ended.seats)
handed = bound_handed adder adder_law (λ m. false) leave still two plan (sides_of ended.seats) (ring_of ended.seats) ended.frames bound
