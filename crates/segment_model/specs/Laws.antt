-- What a session promises of each slave.
use Rattle.std.specs.Prelude.{◌≡◌, ℕ, ◌<◌, Bool, true, false, is_some, Option, Some, None, option_map, List, [], ◌∷◌, length, ⊤}
use Rattle.exchange_model.specs.Exchange.{Exchange, Speech}
use Rattle.exchange_model.specs.Rows.{Row, Fits, Rest}
use Rattle.link_model.specs.Master.{InState}
use Rattle.segment_model.specs.Slaves.{Slave, Ring}
use Rattle.segment_model.specs.Record.{Frame, first_end, news_from, heard, kept_all, nothing_kept}
use Rattle.segment_model.specs.Ends.{Task, Outcome, ends}
use Rattle.segment_model.specs.Seats.{Side, Seat, Planned, rows_of, is_over}

-- a fact of each seat
abbrev pub EachSeat : {V M Q R : Type 0} → (Seat V M Q R → Type 0) → List (Seat V M Q R) → Type 0
EachSeat P [] = ⊤
EachSeat P (s ∷ ss) = P s × EachSeat P ss

-- the answer of a row as an outcome, with its frame
abbrev pub as_outcome : {R : Type 0} → Option (R × ℕ) → Option (Outcome R × ℕ)
as_outcome answer = option_map (λ a. (Outcome.Replied a.0, a.1)) answer

-- A row has an answer exactly where the record completes its service from the row's frame on, and it is that answer, of that frame. A
-- service that ends with its last write has no reply.
pub record IsAnswered {M Q R : Type 0} (x : Speech M Q R) (more : M → Bool) (station : ℕ) (fs : List (Frame M)) (r : Row M Q R) : Type 0 where
  pub replied : x.handed r.service ≡ false → as_outcome r.answer ≡ first_end (ends x more (Task.Mails r.service)) r.frame [] (news_from station r.frame fs)
  pub handed : x.handed r.service ≡ true → r.answer ≡ None

-- each row of these is
abbrev pub AllAnswered : {M Q R : Type 0} → Speech M Q R → (M → Bool) → ℕ → List (Frame M) → List (Row M Q R) → Type 0
AllAnswered x more station fs [] = ⊤
AllAnswered x more station fs (r ∷ rs) = IsAnswered x more station fs r × AllAnswered x more station fs rs

-- the frame of the next row, or this number where no row follows
abbrev pub next_frame : {M Q R : Type 0} → List (Row M Q R) → ℕ → ℕ
next_frame [] end = end
next_frame (r ∷ rs) end = r.frame

-- each answer came before the next row began, and before the frame with this number
abbrev pub Rises : {M Q R : Type 0} → List (Row M Q R) → ℕ → Type 0
Rises [] end = ⊤
Rises {R = R} (r ∷ rs) end = ((answer : R × ℕ) → r.answer ≡ Some answer → answer.1 < next_frame rs end) × Rises rs end

-- THE PROMISE for the rows of one slave over these frames, between a server `start` and a server `end`: the answers are those that the frames
-- give, in the order of the rows; and the rows fit what the frames let the master hear, so the server has carried out just their first services
pub record RowsPromised {V A M Q R : Type 0} (x : Exchange V A M Q R) (more : M → Bool) (fs : List (Frame M)) (station : ℕ) (start : V)
    (rs : List (Row M Q R)) (end : V) : Type 0 where
  pub answers : AllAnswered x.speech more station fs rs
  pub rises : Rises rs (length fs)
  pub fits : Fits x start rs end (heard station fs)

-- for the master's side of a slave and the slave as they stand
abbrev pub Promised : {V A M Q R : Type 0} → Exchange V A M Q R → (M → Bool) → List (Frame M) → ℕ → V → Side M Q R → Slave V M → Type 0
Promised x more fs station start d n = RowsPromised x more fs station start (rows_of d) n.node.server.server

-- for a seat of a session
abbrev pub SeatPromised : {V A M Q R : Type 0} → Exchange V A M Q R → (M → Bool) → List (Frame M) → Seat V M Q R → Type 0
SeatPromised x more fs s = Promised x more fs s.station s.start s.side s.slave

-- a slave is settled: both mailboxes are empty, and nothing waits to be offered or is withdrawn
pub record IsSettled {V M : Type 0} (s : Slave V M) : Type 0 where
  pub first : s.node.out.box ≡ None
  pub second : s.node.inn.box ≡ None
  pub withdrawn : s.node.inn.withdrawn ≡ None
  pub waiting : s.node.server.waiting ≡ []

-- the newest row is over, where there is one
abbrev pub NothingInHand : {M Q R : Type 0} → Speech M Q R → Side M Q R → Option (Row M Q R) → Type 0
NothingInHand x d None = ⊤
NothingInHand x d (Some r) = is_over x d.halves.out.holding d.fresh r ≡ true

-- the master wants nothing of a slave: no service in hand, the outward half idle, the inward half clear
pub record WantsNothing {M Q R : Type 0} (x : Speech M Q R) (d : Side M Q R) : Type 0 where
  pub idle : d.halves.out.holding ≡ None
  pub clear : d.halves.inn.state ≡ InState.Clear
  pub nothing : NothingInHand x d d.now

-- with nothing left, the server of a slave has carried out all its rows, and all emissions were heard
abbrev pub Rests : {V A M Q R : Type 0} → Exchange V A M Q R → List (Frame M) → ℕ → V → Side M Q R → Slave V M → Type 0
Rests x fs station start d n = Rest x start (rows_of d) n.node.server.server (heard station fs)

-- it rests where it is settled and the master wants nothing of it
abbrev pub RestsIf : {V A M Q R : Type 0} → Exchange V A M Q R → List (Frame M) → ℕ → V → Side M Q R → Slave V M → Type 0
RestsIf x fs station start d n = IsSettled n → WantsNothing x.speech d → Rests x fs station start d n

-- for a seat of a session
abbrev pub SeatRests : {V A M Q R : Type 0} → Exchange V A M Q R → List (Frame M) → Seat V M Q R → Type 0
SeatRests x fs s = RestsIf x fs s.station s.start s.side s.slave

-- a fact of each slave of a plan, with the master's side of it and the slave as they stand, in ring order
abbrev pub EachOf : {V M Q R : Type 0} → (ℕ → V → Side M Q R → Slave V M → Type 0) → List (Planned V) → List (ℕ × Side M Q R) → Ring V M → Type 0
EachOf P [] [] [] = ⊤
EachOf P (p ∷ ps) (d ∷ ds) (n ∷ ns) = ((d.0 ≡ p.station) × (n.0 ≡ p.station) × P p.station p.server d.1 n.1) × EachOf P ps ds ns
EachOf P ps ds ns = ⊥

-- a service that ends with its last write: the record completes it exactly where its row is over
abbrev pub IsHanded : {M Q R : Type 0} → Speech M Q R → (M → Bool) → ℕ → List (Frame M) → Row M Q R → Bool → Type 0
IsHanded x more station fs r over = x.handed r.service ≡ true → is_some (first_end (ends x more (Task.Mails r.service)) r.frame [] (news_from station r.frame fs)) ≡ over

-- all rows but the newest are over
abbrev pub AllHanded : {M Q R : Type 0} → Speech M Q R → (M → Bool) → ℕ → List (Frame M) → List (Row M Q R) → Type 0
AllHanded x more station fs [] = ⊤
AllHanded x more station fs (r ∷ rs) = IsHanded x more station fs r true × AllHanded x more station fs rs

-- the newest is, as its half says
abbrev pub NowHanded : {M Q R : Type 0} → Speech M Q R → (M → Bool) → ℕ → List (Frame M) → Side M Q R → Option (Row M Q R) → Type 0
NowHanded x more station fs d None = ⊤
NowHanded x more station fs d (Some r) = IsHanded x more station fs r (is_over x d.halves.out.holding d.fresh r)

-- each outcome, of whichever kind, is of a frame before the next row's, and before the frame with this number
abbrev pub OutcomesRise : {M Q R : Type 0} → Speech M Q R → (M → Bool) → ℕ → List (Frame M) → List (Row M Q R) → ℕ → Type 0
OutcomesRise x more station fs [] end = ⊤
OutcomesRise {R = R} x more station fs (r ∷ rs) end =
    ((o : Outcome R × ℕ) → first_end (ends x more (Task.Mails r.service)) r.frame [] (news_from station r.frame fs) ≡ Some o → o.1 < next_frame rs end)
    × OutcomesRise x more station fs rs end

-- all this of one slave
pub record HandedBy {V A M Q R : Type 0} (x : Exchange V A M Q R) (more : M → Bool) (fs : List (Frame M)) (station : ℕ) (start : V)
    (d : Side M Q R) (n : Slave V M) : Type 0 where
  pub past : AllHanded x.speech more station fs d.past
  pub now : NowHanded x.speech more station fs d d.now
  pub rises : OutcomesRise x.speech more station fs (rows_of d) (length fs)

-- the master's side knows the counters of the record: its inward half that of the last mail heard, and its outward half, once its mail was
-- sent, that of the last mail told
pub record KnowsCounters {V M Q R : Type 0} (fs : List (Frame M)) (station : ℕ) (start : V) (d : Side M Q R) (n : Slave V M) : Type 0 where
  pub heard : d.halves.inn.last ≡ (kept_all station nothing_kept fs).heard
  pub told : d.fresh ≡ false → d.halves.out.last ≡ (kept_all station nothing_kept fs).told
