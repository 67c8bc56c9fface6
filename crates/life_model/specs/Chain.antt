-- The epochs of a life one behind the other, with the frames of the run, as a book has them.
use Rattle.std.specs.Prelude.{◌≡◌, ℕ, suc, ◌<◌, ◌≤◌, ◌==◌, ◌&&◌, ◌||◌, Bool, true, false, not, is_some, if◌then◌else◌, Option, Some, None, List, [], ◌∷◌, ◌++◌, length, ⊤}
use Rattle.state_model.specs.of_exchange_model.Exchange.{Exchange, IsLawful}
use Rattle.state_model.specs.of_segment_model.Slaves.{Registers, Processor, Slave, Datagram}
use Rattle.state_model.specs.of_segment_model.Record.{Frame, is_for}
use Rattle.state_model.specs.of_segment_model.Ends.{Outcome}
use Rattle.state_model.specs.of_segment_model.Books.{Answer}
use Rattle.state_model.specs.States.{Table}
use Rattle.state_model.specs.Stated.{Stated, IsStated, Service}
use Rattle.state_model.specs.Accounts.{Started}
use Rattle.state_model.specs.Promise.{services_in}
use Rattle.life_model.specs.Own.{own}
use Rattle.life_model.specs.Lives.{Spot, Era, returns_to_init, opens_state, is_shown}
use Rattle.life_model.specs.Eras.{EraIs, OpenEra}
use Rattle.life_model.specs.Book.{Line, EpochBook, epoch_book, NoInits, IsTail}
use Rattle.life_model.specs.Answers.{between, first_gave, end_of}

-- the same application but for its AL state
abbrev pub Same : {V A Q : Type 0} → Stated V A Q → A → A → Type 0
Same s a b = (k : ℕ) → s.told k a ≡ s.told k b

-- a return to Init acts on all but the AL state
abbrev pub KeepsSame : {V A Q : Type 0} → Stated V A Q → (A → A) → Type 0
KeepsSame {A = A} s cleared = (a b : A) → Same s a b → Same s (cleared a) (cleared b)

-- an application behind a return to Init, where there was one
abbrev pub behind_clear : {A : Type 0} → (A → A) → Option ℕ → A → A
behind_clear cleared frame a = if is_some frame then cleared a else a

-- the answer of a state service that returned its slave to Init: it reached its state where the epoch was opened
abbrev pub own_answer : {R : Type 0} → Option ℕ → Answer R
own_answer None = Answer.InDoubt
own_answer (Some opened) = Answer.Ended Outcome.Reached opened

-- the row of that service, the first of its epoch
abbrev pub own_line : {Q R : Type 0} → ℕ → ℕ → Option ℕ → Line Q R
own_line target frame opened = record { service = Service.State target; frame = frame; answer = own_answer opened }

-- an epoch with that row before its others
abbrev pub with_own : {M Q R : Type 0} → ℕ → ℕ → EpochBook M Q R → EpochBook M Q R
with_own target frame e = record e { lines = own_line target frame e.opened ∷ e.lines }

-- such a service that a give-up, or the end of the run, left in doubt before the return was seen: the last row of its epoch
abbrev pub doubt_line : {Q R : Type 0} → ℕ → ℕ → Line Q R
doubt_line target frame = record { service = Service.State target; frame = frame; answer = Answer.InDoubt }

-- an epoch with that row behind its others
abbrev pub with_doubt : {M Q R : Type 0} → ℕ → ℕ → EpochBook M Q R → EpochBook M Q R
with_doubt target frame e = record e { lines = e.lines ++ doubt_line target frame ∷ [] }

-- an epoch that was cleared and not opened
abbrev pub unopened : {M Q R : Type 0} → Option ℕ → List (Line Q R) → EpochBook M Q R
unopened cleared ls = record { cleared = cleared; opened = None; lines = ls; handled = 0; received = [] }

-- THE SLAVE IS LEFT ALONE: these frames have no datagram addressed to its station, as they were sent and as they came back
abbrev pub AreLeft : {M : Type 0} → ℕ → List (Frame M) → Type 0
AreLeft station [] = ⊤
AreLeft station (f ∷ fs) = ((own station f.sent ≡ []) × (own station f.back ≡ [])) × AreLeft station fs

-- it is behind each give-up of an epoch that was opened so, up to the epoch's end
abbrev pub LeftBehind : {M : Type 0} → ℕ → ℕ → ℕ → List (Frame M) → List ℕ → Type 0
LeftBehind station opened end fs [] = ⊤
LeftBehind station opened end fs (g ∷ gs) = (opened < g → AreLeft station (between (suc g) end fs)) × LeftBehind station opened end fs gs

-- these rows began behind this frame
abbrev pub AllBegin : {Q : Type 0} → ℕ → List (Started Q) → Type 0
AllBegin opened [] = ⊤
AllBegin opened (r ∷ rs) = (opened < r.frame) × AllBegin opened rs

-- one of these datagrams came back and shows this AL state, without the error flag, to a master that asked this station
abbrev pub any_shows : {M : Type 0} → ℕ → ℕ → List (Datagram M) → Bool
any_shows station state [] = false
any_shows station state (d ∷ ds) = (is_for station d.address && not (d.counter == 0) && is_shown state d.found) || any_shows station state ds

-- no frame of these does
abbrev pub NoneShow : {M : Type 0} → ℕ → ℕ → List (Frame M) → Type 0
NoneShow station state [] = ⊤
NoneShow station state (f ∷ fs) = (any_shows station state f.back ≡ false) × NoneShow station state fs

-- THE STATE IS SHOWN FIRST behind one frame by another
pub record IsShownFirst {M : Type 0} (station state cleared opened : ℕ) (fs : List (Frame M)) : Type 0 where
  pub before : List (Frame M)
  pub frame : Frame M
  pub behind : List (Frame M)
  pub all : fs ≡ before ++ frame ∷ behind
  pub at : length before ≡ opened
  pub later : cleared < opened
  pub shows : any_shows station state frame.back ≡ true
  pub none : NoneShow station state (between (suc cleared) opened fs)

module _ {V A M Q R : Type 0} (x : Exchange V A M Q R) (lawful : IsLawful x) (s : Stated V A Q) (stated : IsStated x s) (processor : Processor V) (table : ℕ → Table) (cleared : A → A) (more : M → Bool) (spot : Spot) (fs : List (Frame M)) where
  -- an opened epoch of this slave
  pub record Epoch : Type 0 where
    pub era : Era M Q R
    pub opened : ℕ
    pub until : ℕ
    pub server : V
    pub registers : Registers
    pub slave : Slave V M
    pub is : EraIs x s processor table spot era opened until fs server registers slave
    -- its rows, and the state service that ends it, which is a row of the next, or left in doubt
    pub rows : List (Started Q)
    pub tail : List (Started Q)
    pub all : era.account.started ≡ rows ++ tail
    pub quiet : NoInits (services_in rows)
    pub last : IsTail tail

  -- as it stands
  abbrev pub open_era : Epoch → OpenEra V A M Q R
  open_era e = record {
    exchange = x;
    states = s;
    processor = processor;
    table = table;
    spot = spot;
    era = e.era;
    opened = e.opened;
    end = e.until;
    frames = fs;
    server = e.server;
    registers = e.registers;
    slave = e.slave;
    lawful = lawful;
    stated = stated;
    is = e.is;
  }

  -- in the book
  abbrev pub booked : Epoch → EpochBook M Q R
  booked e = epoch_book (open_era e) more e.rows

  -- the application that it leaves
  abbrev pub leaves : Epoch → A
  leaves e = x.app e.slave.node.server.server

  module _ (gave : List ℕ) where
    -- WHEN an epoch with this end was: it was opened behind its return to Init, its session lasts from there on to some frame, its rows began in
    -- it; behind its session, and behind each give-up, its slave is left alone
    pub record Timed (e : Epoch) (end : ℕ) : Type 0 where
      pub returned : (frame : ℕ) → e.era.cleared ≡ Some frame → frame < e.opened
      pub since : e.opened < e.until
      pub within : e.until ≤ end
      pub begins : AllBegin e.opened e.era.account.started
      pub behind : AreLeft spot.station (between e.until end fs)
      pub gives : LeftBehind spot.station e.opened end fs gave

    -- HOW ITS ROWS ARE WRITTEN: all of them; all but the state service that returned the slave to Init, which is a row of the next epoch; or
    -- that service too, in doubt
    pub data Written (e : Epoch) (end : ℕ) : List (Started Q) → EpochBook M Q R → Type 0 where
      whole : e.tail ≡ [] → Written e end [] (booked e)
      moved : (r : Started Q) → e.tail ≡ r ∷ [] → Written e end (r ∷ []) (booked e)
      doubted : (target frame : ℕ) → e.tail ≡ record { service = Service.State target; frame = frame } ∷ [] → returns_to_init target ≡ true →
          NoneShow spot.station (opens_state target) (between frame end fs) → Written e end [] (with_doubt target frame (booked e))

    -- ALL EPOCHS OF A LIFE, from the application before them to the one behind, up to this frame. Each begins with what the one before left,
    -- cleared, and told the state that was opened: the start state, or that of the state service that returned the slave to Init, which came into
    -- hand in the epoch before and is its first row
    pub data Chained (stop : ℕ) (carried : List (Started Q)) (end : A) : List (Started Q) → A → List (EpochBook M Q R) → Type 0 where
      none : Chained stop carried end carried end []
      taken_up : (a : A) (e : Epoch) (carry : List (Started Q)) (body : EpochBook M Q R) (es : List (EpochBook M Q R)) → x.app e.server ≡ s.told spot.start (behind_clear cleared e.era.cleared a) →
          Timed e (end_of stop es) → Written e (end_of stop es) carry body → Chained stop carried end carry (leaves e) es → Chained stop carried end [] a (body ∷ es)
      own_opened : (a : A) (e : Epoch) (target frame cleared_at : ℕ) (carry : List (Started Q)) (body : EpochBook M Q R) (es : List (EpochBook M Q R)) → returns_to_init target ≡ true → e.era.cleared ≡ Some cleared_at → frame < cleared_at →
          IsShownFirst spot.station (opens_state target) cleared_at e.opened fs → e.opened < first_gave gave frame (end_of stop es) → x.app e.server ≡ s.told (opens_state target) (cleared a) →
          Timed e (end_of stop es) → Written e (end_of stop es) carry body → Chained stop carried end carry (leaves e) es →
          Chained stop carried end (record { service = Service.State target; frame = frame } ∷ []) a (with_own target frame body ∷ es)
      closed : (a : A) (cleared_at : Option ℕ) (es : List (EpochBook M Q R)) → Chained stop carried end [] (behind_clear cleared cleared_at a) es → Chained stop carried end [] a (unopened cleared_at [] ∷ es)
      own_closed : (a : A) (target frame cleared_at : ℕ) (es : List (EpochBook M Q R)) → returns_to_init target ≡ true → frame < cleared_at →
          NoneShow spot.station (opens_state target) (between (suc cleared_at) (first_gave gave frame (end_of stop es)) fs) → Chained stop carried end [] (cleared a) es →
          Chained stop carried end (record { service = Service.State target; frame = frame } ∷ []) a (unopened (Some cleared_at) (own_line target frame None ∷ []) ∷ es)

-- each epoch of these ends within so many frames
abbrev pub AllEnd : {M Q R : Type 0} → ℕ → ℕ → List (EpochBook M Q R) → Type 0
AllEnd frames stop [] = ⊤
AllEnd frames stop (e ∷ es) = (end_of stop es ≤ frames) × AllEnd frames stop es

-- none of these numbers is below this one
abbrev pub NoneBelow : ℕ → List ℕ → Type 0
NoneBelow frame [] = ⊤
NoneBelow frame (g ∷ gs) = (frame ≤ g) × NoneBelow frame gs
