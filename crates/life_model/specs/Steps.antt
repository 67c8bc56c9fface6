-- What a life does as a run goes on: an epoch opens, goes on by a frame, and is over.
use Rattle.std.specs.Prelude.{◌≡◌, ℕ, suc, ◌<◌, Some, List, [], ◌∷◌, ◌++◌, length}
use Rattle.state_model.specs.of_segment_model.Record.{Frame}
use Rattle.state_model.specs.Accounts.{Started}
use Rattle.life_model.specs.Eras.{EraIs}
use Rattle.life_model.specs.Book.{EpochBook, SlaveBook}
use Rattle.life_model.specs.Answers.{return_of}
use Rattle.life_model.specs.Chain.{Epoch, booked, leaves, Chained, AllEnd}
use Rattle.life_model.specs.Open.{Setting, IsOpenLife, Begun, as_begun, GoesOn, IsOver}

-- the run with further frames
abbrev pub with_frames : {V A M Q R : Type 0} → Setting V A M Q R → List (Frame M) → Setting V A M Q R
with_frames w gs = record w { frames = w.frames ++ gs }

-- an opened epoch in a run
abbrev pub EpochOf : {V A M Q R : Type 0} → Setting V A M Q R → Type 0
EpochOf w = Epoch w.exchange w.lawful w.states w.stated w.processor w.table w.cleared w.more w.spot w.frames

-- it is written so without further rows
abbrev pub book_of : {V A M Q R : Type 0} → (w : Setting V A M Q R) → EpochOf w → EpochBook M Q R
book_of w e = booked w.exchange w.lawful w.states w.stated w.processor w.table w.cleared w.more w.spot w.frames e

-- the application that it leaves
abbrev pub left_by : {V A M Q R : Type 0} → (w : Setting V A M Q R) → EpochOf w → A
left_by w e = leaves w.exchange w.lawful w.states w.stated w.processor w.table w.cleared w.more w.spot w.frames e

-- epochs that are a life up to a frame, and then carry this over and leave that application
abbrev pub IsPast : {V A M Q R : Type 0} → Setting V A M Q R → List ℕ → ℕ → List (Started Q) → A → A → List (EpochBook M Q R) → Type 0
IsPast w gave stop carry left first past = Chained w.exchange w.lawful w.states w.stated w.processor w.table w.cleared w.more w.spot w.frames gave stop carry left [] first past

-- AN EPOCH HAS JUST OPENED by the last frame: nothing has begun in it
pub record HasOpened {V A M Q R : Type 0} (w : Setting V A M Q R) (e : EpochOf w) : Type 0 where
  pub now : length w.frames ≡ suc e.opened
  pub until : e.until ≡ length w.frames
  pub started : e.era.account.started ≡ []
  pub tail : e.tail ≡ []
  pub returned : (frame : ℕ) → e.era.cleared ≡ Some frame → frame < e.opened

-- behind what came before
pub record OpensBehind {V A M Q R : Type 0} (w : Setting V A M Q R) (b : SlaveBook A M Q R) (e : EpochOf w) : Type 0 where
  pub past : List (EpochBook M Q R)
  pub carry : List (Started Q)
  pub left : A
  pub last : EpochBook M Q R
  pub before : IsPast w b.gave (return_of last.cleared) carry left b.first past
  pub inside : AllEnd (length w.frames) (return_of last.cleared) past
  pub begun : Begun w.exchange w.lawful w.states w.stated w.processor w.table w.cleared w.more w.spot w.frames b.gave e (length w.frames) (book_of w e) carry left last
  pub epochs : b.epochs ≡ past ++ last ∷ []

-- the newest epoch of an open life goes on
abbrev pub GoesOnBy : {V A M Q R : Type 0} → (w : Setting V A M Q R) (b : SlaveBook A M Q R) → IsOpenLife w b → (f : Frame M) → EpochOf (with_frames w (f ∷ [])) → EpochBook M Q R → Type 0
GoesOnBy w b l f now body = GoesOn w.exchange w.lawful w.states w.stated w.processor w.table w.cleared w.more w.spot b.gave w.frames l.epoch f now body

-- or is over
abbrev pub IsOverBy : {V A M Q R : Type 0} → (w : Setting V A M Q R) (b : SlaveBook A M Q R) → IsOpenLife w b → (gs : List (Frame M)) → List ℕ → EpochOf (with_frames w gs) → ℕ → List (Started Q) → EpochBook M Q R → Type 0
IsOverBy w b l gs hs now stop carry body = IsOver w.exchange w.lawful w.states w.stated w.processor w.table w.cleared w.more w.spot b.gave w.frames l.epoch gs hs now stop carry body

-- the epochs of the book with other rows of the newest
abbrev pub epochs_with : {V A M Q R : Type 0} → (w : Setting V A M Q R) (b : SlaveBook A M Q R) → IsOpenLife w b → EpochBook M Q R → List (EpochBook M Q R)
epochs_with w b l body =
    l.past ++ as_begun w.exchange w.lawful w.states w.stated w.processor w.table w.cleared w.more w.spot w.frames b.gave l.epoch (length w.frames) l.body l.carry l.left l.last l.begun body ∷ []

-- a book that goes on: the same plan and give-ups, and these epochs
pub record IsNext {A M Q R : Type 0} (b c : SlaveBook A M Q R) (epochs : List (EpochBook M Q R)) : Type 0 where
  pub first : c.first ≡ b.first
  pub gave : c.gave ≡ b.gave
  pub epochs_are : c.epochs ≡ epochs

-- an epoch's session, over other frames
abbrev pub StaysIn : {V A M Q R : Type 0} → (w : Setting V A M Q R) → EpochOf w → List (Frame M) → Type 0
StaysIn w e fs = EraIs w.exchange w.states w.processor w.table w.spot e.era e.opened e.until fs e.server e.registers e.slave

-- AN OPEN LIFE AS IT GOES ON by a frame: its newest epoch does, and the book has the rows that then have begun
pub record NextOpen {V A M Q R : Type 0} (w : Setting V A M Q R) (b : SlaveBook A M Q R) (l : IsOpenLife w b) (c : SlaveBook A M Q R) : Type 0 where
  pub frame : Frame M
  pub now : EpochOf (with_frames w (frame ∷ []))
  pub body : EpochBook M Q R
  pub goes : GoesOnBy w b l frame now body
  pub next : IsNext b c (epochs_with w b l body)

-- and as it is over, behind further frames and give-ups
pub record OverBehind {V A M Q R : Type 0} (w : Setting V A M Q R) (b : SlaveBook A M Q R) (l : IsOpenLife w b) : Type 0 where
  pub frames : List (Frame M)
  pub gave : List ℕ
  pub now : EpochOf (with_frames w frames)
  pub stop : ℕ
  pub carry : List (Started Q)
  pub body : EpochBook M Q R
  pub is : IsOverBy w b l frames gave now stop carry body

-- all its epochs are past then
abbrev pub AllPast : {V A M Q R : Type 0} → (w : Setting V A M Q R) (b : SlaveBook A M Q R) (l : IsOpenLife w b) → OverBehind w b l → Type 0
AllPast w b l o = IsPast (with_frames w o.frames) (b.gave ++ o.gave) o.stop o.carry (left_by (with_frames w o.frames) o.now) b.first (epochs_with w b l o.body)

-- past epochs, and what they carry over and leave
pub record PastEpochs (A M Q R : Type 0) : Type 0 where
  pub gave : List ℕ
  pub stop : ℕ
  pub carry : List (Started Q)
  pub left : A
  pub first : A
  pub epochs : List (EpochBook M Q R)

-- they are so in a run with these give-ups behind them
abbrev pub ArePast : {V A M Q R : Type 0} → Setting V A M Q R → List ℕ → PastEpochs A M Q R → Type 0
ArePast w later p = IsPast w (p.gave ++ later) p.stop p.carry p.left p.first p.epochs
