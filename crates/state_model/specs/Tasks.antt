-- A session in which services go by mails or change AL states: the session of the mails, and beside each slave its account.
use Rattle.std.specs.Prelude.{◌≡◌, ℕ, ◌==◌, Bool, false, Some, None, List, [], ◌∷◌, ◌++◌, map, length, ⊤}
use Rattle.segment_model.specs.of_exchange_model.Exchange.{Exchange, Speech}
use Rattle.segment_model.specs.of_link_model.Segment.{RingFate}
use Rattle.segment_model.specs.Slaves.{Registers, Processor, Datagram, Ring, ring_back, Move}
use Rattle.segment_model.specs.Record.{Frame}
use Rattle.segment_model.specs.Seats
use Rattle.segment_model.specs.Seats.{Side, Choice, Turn, Session, Planned, IsPlan, IsFrame, IsOpening, seats_next, ring_of, sides_of, new_session}
use Rattle.state_model.specs.States
use Rattle.state_model.specs.States.{Table}
use Rattle.state_model.specs.Promises.{IsTable}
use Rattle.state_model.specs.Stated.{Stated}
use Rattle.state_model.specs.Accounts.{Account, Pick, IsServed, new_account, mails_choice, account_next, account_back, duty_access}

-- one turn: the master's choices, and the frame with its fate and the steps behind it
pub record TaskTurn (M Q : Type 0) : Type 0 where
  pub picks : List (Pick Q)
  pub move : Move M

-- a session with the accounts of its slaves, in ring order
pub record TaskSession (V M Q R : Type 0) : Type 0 where
  pub session : Session V M Q R
  pub accounts : List (Account Q R)

-- the choices for the sides of the mails
abbrev pub mails_choices : {Q R : Type 0} → List (Account Q R) → List (Pick Q) → List (Choice Q)
mails_choices [] ps = []
mails_choices (a ∷ more) [] = []
mails_choices (a ∷ more) (p ∷ ps) = mails_choice a p ∷ mails_choices more ps

-- the turn that the mails see
abbrev pub mails_turn : {M Q R : Type 0} → List (Account Q R) → TaskTurn M Q → Turn M Q
mails_turn accounts t = record { choices = mails_choices accounts t.picks; move = t.move }

-- all accounts before a frame, by the sides of the mails as they stand
abbrev pub accounts_next : {M Q R : Type 0} → Speech M Q R → (Q → Bool) → ℕ → List (ℕ × Side M Q R) → List (Account Q R) → List (Pick Q) → List (Account Q R)
accounts_next x acknowledged frame ds [] ps = []
accounts_next x acknowledged frame [] (a ∷ more) ps = a ∷ more
accounts_next x acknowledged frame (d ∷ ds) (a ∷ more) [] = a ∷ more
accounts_next x acknowledged frame (d ∷ ds) (a ∷ more) (p ∷ ps) = account_next x acknowledged frame d.1 a p ∷ accounts_next x acknowledged frame ds more ps

-- all accounts behind a frame that came back
abbrev pub accounts_back : {M Q R : Type 0} → ℕ → List (ℕ × Side M Q R) → List (Account Q R) → List (Datagram M) → List (Account Q R)
accounts_back frame ds [] back = []
accounts_back frame [] (a ∷ more) back = a ∷ more
accounts_back frame (d ∷ ds) (a ∷ more) back = account_back d.0 frame a back ∷ accounts_back frame ds more back

-- behind a frame of this fate; a lost frame leaves them
abbrev pub accounts_after : {M Q R : Type 0} → ℕ → List (ℕ × Side M Q R) → List (Account Q R) → RingFate → List (Datagram M) → List (Account Q R)
accounts_after frame ds accounts RingFate.Back back = accounts_back frame ds accounts back
accounts_after frame ds accounts (RingFate.Lost after) back = accounts

-- a frame serves the registers of each slave as its account says
abbrev pub AreServed : {M Q R : Type 0} → List (ℕ × Side M Q R) → List (Account Q R) → List (Datagram M) → Type 0
AreServed ds [] sent = ⊤
AreServed [] (a ∷ more) sent = ⊤
AreServed (d ∷ ds) (a ∷ more) sent = IsServed d.0 (duty_access a.hand) sent × AreServed ds more sent

-- one turn of such a session
abbrev pub happens : {V A M Q R : Type 0} → Exchange V A M Q R → (Q → Bool) → Processor V → TaskSession V M Q R → TaskTurn M Q → TaskSession V M Q R
happens x acknowledged processor w t =
    let n = length w.session.frames in
    let asked = seats_next x n w.session.seats (mails_choices w.accounts t.picks) in
    record {
      session = Seats.happens x processor w.session (mails_turn w.accounts t);
      accounts = accounts_after n (sides_of asked) (accounts_next x.speech acknowledged n (sides_of w.session.seats) w.accounts t.picks) t.move.fate (ring_back (ring_of asked) t.move.sent t.move.fate);
    }

-- any list of them
abbrev pub run : {V A M Q R : Type 0} → Exchange V A M Q R → (Q → Bool) → Processor V → TaskSession V M Q R → List (TaskTurn M Q) → TaskSession V M Q R
run x acknowledged processor w [] = w
run x acknowledged processor w (t ∷ ts) = run x acknowledged processor (happens x acknowledged processor w t) ts

-- each turn of the list may come where it comes
abbrev pub MayRun : {V A M Q R : Type 0} → Exchange V A M Q R → (Q → Bool) → Processor V → TaskSession V M Q R → List (TaskTurn M Q) → Type 0
MayRun x acknowledged processor w [] = ⊤
MayRun x acknowledged processor w (t ∷ ts) =
    (let n = length w.session.frames in
    let asked = seats_next x n w.session.seats (mails_choices w.accounts t.picks) in
    IsFrame asked t.move.sent × AreServed (sides_of asked) (accounts_next x.speech acknowledged n (sides_of w.session.seats) w.accounts t.picks) t.move.sent)
    × MayRun x acknowledged processor (happens x acknowledged processor w t) ts

-- the accounts at the end of bring-up
abbrev pub new_accounts : {V Q R : Type 0} → List (Planned V) → List (Account Q R)
new_accounts ps = map (λ p. new_account) ps

-- such a session at the end of bring-up
abbrev pub new_tasks : {V M Q R : Type 0} → List (Frame M) → List (Planned V) → TaskSession V M Q R
new_tasks opening ps = record { session = new_session opening ps; accounts = new_accounts ps }

-- a slave answers to its station
abbrev pub Answers : {V : Type 0} → Planned V → Type 0
Answers p = p.registers.station ≡ p.station

-- no slave of these answers to this station
abbrev pub Nobody : {V : Type 0} → ℕ → List (Planned V) → Type 0
Nobody station [] = ⊤
Nobody station (p ∷ ps) = ((p.registers.station == station) ≡ false) × Nobody station ps

-- no slave answers to the station of another
abbrev pub Apart : {V : Type 0} → List (Planned V) → List (Planned V) → Type 0
Apart before [] = ⊤
Apart before (p ∷ ps) = (Nobody p.station before × Nobody p.station ps) × Apart (before ++ p ∷ []) ps

-- the registers of a slave as bring-up leaves them
pub record IsBrought {V A M Q R : Type 0} (x : Exchange V A M Q R) (s : Stated V A Q) (table : ℕ → Table) (p : Planned V) : Type 0 where
  -- no error flag stands, and a control word that waits asks for the state that stands: a slow slave's may, whose write was lost and repeated
  pub control : (word : ℕ × Bool) → p.registers.control ≡ Some word → word.0 ≡ p.registers.state
  pub refused : p.registers.refused ≡ None
  -- the slave may be in its state, and its server knows it
  pub sits : IsTable (table p.station) p.registers.state
  pub state : s.state (x.app p.server) ≡ p.registers.state

-- a slave's processor carries out control words by its table
abbrev pub CarriesWords : {V : Type 0} → Processor V → Table → Planned V → Type 0
CarriesWords processor table p = (r : Registers) → r.station ≡ p.registers.station → r.first ≡ p.registers.first → r.second ≡ p.registers.second → processor.carry r ≡ States.carry table r

-- each of these does, and is brought up where it answers to its station
abbrev pub AllBrought : {V A M Q R : Type 0} → Exchange V A M Q R → Stated V A Q → Processor V → (ℕ → Table) → List (Planned V) → Type 0
AllBrought x s processor table [] = ⊤
AllBrought x s processor table (p ∷ ps) =
    (CarriesWords processor (table p.station) p × (Answers p → IsBrought x s table p)) × AllBrought x s processor table ps

-- a plan of which the laws of such sessions speak; `table` has the table of each station
pub record IsTaskPlan {V A M Q R : Type 0} (x : Exchange V A M Q R) (s : Stated V A Q) (processor : Processor V) (table : ℕ → Table) (ps : List (Planned V)) : Type 0 where
  pub plan : IsPlan x ps
  pub apart : Apart [] ps
  pub tells : (state : ℕ) (v : V) → processor.tell state v ≡ s.tell state v
  pub brought : AllBrought x s processor table ps

-- sides, accounts, a ring and frames that such a session has come to, behind the frames of its bring-up
pub record IsTasked {V A M Q R : Type 0} (x : Exchange V A M Q R) (acknowledged : Q → Bool) (processor : Processor V) (ps : List (Planned V))
    (ds : List (ℕ × Side M Q R)) (accounts : List (Account Q R)) (ns : Ring V M) (fs : List (Frame M)) : Type 0 where
  pub opening : List (Frame M)
  pub quiet : IsOpening opening
  pub turns : List (TaskTurn M Q)
  pub may : MayRun x acknowledged processor (new_tasks {Q = Q} {R = R} opening ps) turns
  pub sides : sides_of (run x acknowledged processor (new_tasks {R = R} opening ps) turns).session.seats ≡ ds
  pub counted : (run x acknowledged processor (new_tasks {R = R} opening ps) turns).accounts ≡ accounts
  pub ring : ring_of (run x acknowledged processor (new_tasks {Q = Q} {R = R} opening ps) turns).session.seats ≡ ns
  pub frames : (run x acknowledged processor (new_tasks {Q = Q} {R = R} opening ps) turns).session.frames ≡ fs
