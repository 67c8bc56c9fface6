-- The services of a slave as its master accounts for them: services by mails and state services in the order in which they came into hand, one
-- in hand at a time, and what the master's datagrams make of a state service.
use Rattle.std.specs.Prelude.{◌≡◌, ℕ, ◌==◌, ◌&&◌, Bool, true, false, not, is_none, if◌then◌else◌, Option, Some, None, List, [], ◌∷◌, ◌++◌}
use Rattle.segment_model.specs.of_exchange_model.Exchange.{Speech}
use Rattle.segment_model.specs.of_exchange_model.Rows.{Row, ends_unheard}
use Rattle.segment_model.specs.Slaves.{Datagram, Address, Access, Found}
use Rattle.segment_model.specs.Record.{is_for}
use Rattle.segment_model.specs.Ends.{Outcome}
use Rattle.segment_model.specs.Seats.{Side, Choice, is_over}
use Rattle.state_model.specs.States.{Phase, Turn, phase_written, shown}
use Rattle.state_model.specs.Stated.{Service}

-- a service that came into hand, with the number of the frame before which it did
pub record Started (Q : Type 0) : Type 0 where
  pub service : Service Q
  pub frame : ℕ

-- how far a state service has come: it drains until mailbox 0 was seen empty, and then goes through its phases
pub data Stage : Type 0 where
  Drains : Stage
  Goes : Phase → Stage

-- a state service in hand
pub record Duty : Type 0 where
  pub target : ℕ
  pub frame : ℕ
  pub stage : Stage

-- one that is over, with its answer and the number of the frame that completed it
pub record Change (R : Type 0) : Type 0 where
  pub target : ℕ
  pub frame : ℕ
  pub answer : Outcome R
  pub completed : ℕ

-- the account of a slave's services: all that came into hand, the state service in hand, and the state services that are over
pub record Account (Q R : Type 0) : Type 0 where
  pub started : List (Started Q)
  pub hand : Option Duty
  pub over : List (Change R)

-- at the end of bring-up
abbrev pub new_account : {Q R : Type 0} → Account Q R
new_account = record { started = []; hand = None; over = [] }

-- what a master chooses for one slave before a frame: the service that comes into hand, and whether the next mail is taken up
pub record Pick (Q : Type 0) : Type 0 where
  pub begin : Option (Service Q)
  pub hold : Bool

-- a service by mails begins where no state service is in hand
abbrev pub mails_begin : {Q : Type 0} → Option Duty → Option (Service Q) → Option Q
mails_begin hand None = None
mails_begin (Some duty) (Some wish) = None
mails_begin None (Some (Service.Mails q)) = Some q
mails_begin None (Some (Service.State target)) = None

-- the choice for the side of the mails
abbrev pub mails_choice : {Q R : Type 0} → Account Q R → Pick Q → Choice Q
mails_choice a p = record { begin = mails_begin a.hand p.begin; hold = p.hold }

-- the newest service by mails is over
abbrev pub is_free : {M Q R : Type 0} → Speech M Q R → Side M Q R → Option (Row M Q R) → Bool
is_free x d None = true
is_free x d (Some r) = is_over x d.halves.out.holding d.fresh r

-- and its last mail's write is done, where that mail is an acknowledgement
abbrev pub is_acknowledged : {M Q R : Type 0} → Speech M Q R → (Q → Bool) → Side M Q R → Option (Row M Q R) → Bool
is_acknowledged x acknowledged d None = true
is_acknowledged x acknowledged d (Some r) = if ends_unheard x acknowledged r then is_none d.halves.out.holding else true

-- one more service in hand
abbrev pub starts : {Q R : Type 0} → Account Q R → Service Q → ℕ → List (Started Q)
starts a service frame = a.started ++ record { service = service; frame = frame } ∷ []

-- a state service comes into hand, and drains
abbrev pub state_begins : {Q R : Type 0} → Account Q R → ℕ → ℕ → Account Q R
state_begins a target frame =
    record a { started = starts a (Service.State target) frame; hand = Some (record { target = target; frame = frame; stage = Stage.Drains }) }

-- the account before a frame with this number; a wish that may not be does nothing
abbrev pub account_begins : {M Q R : Type 0} → Speech M Q R → (Q → Bool) → ℕ → Side M Q R → Account Q R → Option Duty → Option (Service Q) → Account Q R
account_begins x acknowledged frame d a hand None = a
account_begins x acknowledged frame d a (Some duty) (Some wish) = a
account_begins x acknowledged frame d a None (Some (Service.Mails q)) =
    if x.valid q && is_free x d d.now then record a { started = starts a (Service.Mails q) frame } else a
account_begins x acknowledged frame d a None (Some (Service.State target)) =
    if is_free x d d.now && is_acknowledged x acknowledged d d.now then state_begins a target frame else a

-- the account before a frame, by this choice; `d` is the side of the mails as it stands
abbrev pub account_next : {M Q R : Type 0} → Speech M Q R → (Q → Bool) → ℕ → Side M Q R → Account Q R → Pick Q → Account Q R
account_next x acknowledged frame d a p = account_begins x acknowledged frame d a a.hand p.begin

-- the access that a state service in this phase sends: its control word, or the read of the status
abbrev pub phase_access : ℕ → Phase → Access
phase_access target Phase.Ask = Access.SetControl target false
phase_access target Phase.Await = Access.ReadState
phase_access target (Phase.Acknowledge state code) = Access.SetControl state true
phase_access target (Phase.Recover code) = Access.ReadState

-- while it drains it sends none of its own
abbrev pub stage_access : ℕ → Stage → Option Access
stage_access target Stage.Drains = None
stage_access target (Stage.Goes phase) = Some (phase_access target phase)

-- with no state service in hand there is none
abbrev pub duty_access : Option Duty → Option Access
duty_access None = None
duty_access (Some duty) = stage_access duty.target duty.stage

-- an access that changes no register and reads no AL status
abbrev pub is_quiet : Access → Bool
is_quiet (Access.SetStation station) = false
is_quiet (Access.SetFirst right) = false
is_quiet (Access.SetSecond right) = false
is_quiet (Access.SetControl target acknowledge) = false
is_quiet Access.ReadState = false
is_quiet Access.ReadFull = true
is_quiet Access.Elsewhere = true

-- an access that a frame of a session may have: it sets no station address and no sync manager
abbrev pub is_later : Access → Bool
is_later (Access.SetStation station) = false
is_later (Access.SetFirst right) = false
is_later (Access.SetSecond right) = false
is_later (Access.SetControl target acknowledge) = true
is_later Access.ReadState = true
is_later Access.ReadFull = true
is_later Access.Elsewhere = true

-- this datagram is addressed to a station, another than this one
pub record IsOther {M : Type 0} (station : ℕ) (d : Datagram M) : Type 0 where
  pub other : ℕ
  pub address : d.address ≡ Address.Station other
  pub apart : (other == station) ≡ false
  pub later : is_later d.access ≡ true

-- A FRAME FOR ONE SLAVE'S REGISTERS: the access of its state service at most once, addressed by its station; else datagrams to other stations,
-- and such that change no register and read no status
pub data IsServed {M : Type 0} (station : ℕ) : Option Access → List (Datagram M) → Type 0 where
  nothing : {access : Option Access} → IsServed station access []
  other : {access : Option Access} (d : Datagram M) (ds : List (Datagram M)) → IsOther station d → IsServed station access ds → IsServed station access (d ∷ ds)
  quiet : {access : Option Access} (d : Datagram M) (ds : List (Datagram M)) → is_quiet d.access ≡ true → d.found ≡ None → IsServed station access ds → IsServed station access (d ∷ ds)
  own : (d : Datagram M) (ds : List (Datagram M)) → d.address ≡ Address.Station station → d.found ≡ None → IsServed station None ds → IsServed station (Some d.access) (d ∷ ds)

-- what a done access makes of a state service: it goes on, or it ends with an answer
pub data Progress (R : Type 0) : Type 0 where
  On : Stage → Progress R
  Over : Outcome R → Progress R

-- a phase that goes on, or the answer that ends it
abbrev pub turn_progress : {R : Type 0} → Turn R → Progress R
turn_progress (Turn.Goes phase) = Progress.On (Stage.Goes phase)
turn_progress (Turn.Ends answer) = Progress.Over answer

-- a written control word is awaited
abbrev pub word_done : {R : Type 0} → Stage → Progress R
word_done Stage.Drains = Progress.On Stage.Drains
word_done (Stage.Goes phase) = Progress.On (Stage.Goes (phase_written phase))

-- a drain ends where mailbox 0 was seen empty; a status takes the service on its way
abbrev pub found_done : {R : Type 0} → ℕ → Stage → Option Found → Progress R
found_done target stage None = Progress.On stage
found_done target Stage.Drains (Some (Found.Full true)) = Progress.On Stage.Drains
found_done target Stage.Drains (Some (Found.Full false)) = Progress.On (Stage.Goes Phase.Ask)
found_done target Stage.Drains (Some (Found.State state refused)) = Progress.On Stage.Drains
found_done target (Stage.Goes phase) (Some (Found.Full full)) = Progress.On (Stage.Goes phase)
found_done target (Stage.Goes phase) (Some (Found.State state refused)) = turn_progress (shown target phase state refused)

-- by the access that was done: a control word was written, a status or the state of mailbox 0 was found; any other leaves it
abbrev pub access_done : {R : Type 0} → ℕ → Stage → Access → Option Found → Progress R
access_done target stage (Access.SetStation station) found = Progress.On stage
access_done target stage (Access.SetFirst right) found = Progress.On stage
access_done target stage (Access.SetSecond right) found = Progress.On stage
access_done target stage (Access.SetControl word acknowledge) found = word_done stage
access_done target stage Access.ReadState found = found_done target stage found
access_done target stage Access.ReadFull found = found_done target stage found
access_done target stage Access.Elsewhere found = Progress.On stage

-- the account behind that, in the frame with this number
abbrev pub account_by : {Q R : Type 0} → ℕ → Account Q R → Duty → Progress R → Account Q R
account_by frame a duty (Progress.On stage) = record a { hand = Some (record duty { stage = stage }) }
account_by frame a duty (Progress.Over answer) =
    record a { hand = None; over = a.over ++ record { target = duty.target; frame = duty.frame; answer = answer; completed = frame } ∷ [] }

-- the account behind a returned datagram
abbrev pub account_met : {M Q R : Type 0} → ℕ → ℕ → Account Q R → Option Duty → Datagram M → Account Q R
account_met station frame a None d = a
account_met station frame a (Some duty) d =
    if is_for station d.address && not (d.counter == 0) then account_by frame a duty (access_done duty.target duty.stage d.access d.found) else a

-- THE ACCOUNT BEHIND A FRAME THAT CAME BACK, datagram by datagram; a lost frame leaves it
abbrev pub account_back : {M Q R : Type 0} → ℕ → ℕ → Account Q R → List (Datagram M) → Account Q R
account_back station frame a [] = a
account_back station frame a (d ∷ ds) = account_back station frame (account_met station frame a a.hand d) ds
