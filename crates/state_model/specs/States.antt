-- AL states as frames and a slave's processor change them, and the state services of its master (ETG.1000.6, 6.4.1).
use Rattle.std.specs.Prelude.{ℕ, ◌==◌, Bool, true, false, if◌then◌else◌, Option, Some, None, List, [], ◌∷◌, ◌++◌}
use Rattle.segment_model.specs.of_link_model.Link.{Fate, is_met}
use Rattle.segment_model.specs.Slaves.{Registers}
use Rattle.segment_model.specs.Record.{News}
use Rattle.segment_model.specs.Ends.{Outcome}

-- what a slave answers to a change from one state to another: None where it makes it, else the AL status code that refuses it
abbrev pub Table : Type 0
Table = ℕ → ℕ → Option ℕ

-- the registers behind a change that is made, or refused with a code: then the state stays and the error flag stands
abbrev pub decided : Registers → ℕ → Option ℕ → Registers
decided r target None = record r { control = None; state = target; refused = None }
decided r target (Some code) = record r { control = None; refused = Some code }

-- the registers behind a control word: while the error flag stands, one that doesn't acknowledge it is ignored
abbrev pub word_carried : Table → Registers → Option ℕ → Option (ℕ × Bool) → Registers
word_carried table r refused None = r
word_carried table r None (Some word) = decided r word.0 (table r.state word.0)
word_carried table r (Some code) (Some word) = if word.1 then decided r word.0 (table r.state word.0) else record r { control = None }

-- a step of the slave's processor: the word that waits is carried out, once
abbrev pub carry : Table → Registers → Registers
carry table r = word_carried table r r.refused r.control

-- how far a state service has come: it writes its target; it waits for the status; it acknowledges the error flag in the state that stands,
-- with the code of the refusal; it waits until the flag is gone
pub data Phase : Type 0 where
  Ask : Phase
  Await : Phase
  Acknowledge : ℕ → ℕ → Phase
  Recover : ℕ → Phase

-- a state service in hand: its target, how far it has come, and the statuses read for it
pub record Hand (M : Type 0) : Type 0 where
  pub target : ℕ
  pub phase : Phase
  pub read : List (News M)

-- one that is closed: its target, its answer, and the statuses read for it
pub record Closed (M R : Type 0) : Type 0 where
  pub target : ℕ
  pub answer : Outcome R
  pub read : List (News M)

-- the registers of a slave beside the state services of its master
pub record States (M R : Type 0) : Type 0 where
  pub registers : Registers
  pub hand : Option (Hand M)
  pub closed : List (Closed M R)

-- a state service comes into hand; its datagram that writes the control word, and the one that reads the status, each with its fate; the
-- slave's processor carries out the control word. A mail is none of these.
pub data Event : Type 0 where
  Begin : ℕ → Event
  Write : Fate → Event
  Read : Fate → Event
  Step : Event

-- the control word that a service writes: its target, or the state that stands with the acknowledge
abbrev pub word_of : ℕ → Phase → Option (ℕ × Bool)
word_of target Phase.Ask = Some (target, false)
word_of target Phase.Await = None
word_of target (Phase.Acknowledge state code) = Some (state, true)
word_of target (Phase.Recover code) = None

-- the registers behind the write of a word
abbrev pub word_met : Registers → Option (ℕ × Bool) → Registers
word_met r None = r
word_met r (Some word) = record r { control = Some word }

-- how far a service has come behind the return of its write
abbrev pub phase_written : Phase → Phase
phase_written Phase.Ask = Phase.Await
phase_written Phase.Await = Phase.Await
phase_written (Phase.Acknowledge state code) = Phase.Recover code
phase_written (Phase.Recover code) = Phase.Recover code

-- behind a write that returned, or was lost: then it is written again
abbrev pub phase_behind : Phase → Fate → Phase
phase_behind phase Fate.Pass = phase_written phase
phase_behind phase Fate.LostBefore = phase
phase_behind phase Fate.LostBehind = phase

-- what a status makes of a service: it goes on, or it ends
pub data Turn (R : Type 0) : Type 0 where
  Goes : Phase → Turn R
  Ends : Outcome R → Turn R

-- the target ends it, the error flag is acknowledged, and a status without the flag then ends it with the code of the first
abbrev pub shown : {R : Type 0} → ℕ → Phase → ℕ → Option ℕ → Turn R
shown target Phase.Ask state refused = Turn.Goes Phase.Ask
shown target Phase.Await state None = if state == target then Turn.Ends Outcome.Reached else Turn.Goes Phase.Await
shown target Phase.Await state (Some code) = Turn.Goes (Phase.Acknowledge state code)
shown target (Phase.Acknowledge state first) now refused = Turn.Goes (Phase.Acknowledge state first)
shown target (Phase.Recover first) state None = Turn.Ends (Outcome.Refused first)
shown target (Phase.Recover first) state (Some code) = Turn.Goes (Phase.Recover first)

-- a service reads the status where it waits for one
abbrev pub reads : Phase → Bool
reads Phase.Ask = false
reads Phase.Await = true
reads (Phase.Acknowledge state code) = false
reads (Phase.Recover code) = true

-- the service in hand goes on, or is closed with its answer
abbrev pub turned : {M R : Type 0} → States M R → ℕ → List (News M) → Turn R → States M R
turned w target read (Turn.Goes phase) = record w { hand = Some (record { target = target; phase = phase; read = read }) }
turned w target read (Turn.Ends answer) = record w { hand = None; closed = w.closed ++ record { target = target; answer = answer; read = read } ∷ [] }

-- a read of the status returns
abbrev pub returned : {M R : Type 0} → States M R → Hand M → Bool → States M R
returned w h false = w
returned w h true =
    turned w h.target (h.read ++ News.Status w.registers.state w.registers.refused ∷ []) (shown h.target h.phase w.registers.state w.registers.refused)

-- a state service comes into hand, where none is
abbrev pub begins : {M R : Type 0} → States M R → Option (Hand M) → ℕ → States M R
begins w None target = record w { hand = Some (record { target = target; phase = Phase.Ask; read = [] }) }
begins w (Some h) target = w

-- the service in hand sends the write of its word
abbrev pub writes : {M R : Type 0} → States M R → Option (Hand M) → Fate → States M R
writes w None fate = w
writes w (Some h) fate = record {
  registers = if is_met fate then word_met w.registers (word_of h.target h.phase) else w.registers;
  hand = Some (record { target = h.target; phase = phase_behind h.phase fate; read = h.read });
  closed = w.closed;
}

-- the service in hand sends the read of the status
abbrev pub looks : {M R : Type 0} → States M R → Option (Hand M) → Fate → States M R
looks w None fate = w
looks w (Some h) Fate.Pass = returned w h (reads h.phase)
looks w (Some h) Fate.LostBefore = w
looks w (Some h) Fate.LostBehind = w

-- what an event does
abbrev pub happens : {M R : Type 0} → Table → States M R → Event → States M R
happens table w (Event.Begin target) = begins w w.hand target
happens table w (Event.Write fate) = writes w w.hand fate
happens table w (Event.Read fate) = looks w w.hand fate
happens table w Event.Step = record w { registers = carry table w.registers }

-- a run is any list of them
abbrev pub run : {M R : Type 0} → Table → States M R → List Event → States M R
run table w [] = w
run table w (e ∷ es) = run table (happens table w e) es

-- at the end of bring-up: no control word waits and no error flag stands
abbrev pub new_states : {M R : Type 0} → Registers → ℕ → States M R
new_states r state = record { registers = record r { control = None; state = state; refused = None }; hand = None; closed = [] }
