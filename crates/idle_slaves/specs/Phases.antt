-- A STATE SERVICE PAST ITS DRAIN, and the registers of its slave: behind a step the status that it awaits stands.
use Rattle.std.specs.Prelude.{◌≡◌, ◌⊎◌, ℕ, suc, ◌≤◌, Bool, true, false, Option, Some, None, [], ⊤}
use Rattle.plan_ring.specs.of_life_model.Gains.{phase_gains, progress_gains}
use Rattle.plan_ring.specs.of_segment_model.Slaves.{Registers}
use Rattle.plan_ring.specs.of_state_model.States.{States, Phase, Hand, reads, phase_written, shown}
use Rattle.plan_ring.specs.of_state_model.Accounts.{turn_progress}

-- THE STATUS THAT TAKES IT ON STANDS: its target or an error flag; or that flag is gone
abbrev pub IsSeen : ℕ → Phase → Registers → Type 0
IsSeen target Phase.Ask r = ⊤
IsSeen target Phase.Await r = r.refused ≡ None → r.state ≡ target
IsSeen target (Phase.Acknowledge state code) r = ⊤
IsSeen target (Phase.Recover code) r = r.refused ≡ None

-- or the word that leads to it waits in the slave
abbrev pub IsLed : ℕ → Phase → Registers → Type 0
IsLed target Phase.Ask r = ⊤
IsLed target Phase.Await r = r.control ≡ Some (target, false)
IsLed target (Phase.Acknowledge state code) r = ⊤
IsLed target (Phase.Recover code) r = r.control ≡ Some (r.state, true)

-- one of both, for the service in hand
abbrev pub HandLed : {M : Type 0} → Option (Hand M) → Registers → Type 0
HandLed None r = ⊤
HandLed (Some h) r = IsSeen h.target h.phase r ⊎ IsLed h.target h.phase r

-- it stands, for the service in hand
abbrev pub HandSeen : {M : Type 0} → Option (Hand M) → Registers → Type 0
HandSeen None r = ⊤
HandSeen (Some h) r = IsSeen h.target h.phase r

-- A VISIT TAKES THE SERVICE ON: the write of its word that was done, and the read of a status
pub record TakesOn (R : Type 0) (target : ℕ) (phase : Phase) (r : Registers) : Type 0 where
  pub word : reads phase ≡ false → suc (phase_gains phase) ≤ phase_gains (phase_written phase)
  pub status : reads phase ≡ true → suc (phase_gains phase) ≤ progress_gains {R = R} (turn_progress (shown target phase r.state r.refused))

-- A SLAVE IN THIS STATE, of which nothing is asked: no error flag stands, and a word that waits asks for the state that stands, as a slow slave's may
pub record Rests (start : ℕ) (r : Registers) : Type 0 where
  pub state : r.state ≡ start
  pub refused : r.refused ≡ None
  pub word : (word : ℕ × Bool) → r.control ≡ Some word → word.0 ≡ start

-- before any state service
abbrev pub idle_states : {M R : Type 0} → Registers → States M R
idle_states r = record { registers = r; hand = None; closed = [] }
