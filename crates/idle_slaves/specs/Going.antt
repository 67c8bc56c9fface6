-- AN OPEN SLAVE WITH A STATE SERVICE PAST ITS DRAIN, frame by frame of a run.
use Rattle.std.specs.Prelude.{◌≡◌, ℕ, suc, ◌%◌, ◌==◌, Bool, true, false, if◌then◌else◌, Some, List, [], ◌∷◌}
use Rattle.plan_ring.specs.of_exchange_model.Exchange.{Speech}
use Rattle.plan_ring.specs.of_life_model.Gains.{gains}
use Rattle.plan_ring.specs.of_life_model.Lives.{Life, Spot, Stand, life_next, returns_to_init}
use Rattle.plan_ring.specs.of_life_model.Own.{own}
use Rattle.plan_ring.specs.of_run_frames.Clocks.{Clocked}
use Rattle.plan_ring.specs.of_run_frames.Goes.{Under, back_life}
use Rattle.plan_ring.specs.of_run_frames.Waits.{Waits}
use Rattle.plan_ring.specs.of_segment_model.Record.{is_for}
use Rattle.plan_ring.specs.of_segment_model.Slaves.{Registers, Datagram, Found}
use Rattle.plan_ring.specs.of_state_model.Promises.{IsTable}
use Rattle.plan_ring.specs.of_state_model.States.{Table, Phase, Hand, Event, reads, run, carry}
use Rattle.plan_ring.specs.of_state_model.Accounts.{Duty, Stage, Pick, phase_access}
use Rattle.idle_slaves.specs.Phases.{IsSeen, Rests, idle_states}

-- a state service in this phase and its slave's registers are come to by events of state services, whatever was lost
pub record IsCome (M R : Type 0) (table : Table) (target : ℕ) (phase : Phase) (r : Registers) : Type 0 where
  pub start : ℕ
  pub sits : IsTable table start
  pub first : Registers
  pub rests : Rests start first
  pub events : List Event
  pub hand : Hand M
  pub is : (run table (idle_states {M = M} {R = R} first) events).hand ≡ Some hand
  pub target_is : hand.target ≡ target
  pub phase_is : hand.phase ≡ phase
  pub registers : (run table (idle_states {M = M} {R = R} first) events).registers ≡ r

-- THE SERVICE GOES ON, and returns its slave not to Init: since something was gained no visit came behind a step of the slave, and behind one the status
-- stands that it awaits
pub record Going {M Q R : Type 0} (table : Table) (l : Life M Q R) (r : Registers) (t : Waits) : Type 0 where
  pub stands : l.stand ≡ Stand.Open
  pub duty : Duty
  pub hand : l.era.account.hand ≡ Some duty
  pub phase : Phase
  pub stage : duty.stage ≡ Stage.Goes phase
  pub stays : returns_to_init duty.target ≡ false
  pub come : IsCome M R table duty.target phase r
  pub seen : t.stepped ≡ true → IsSeen duty.target phase r
  pub tries : t.tries ≡ 0

-- the service's access came back as the slave met it: the only datagram to its station
pub record AccessCame {M : Type 0} (station : ℕ) (duty : Duty) (phase : Phase) (r : Registers) (back : List (Datagram M)) : Type 0 where
  pub datagram : Datagram M
  pub one : own station back ≡ datagram ∷ []
  pub address : is_for station datagram.address ≡ true
  pub access : datagram.access ≡ phase_access duty.target phase
  pub met : (datagram.counter == 0) ≡ false
  pub found : reads phase ≡ true → datagram.found ≡ Some (Found.State r.state r.refused)

-- A FRAME THAT CAME BACK AND GAINED NOTHING: what came into hand is the master's choice; it had the service's access, or none for the slave
pub record AccessVain {M Q R : Type 0} (x : Spot → Speech M Q R) (acknowledged : Q → Bool) (more : M → Bool) (passed : Q → Bool) (number : ℕ) (back : List (Datagram M)) (a : Clocked M Q R) (u : Under M Q R) (duty : Duty) (phase : Phase) (r : Registers) : Type 0 where
  pub pick : Pick Q
  pub life : u.life ≡ life_next (x a.spot) acknowledged more passed number a.life a.life.stand pick
  pub visits : u.under ≡ true → AccessCame a.spot.station duty phase r back
  pub none : u.under ≡ false → own a.spot.station back ≡ []
  pub same : gains (back_life x acknowledged more passed number back a u) ≡ gains a.life

-- the registers behind it: the processor makes a step, or makes none
abbrev pub registers_on : {M Q R : Type 0} → Table → ℕ → Clocked M Q R → Registers → Registers
registers_on table number a r = if suc number % a.pace == 0 then carry table r else r
