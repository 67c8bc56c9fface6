-- ONE FRAME THAT CAME BACK, for a slave that waits, as the frames of a run are counted.
use Rattle.std.specs.Prelude.{◌≡◌, ℕ, suc, ◌%◌, ◌==◌, is_some, Bool, true, false, if◌then◌else◌, List, []}
use Rattle.plan_ring.specs.of_exchange_model.Exchange.{Speech}
use Rattle.plan_ring.specs.of_life_model.Gains.{gains}
use Rattle.plan_ring.specs.of_life_model.Lives.{Spot, life_next}
use Rattle.plan_ring.specs.of_life_model.Own.{own}
use Rattle.plan_ring.specs.of_link_model.Slave.{Node, Server, processor_step}
use Rattle.plan_ring.specs.of_run_frames.Clocks.{Clocked}
use Rattle.plan_ring.specs.of_run_frames.Goes.{Under, back_life}
use Rattle.plan_ring.specs.of_run_frames.Waits.{Waits}
use Rattle.plan_ring.specs.of_segment_model.Slaves.{Datagram}
use Rattle.plan_ring.specs.of_state_model.Accounts.{Pick}
use Rattle.idle_slaves.specs.Waiting.{Memory, memory_behind}
use Rattle.idle_slaves.specs.Visited.{CameBack, HasRow, IsUnpaused, Tells, life_visit, memory_of}

-- the slave behind it: its processor makes a step, or makes none
abbrev pub node_on : {M Q R S : Type 0} → Server M S → ℕ → Clocked M Q R → Node M S → Node M S
node_on v number a n = if suc number % a.pace == 0 then processor_step v n else n

-- what the master remembers behind it
abbrev pub memory_on : {M Q R : Type 0} → Clocked M Q R → Under M Q R → Memory → Memory
memory_on a u m = if u.under then memory_behind (memory_of a.life u.life m) (life_visit u.life (memory_of a.life u.life m)) else m

-- NOTHING WAS GAINED BY IT, and a mail that is passed on came no step on: what came into hand is the master's choice; it had the visit's datagram for the slave,
-- or none, and then nothing came into hand
pub record InVain {M Q R S : Type 0} (x : Spot → Speech M Q R) (acknowledged : Q → Bool) (more : M → Bool) (passed : Q → Bool) (number : ℕ) (back : List (Datagram M)) (a : Clocked M Q R) (u : Under M Q R) (n : Node M S) (m : Memory) (t : Waits) : Type 0 where
  pub pick : Pick Q
  pub life : u.life ≡ life_next (x a.spot) acknowledged more passed number a.life a.life.stand pick
  pub unpaused : IsUnpaused pick m t
  pub row : HasRow u.life n
  pub visits : u.under ≡ true → CameBack a.spot.station n u.life.era.side.halves (life_visit u.life (memory_of a.life u.life m)) back
  pub tells : u.under ≡ true → is_some u.life.era.passing ≡ true → Tells t.stepped n (life_visit u.life (memory_of a.life u.life m)) u.news
  pub none : u.under ≡ false → (u.life ≡ a.life) × (own a.spot.station back ≡ [])
  pub same : gains (back_life x acknowledged more passed number back a u) ≡ gains a.life
  pub still : (back_life x acknowledged more passed number back a u).era.passing ≡ u.life.era.passing
