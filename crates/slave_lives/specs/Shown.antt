-- WHAT A SLAVE THAT IS OPENED SHOWS, while an access of its opening is in hand that awaits a step.
use Rattle.std.specs.Prelude.{◌≡◌, ◌⊎◌, ℕ, Bool, true, Some, None}
use Rattle.frames_seen.specs.of_esc_registers.declared.registers.Registers as Esc
use Rattle.frames_seen.specs.Slaves.{registers_seen}
use Rattle.frames_seen.specs.of_life_model.Repairs.{awaits_at, awaited}
use Rattle.frames_seen.specs.of_life_model.Lives.{Opening, shows_clear}

-- a state stands, without the error flag
pub record Shows (state : ℕ) (r : Esc.Registers) : Type 0 where
  pub state_is : (registers_seen r).state ≡ state
  pub fine : (registers_seen r).refused ≡ None

-- the word that leads to the state awaited waits; the one that returns the slave to Init acknowledges an error, too
abbrev pub Waits : Opening → Esc.Registers → Type 0
Waits o r = (registers_seen r).control ≡ Some (awaited o, shows_clear o)

-- THE STATE THAT AN ACCESS AWAITS STANDS, OR ITS WORD WAITS; and it stands where the slave made a step since the access is in hand
pub record StandsFor (stepped : Bool) (o : Opening) (r : Esc.Registers) : Type 0 where
  pub leads : awaits_at o.again o.step ≡ true → Shows (awaited o) r ⊎ Waits o r
  pub shows : awaits_at o.again o.step ≡ true → stepped ≡ true → Shows (awaited o) r
