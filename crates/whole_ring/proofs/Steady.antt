-- A SLAVE THAT IS UP stays so by a step.
use Rattle.std.proofs.Common.{◌≡◌, ◌≢◌, ℕ, Bool, true, false, refl, sym, ◌∙◌}
use Rattle.std.specs.Prelude.{Option, Some, None, if◌then◌else◌}
use Rattle.std.proofs.lemmas.Bool.{ne_eqb}
use Rattle.slave_lives.specs.of_esc_registers.declared.registers.Registers as Esc
use Rattle.slave_lives.specs.of_esc_registers.Registers.{are_areas_right}
use Rattle.slave_lives.specs.of_frames_seen.Slaves.{registers_seen}
use Rattle.slave_lives.specs.of_segment_model.Slaves.{Registers}
use Rattle.slave_lives.specs.of_state_model.States as States
use Rattle.slave_lives.specs.of_frames_seen.Shows.{slave_table}
use Rattle.slave_lives.specs.Steps.{StaysUp, word_carried}

-- the state isn't Init, and no word that waits leads there
pub record IsUp (r : Registers) : Type 0 where
  pub state : r.state ≢ 1
  pub word : (word : ℕ × Bool) → r.control ≡ Some word → word.0 ≢ 1

-- a word that is carried out waits no longer
carried_none : (table : States.Table) (r : Registers) → (States.carry table r).control ≡ None
carried_none table r = go r.refused r.control refl
  where
    decides : (found : Option ℕ) (target : ℕ) → (States.decided r target found).control ≡ None
    decides None target = refl
    decides (Some code) target = refl

    flag : (b : Bool) (target : ℕ) (found : Option ℕ) → (if b then States.decided r target found else record r { control = None }).control ≡ None
    flag true target found = decides found target
    flag false target found = refl

    go : (refused : Option ℕ) (control : Option (ℕ × Bool)) → r.control ≡ control → (States.word_carried table r refused control).control ≡ None
    go None None e = e
    go (Some code) None e = e
    go None (Some w) e = decides (table r.state w.0) w.0
    go (Some code) (Some w) e = flag w.1 w.0 (table r.state w.0)

carried_state : (table : States.Table) (r : Registers) → IsUp r → (States.carry table r).state ≢ 1
carried_state table r up = go r.refused r.control refl
  where
    decides : (found : Option ℕ) (target : ℕ) → target ≢ 1 → (States.decided r target found).state ≢ 1
    decides None target other = other
    decides (Some code) target other = up.state

    flag : (b : Bool) (target : ℕ) (found : Option ℕ) → target ≢ 1 → (if b then States.decided r target found else record r { control = None }).state ≢ 1
    flag true target found other = decides found target other
    flag false target found other = up.state

    go : (refused : Option ℕ) (control : Option (ℕ × Bool)) → r.control ≡ control → (States.word_carried table r refused control).state ≢ 1
    go None None e = up.state
    go (Some code) None e = up.state
    go None (Some w) e = decides (table r.state w.0) w.0 (up.word w e)
    go (Some code) (Some w) e = flag w.1 w.0 (table r.state w.0) (up.word w e)

pub carried_up : (boot : Bool) (r : Esc.Registers) → IsUp (registers_seen r) → IsUp (word_carried boot r)
carried_up boot r up = record {
  state = carried_state (slave_table boot (are_areas_right r)) (registers_seen r) up;
  word = λ w e. absurd (let none : None ≡ Some w = sym (carried_none (slave_table boot (are_areas_right r)) (registers_seen r)) ∙ e in cc);
}

pub stays_up : (boot : Bool) (r : Esc.Registers) → IsUp (registers_seen r) → StaysUp boot r
stays_up boot r up = record {
  was = ne_eqb (registers_seen r).state 1 up.state;
  now = ne_eqb (word_carried boot r).state 1 (carried_state (slave_table boot (are_areas_right r)) (registers_seen r) up);
}
