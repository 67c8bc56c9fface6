-- The AL state machine of a slave as the model of state services sees it.
use Rattle.std.specs.Prelude.{◌≡◌, ◌≢◌, ℕ, ◌==◌, Bool, not, Option, Some, None}
use Rattle.frame_view.specs.of_ec_fields.Fields.{bits_of}
use Rattle.slave_node.specs.of_al_state.declared.machine.Al.{Al}
use Rattle.slave_node.specs.of_al_state.Request.{refusal_of}
use Rattle.frame_view.specs.of_segment_model.Slaves.{Registers}
use Rattle.frame_view.specs.of_state_model.States.{Table}

-- what a slave answers to a change, with Bootstrap or without, and with its mailbox sync managers right or not
abbrev pub slave_table : Bool → Bool → Table
slave_table boot areas from to = refusal_of from to boot areas

-- the error of a slave: the code of its error flag, 0 without it
abbrev pub error_of : Option ℕ → ℕ
error_of None = 0
error_of (Some code) = code

-- a slave's AL state and error are those of its registers; no code is 0
pub record Shows (al : Al) (r : Registers) : Type 0 where
  pub state : al.state ≡ r.state
  pub error : al.error ≡ error_of r.refused
  pub coded : (code : ℕ) → r.refused ≡ Some code → code ≢ 0

-- the control word in a register: target and acknowledge
abbrev pub word_seen : ℕ → ℕ × Bool
word_seen control = (bits_of control 0 4, not (bits_of control 4 1 == 0))
