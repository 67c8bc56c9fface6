-- An open slave isn't in state Init, nor on the way to it.
use Rattle.std.specs.Prelude.{◌≡◌, ◌≢◌, ℕ, Bool, Option, Some, None, List, [], ◌∷◌, ⊤}
use Rattle.segment_model.specs.Slaves.{Slave}
use Rattle.state_model.specs.Stated.{Stated}
use Rattle.state_model.specs.Accounts.{Duty, Stage, Change, Account}

-- THE SLAVE IS STEADY: its AL state isn't Init, and no control word with that target waits
pub record IsSteady {V M : Type 0} (n : Slave V M) : Type 0 where
  pub state : n.registers.state ≢ 1
  pub word : (word : ℕ × Bool) → n.registers.control ≡ Some word → word.0 ≢ 1

-- no state service that is over had Init as its target
abbrev pub NoneToInit : {R : Type 0} → List (Change R) → Type 0
NoneToInit [] = ⊤
NoneToInit (c ∷ cs) = (c.target ≢ 1) × NoneToInit cs

-- and none in hand that asks for it: one that drains has asked for nothing yet
abbrev pub StageToInit : ℕ → Stage → Type 0
StageToInit target Stage.Drains = ⊤
StageToInit target (Stage.Goes phase) = target ≢ 1

-- the one in hand, where there is one
abbrev pub HandToInit : Option Duty → Type 0
HandToInit None = ⊤
HandToInit (Some duty) = StageToInit duty.target duty.stage

-- THE SESSION ASKS FOR NO RETURN TO INIT: it began in another state, and no state service of it writes that target
pub record AsksNoInit {V A Q R : Type 0} (s : Stated V A Q) (start : A) (a : Account Q R) : Type 0 where
  pub begun : s.state start ≢ 1
  pub over : NoneToInit a.over
  pub hand : HandToInit a.hand
