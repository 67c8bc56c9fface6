-- How an AL state stands in that exchange: a server that is told the state that stands stays as it is, in a row too.
use Rattle.std.specs.Prelude.{◌≡◌, ℕ, ◌==◌, Bool, false, if◌then◌else◌, None, []}
use Rattle.state_model.specs.of_exchange_model.Exchange.{Exchange, AnswersLast}
use Rattle.state_model.specs.Stated.{Stated}
use Rattle.serving_model.specs.Tagged.{Asked, Rowed, ideal, rows_done}

-- a service may end with an acknowledgement, a mail that is passed on never does
abbrev pub asked_acknowledged : {M Q : Type 0} → (Q → Bool) → Asked M Q → Bool
asked_acknowledged acknowledged (Asked.Script q) = acknowledged q
asked_acknowledged acknowledged (Asked.Passed m answers) = false

-- another state is told between rows
abbrev pub told_state : {V M Q R : Type 0} → Exchange V V M Q R → Stated V V Q → ℕ → Rowed V M Q → Rowed V M Q
told_state x s state w = if s.state (ideal x w) == state then w else record { base = s.tell state (ideal x w); hand = None; part = []; count = rows_done x w }

-- the AL state of the server behind whole rows
abbrev pub tagged_states : {V M Q R : Type 0} → Exchange V V M Q R → Stated V V Q → Stated (Rowed V M Q) V (Asked M Q)
tagged_states x s = record {
  tell = told_state x s;
  told = s.tell;
  state = s.state;
  acknowledged = asked_acknowledged s.acknowledged;
}

-- what a server owes of its AL state, in whatever state it is
pub record IsStatedServed {V M Q R : Type 0} (x : Exchange V V M Q R) (s : Stated V V Q) : Type 0 where
  pub ready : (state : ℕ) (v : V) → x.ready (s.tell state v) ≡ x.ready v
  pub handled : (state : ℕ) (v : V) → x.handled (s.tell state v) ≡ x.handled v
  pub is : (state : ℕ) (v : V) → s.state (s.tell state v) ≡ state
  pub same : (v : V) → s.tell (s.state v) v ≡ v
  pub stays : (v : V) (m : M) → s.state (x.serve v m).0 ≡ s.state v
  pub keeps : (v : V) (q : Q) → s.state (x.exec v q) ≡ s.state v
  pub last : AnswersLast x s.acknowledged
