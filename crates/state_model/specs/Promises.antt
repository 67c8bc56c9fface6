-- What state services promise of a slave's AL state and of their answers.
use Rattle.std.specs.Prelude.{◌≡◌, ◌⊎◌, ℕ, Option, Some, None, List, [], ◌∷◌, ⊤}
use Rattle.segment_model.specs.Record.{News}
use Rattle.segment_model.specs.Ends.{Outcome, state_ends}
use Rattle.state_model.specs.States.{Table, Hand, Closed, States}

-- a state in which a slave comes is one in which it may stay
pub record IsTable (table : Table) (start : ℕ) : Type 0 where
  pub sits : table start start ≡ None
  pub stays : (from to : ℕ) → table from to ≡ None → table to to ≡ None

-- the state behind a service: its target, or, refused, the state before
abbrev pub reached : Option ℕ → ℕ → ℕ → ℕ
reached None from to = to
reached (Some code) from to = from

-- the state behind a service, by the table
abbrev pub state_behind : Table → ℕ → ℕ → ℕ
state_behind table from to = reached (table from to) from to

-- and behind all that are closed
abbrev pub state_closed : {M R : Type 0} → Table → ℕ → List (Closed M R) → ℕ
state_closed table from [] = from
state_closed table from (c ∷ cs) = state_closed table (state_behind table from c.target) cs

-- what the table answers to a service
abbrev pub answer_of : {R : Type 0} → Option ℕ → Outcome R
answer_of None = Outcome.Reached
answer_of (Some code) = Outcome.Refused code

-- each answer is the table's in the state behind the services before it, and the one that the statuses read for it complete
abbrev pub AllTold : {M R : Type 0} → Table → ℕ → List (Closed M R) → Type 0
AllTold table from [] = ⊤
AllTold table from (c ∷ cs) =
    (c.answer ≡ answer_of (table from c.target)) × (state_ends c.target None c.read ≡ Some c.answer) × AllTold table (state_behind table from c.target) cs

-- THE AL STATE: with nothing in hand that behind the closed services, without an error flag; with one in hand that, or the state behind it
abbrev pub Stands : {M : Type 0} → Table → ℕ → Option (Hand M) → ℕ → Option ℕ → Type 0
Stands table from None state refused = (state ≡ from) × (refused ≡ None)
Stands table from (Some h) state refused = (state ≡ from) ⊎ (state ≡ state_behind table from h.target)

-- THE ERROR FLAG: it stands for a refusal of the service in hand alone, with its code
abbrev pub Flagged : {M : Type 0} → Table → ℕ → Option (Hand M) → Option ℕ → Type 0
Flagged table from None refused = refused ≡ None
Flagged table from (Some h) refused = (code : ℕ) → refused ≡ Some code → table from h.target ≡ Some code

-- no status read so far completes the service in hand
abbrev pub Pending : {M : Type 0} → Type 0 → Option (Hand M) → Type 0
Pending R None = ⊤
Pending R (Some h) = state_ends {R = R} h.target None h.read ≡ None

-- WHAT STATE SERVICES PROMISE
pub record StatesPromised {M R : Type 0} (table : Table) (start : ℕ) (w : States M R) : Type 0 where
  pub told : AllTold table start w.closed
  pub stands : Stands table (state_closed table start w.closed) w.hand w.registers.state w.registers.refused
  pub flagged : Flagged table (state_closed table start w.closed) w.hand w.registers.refused
  pub pending : Pending R w.hand

-- the statuses among news
abbrev pub statuses : {M : Type 0} → List (News M) → List (News M)
statuses [] = []
statuses (News.Status state refused ∷ ns) = News.Status state refused ∷ statuses ns
statuses (News.Told m ∷ ns) = statuses ns
statuses (News.Written ∷ ns) = statuses ns
statuses (News.Heard m ∷ ns) = statuses ns
statuses (News.NothingRead ∷ ns) = statuses ns
statuses (News.BoxFull full ∷ ns) = statuses ns
