-- A LIFE WHOSE EPOCHS ARE SESSIONS of an exchange, whatever its mails are.
use Rattle.std.specs.Prelude.{◌≡◌, ℕ, None, List, [], ◌∷◌, ◌++◌}
use Rattle.master_hand.specs.of_exchange_model.Exchange.{Exchange}
use Rattle.few_replies.specs.of_life_model.Eras.{Clearing, WasOpen}
use Rattle.few_replies.specs.of_life_model.Lives.{Spot, Era, Life}
use Rattle.few_replies.specs.RowCounts.{AreCounted}
use Rattle.master_hand.specs.of_segment_model.Record.{Frame}
use Rattle.master_hand.specs.of_segment_model.Slaves.{Processor}
use Rattle.master_hand.specs.of_state_model.Stated.{Stated}
use Rattle.master_hand.specs.of_state_model.States.{Table}

-- WHAT NO SERVICE CHANGES of an application, nor a change of the AL state, nor a return to Init; and what each service takes at most by it
pub record KeepsAll {V A M Q R K : Type 0} (x : Exchange V A M Q R) (s : Stated V A Q) (c : Clearing V A) (shape : A → K) (count : K → Q → ℕ) : Type 0 where
  pub counted : AreCounted x (λ v. shape (x.app v)) count
  pub exec : (a : A) (q : Q) → shape (x.exec a q) ≡ shape a
  pub told : (state : ℕ) (a : A) → shape (s.told state a) ≡ shape a
  pub cleared : (a : A) → shape (c.cleared a) ≡ shape a

module _ {V A M Q R : Type 0} (x : Exchange V A M Q R) (s : Stated V A Q) (processor : Processor V) (table : ℕ → Table) (spot : Spot) where
  -- ALL EPOCHS BUT THE NEWEST, from one application to another, each over frames of its own: one that was opened begins with what the one before left,
  -- cleared and told the AL state that was opened; one that wasn't leaves it, cleared
  pub data AllWorked (cleared : A → A) : A → List (Era M Q R) → A → Type 0 where
    none : (a : A) → AllWorked cleared a [] a
    closed : (a : A) (es : List (Era M Q R)) (b : A) (e : Era M Q R) → AllWorked cleared a es b → e.opened ≡ None → AllWorked cleared a (es ++ e ∷ []) (cleared b)
    opened : (a : A) (es : List (Era M Q R)) (b : A) (e : Era M Q R) (fs : List (Frame M)) (left : A) → AllWorked cleared a es b → WasOpen x s processor table spot e fs b left → AllWorked cleared a (es ++ e ∷ []) (cleared left)

  -- THE NEWEST EPOCH was never opened, or is a session, also where a reopening or a give-up ended it
  pub data IsNewest (from : A) (e : Era M Q R) : Type 0 where
    closed : e.opened ≡ None → IsNewest from e
    opened : (fs : List (Frame M)) (to : A) → WasOpen x s processor table spot e fs from to → IsNewest from e

  -- A LIFE IS WORKED from an application on: all its epochs are such sessions, each from what the one before left, cleared
  pub record IsWorked (c : Clearing V A) (first : A) (l : Life M Q R) : Type 0 where
    pub from : A
    pub past : AllWorked c.cleared first l.past from
    pub newest : IsNewest from l.era
