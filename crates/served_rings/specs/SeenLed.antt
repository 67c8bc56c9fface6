-- A LIFE AS ITS MASTER LEADS IT, which passes mails on beside services: all its epochs, one behind the other.
use Rattle.std.specs.Prelude.{◌≡◌, ℕ, Bool, Option, List, [], ◌∷◌, ◌++◌, ⊤}
use Rattle.served_places.specs.of_exchange_model.Exchange.{Exchange}
use Rattle.served_places.specs.of_life_model.Eras.{Clearing, planned}
use Rattle.served_places.specs.of_life_model.Lives.{Spot, Era, Life, new_era}
use Rattle.run_work.specs.of_few_replies.Clearing.{cleared_rowed}
use Rattle.run_work.specs.of_few_replies.Led.{IsLed}
use Rattle.served_places.specs.of_segment_model.Record.{Frame}
use Rattle.served_places.specs.of_segment_model.Slaves.{Registers, Processor, Slave}
use Rattle.served_places.specs.of_serving_model.Tagged.{Tagged, Asked, Rowed}
use Rattle.served_places.specs.of_state_model.States.{Table}
use Rattle.run_work.specs.of_life_counts.Epochs.{Speaker, AllFair, between, seeing, seeing_states}
use Rattle.run_work.specs.of_life_counts.Seen.{life_seen}
use Rattle.run_work.specs.of_life_counts.Worked.{IsWorked}
use Rattle.served_places.specs.of_state_model.Tasks.{IsTaskPlan}

module _ {V M Q R C T : Type 0} (w : Speaker V M Q R C T) where
  -- each mail that came into hand in these epochs is fair
  abbrev pub ErasFair : List (Era M T (Option R)) → Type 0
  ErasFair [] = ⊤
  ErasFair (e ∷ es) = AllFair w e.account.started × ErasFair es

  -- in all of them
  pub record IsFairLife (l : Life M T (Option R)) : Type 0 where
    pub past : ErasFair l.past
    pub now : AllFair w l.era.account.started

  -- what a return to Init does to the server that sees what is meant by its mails, and to the one behind whole rows
  abbrev pub seen_clearing : (V → V) → Clearing (Rowed V M Q) V
  seen_clearing clear = record { clear = cleared_rowed w.exchange clear; cleared = clear }

  -- `seer` is the processor of the slave that sees what is meant by its mails
  module _ (seer : Processor (Rowed V M Q)) (table : ℕ → Table) (spot : Spot) where
    -- A LIFE SEEN WITH WHAT IS MEANT by its mails: its epochs are sessions that see it, and without that it is the life as it was
    pub record IsSeenLife (clear : V → V) (first : V) (l : Life M T (Option R)) : Type 0 where
      pub life : Life (Tagged M Q) (Asked M Q) (Option R)
      pub worked : IsWorked (seeing w) (seeing_states w) seer table spot (seen_clearing clear) first life
      pub seen : life_seen (λ t. t.mail) w.naming.name (λ r. r) life ≡ l

    module _ {A : Type 0} (u : Exchange V A M T (Option R)) (processor : Processor V) where
      -- AN EPOCH THAT WAS OPEN: from the server that stood before it, told the AL state that was opened, its master led it to the one that its slave left
      pub record WasLed (from : V) (e : Era M T (Option R)) (to : V) : Type 0 where
        pub opened : ℕ
        pub server : V
        pub registers : Registers
        pub frames : List (Frame M)
        pub counts : Bool
        pub slave : Slave V M
        pub begins : server ≡ w.states.tell registers.state from
        pub plan : IsTaskPlan (seeing w) (seeing_states w) seer table (planned spot (between server) registers ∷ [])
        pub answers : registers.station ≡ spot.station
        pub led : IsLed u w.naming.acknowledged processor w.naming.more w.naming.passed spot opened server registers frames counts e slave
        pub leaves : slave.node.server.server ≡ to

      -- ALL EPOCHS BUT THE NEWEST, from one server to another: each that was opened leaves what the next begins with, cleared; and so does one that wasn't
      pub data AllLed (clear : V → V) : V → List (Era M T (Option R)) → V → Type 0 where
        none : (v : V) → AllLed clear v [] v
        closed : (v : V) (es : List (Era M T (Option R))) (b : V) (cleared : Option ℕ) (state : ℕ) → AllLed clear v es b → AllLed clear v (es ++ new_era cleared state ∷ []) (clear b)
        opened : (v : V) (es : List (Era M T (Option R))) (b : V) (e : Era M T (Option R)) (left : V) → AllLed clear v es b → WasLed b e left → AllLed clear v (es ++ e ∷ []) (clear left)

      -- THE NEWEST was never opened, or was led so far
      pub data IsNewestLed (from : V) (e : Era M T (Option R)) : Type 0 where
        closed : (cleared : Option ℕ) (state : ℕ) → e ≡ new_era cleared state → IsNewestLed from e
        opened : (to : V) → WasLed from e to → IsNewestLed from e

      -- THE LIFE, from the server with which its slave was switched on
      pub record IsLedLife (clear : V → V) (first : V) (l : Life M T (Option R)) : Type 0 where
        pub from : V
        pub past : AllLed clear first l.past from
        pub newest : IsNewestLed from l.era
