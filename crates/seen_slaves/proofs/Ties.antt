-- AN EPOCH THAT ITS MASTER LEADS, and what is kept of it turn by turn, where each mail is fair.
use Rattle.std.proofs.Common.{◌≡◌, ℕ, Bool, true, Option, List, [], ◌∷◌}
use Rattle.idle_slaves.specs.of_exchange_model.Exchange.{Exchange}
use Rattle.idle_slaves.specs.of_life_model.Eras.{planned}
use Rattle.idle_slaves.specs.of_life_model.Lives.{Era, Spot}
use Rattle.served_rings.specs.of_few_replies.Led.{IsAnswered, IsLed, NoneUnheard, turn_next}
use Rattle.served_rings.specs.of_few_replies.Silent.{is_passed}
use Rattle.served_rings.proofs.of_few_replies.Silences.{answered}
use Rattle.served_rings.proofs.of_few_replies.Turns.{heard_law}
use Rattle.idle_slaves.specs.of_segment_model.Record.{Frame}
use Rattle.idle_slaves.specs.of_segment_model.Slaves.{Processor, Registers, Slave}
use Rattle.seen_slaves.specs.Brings.{AllAreFair}
use Rattle.served_rings.specs.of_serving_model.Tagged.{Asked, Rowed, Tagged}
use Rattle.idle_slaves.specs.of_state_model.States.{Table}
use Rattle.served_rings.specs.of_life_counts.Epochs.{IsRun, IsSpeaker, Speaker, between, seeing, seeing_states}
use Rattle.served_rings.proofs.of_life_counts.Led as Led
use Rattle.served_rings.proofs.of_life_counts.Sessions.{begin}
use Rattle.served_rings.proofs.of_life_counts.TaggedWhole.{seeing_lawful, seeing_stated}
use Rattle.idle_slaves.specs.of_state_model.Tasks.{IsTaskPlan}

module _ {V M Q R C T A : Type 0} (w : Speaker V M Q R C T) (k : IsSpeaker w) (fair : AllAreFair w) (u : Exchange V A M T (Option R)) (processor : Processor V) (seer : Processor (Rowed V M Q)) (tables : ℕ → Table) (spot : Spot)
    (run : IsRun w u processor seer (tables spot.station)) (opened : ℕ) (v : V) (r : Registers) (plan : IsTaskPlan (seeing w) (seeing_states w) seer tables (planned spot (between v) r ∷ [])) (answers : r.station ≡ spot.station) where
  abbrev Tied : List (Frame M) → Bool → Era M T (Option R) → Slave V M → Type 0
  Tied fs counts e n = Led.Tied w k (seeing_lawful w k) (seeing_stated w k) u processor seer tables spot run opened v r fs counts e n

  abbrev LedThere : List (Frame M) → Bool → Era M T (Option R) → Slave V M → Type 0
  LedThere fs counts e n = IsLed u w.naming.acknowledged processor w.naming.more w.naming.passed spot opened v r fs counts e n

  heard : (gs : List (Frame (Tagged M Q))) (counted : Bool) (d : Era (Tagged M Q) (Asked M Q) (Option R)) (m : Slave (Rowed V M Q) (Tagged M Q)) →
      IsLed (seeing w) (seeing_states w).acknowledged seer (λ t. w.naming.more t.mail) is_passed spot opened (between v) r gs counted d m → NoneUnheard (seeing w) is_passed d
  heard gs counted d m led = heard_law (seeing w) (seeing_lawful w k) (seeing_states w).acknowledged seer (λ t. w.naming.more t.mail) is_passed spot opened (between v) r gs counted d m led

  always : (m : M) → IsAnswered (seeing w) is_passed (Asked.Passed m true)
  always m = let a = answered w.exchange k.first m in record { mail = a.mail; planned = a.planned; passes = a.passes; first = a.first; rest = a.rest; gives = a.gives; replies = a.replies }

  pub tied : (fs : List (Frame M)) (counts : Bool) (e : Era M T (Option R)) (n : Slave V M) → LedThere fs counts e n → Tied fs counts e n
  tied fs counts e n (IsLed.begins cleared state gs is) = begin w k (seeing_lawful w k) (seeing_stated w k) u processor seer tables spot run opened v r plan answers heard always cleared state gs is
  tied fs counts e n (IsLed.goes_on gs c d m l t may) =
      Led.tied_next w k (seeing_lawful w k) (seeing_stated w k) u processor seer tables spot run opened v r gs c d m (tied gs c d m l) t may
      (fair (turn_next u w.naming.acknowledged processor w.naming.more w.naming.passed spot opened gs d t).account.started) heard always
