-- OF A SPEAKER: the exchange that sees what is meant by its mails keeps its laws, and an epoch that its master leads is seen so.
use Rattle.std.proofs.Common.{◌≡◌, ℕ, Bool, Option, List, [], ◌∷◌}
use Rattle.master_hand.specs.of_exchange_model.Exchange.{Exchange, IsLawful}
use Rattle.few_replies.specs.of_life_model.Eras.{planned}
use Rattle.few_replies.specs.of_life_model.Lives.{Spot, Era}
use Rattle.few_replies.proofs.Silences.{answered}
use Rattle.few_replies.proofs.Turns.{heard_law}
use Rattle.few_replies.specs.Led.{IsLed}
use Rattle.few_replies.specs.Silent.{is_passed}
use Rattle.master_hand.specs.of_segment_model.Record.{Frame}
use Rattle.master_hand.specs.of_segment_model.Slaves.{Registers, Processor, Slave}
use Rattle.master_hand.specs.of_serving_model.Tagged.{Rowed}
use Rattle.few_replies.proofs.of_serving_model.StatesLaw.{tagged_stated}
use Rattle.master_hand.specs.of_state_model.Stated.{IsStated}
use Rattle.master_hand.specs.of_state_model.States.{Table}
use Rattle.life_counts.proofs.Stated.{calm_stated}
use Rattle.master_hand.specs.of_state_model.Tasks.{IsTaskPlan}
use Rattle.life_counts.specs.Epochs.{Speaker, IsSpeaker, IsRun, IsSeen, AllFair, between, seeing, seeing_states}
use Rattle.life_counts.proofs.Sessions.{seen_so}

module _ {V M Q R C T : Type 0} (w : Speaker V M Q R C T) (k : IsSpeaker w) where
  pub seeing_lawful : IsLawful (seeing w)
  seeing_lawful = k.lawful

  pub seeing_stated : IsStated (seeing w) (seeing_states w)
  seeing_stated = calm_stated w.exchange w.states w.calm w.fair k.keeps (tagged_stated w.exchange w.core k.served w.states k.stated)

  pub epoch_seen : {A : Type 0} (u : Exchange V A M T (Option R)) (processor : Processor V) (seer : Processor (Rowed V M Q)) (table : ℕ → Table) (spot : Spot) → IsRun w u processor seer (table spot.station) → (opened : ℕ) (v : V) (r : Registers) →
      IsTaskPlan (seeing w) (seeing_states w) seer table (planned spot (between v) r ∷ []) → r.station ≡ spot.station → (fs : List (Frame M)) (counts : Bool) (e : Era M T (Option R)) (n : Slave V M) →
      IsLed u w.naming.acknowledged processor w.naming.more w.naming.passed spot opened v r fs counts e n → AllFair w e.account.started → IsSeen w seer table spot opened v r fs counts e n
  epoch_seen u processor seer table spot run opened v r plan answers fs counts e n led fair =
      seen_so w k seeing_lawful seeing_stated u processor seer table spot run opened v r plan answers
      (λ gs counted d m led_here. heard_law (seeing w) seeing_lawful (seeing_states w).acknowledged seer (λ t. w.naming.more t.mail) is_passed spot opened (between v) r gs counted d m led_here)
      (λ m. let a = answered w.exchange k.first m in
      record { mail = a.mail; planned = a.planned; passes = a.passes; first = a.first; rest = a.rest; gives = a.gives; replies = a.replies })
      fs counts e n led fair
