-- A slave that is spent, as its master speaks with it.
use Rattle.std.proofs.Common.{ℕ, Bool, List}
use Rattle.plan_ring.specs.of_slave_model.Moments.{IsFree, NoneLeft, NowAnswered}
use Rattle.plan_ring.proofs.of_slave_model.Laws.{nothing}
use Rattle.plan_ring.specs.of_exchange_model.Exchange.{Exchange, Speech, IsLawful}
use Rattle.idle_slaves.specs.Visited.{LifeSpent}
use Rattle.idle_slaves.proofs.Settled.{is_left}
use Rattle.plan_ring.specs.of_life_model.Eras.{EraIs}
use Rattle.plan_ring.specs.of_life_model.Lives.{Life, Spot}
use Rattle.plan_ring.specs.Alike.{Alike, RowIs}
use Rattle.plan_ring.proofs.NamedAlike.{free_back, left_alike, answered_alike}
use Rattle.plan_ring.specs.of_slave_model.Waits.{NeverWaits}
use Rattle.plan_ring.specs.of_segment_model.Record.{Frame}
use Rattle.plan_ring.specs.of_segment_model.Slaves.{Processor, Registers, Slave, serving}
use Rattle.plan_ring.specs.of_state_model.Stated.{Stated, IsStated}
use Rattle.plan_ring.specs.of_state_model.States.{Table}

module _ {V A M Q R : Type 0} (x : Exchange V A M Q R) (s : Stated V A Q) (processor : Processor V) (table : ℕ → Table) (spot : Spot) (l : Life M Q R) (opened last : ℕ) (fs : List (Frame M)) (v : V) (r : Registers) (slave : Slave V M) where
  pub spent_free : IsLawful x → IsStated x s → NeverWaits x → EraIs x s processor table spot l.era opened last fs v r slave → LifeSpent (serving x) l slave.node →
      (is : Q → Bool) (y : Speech M Q R) → Alike is y x.speech → RowIs is l.era.side.now → NowAnswered y l.era.side → NoneLeft y l.era.side → IsFree y s.acknowledged l.era.side
  spent_free law stated never lived spent is y same row said none =
      let k = is_left x l slave spent in
      free_back is y x.speech same l.era.side s.acknowledged row
      (nothing x s processor table spot l.era opened last fs v r slave law stated lived never (record {
        settled = k.settled;
        held = k.held;
        clear = k.clear;
        hand = k.hand;
        left = left_alike is y x.speech same l.era.side row none;
        answered = answered_alike is y x.speech same l.era.side row said;
      }))
