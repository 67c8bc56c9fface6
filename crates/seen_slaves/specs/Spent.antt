-- AN OPEN SLAVE WITH NOTHING LEFT, as another sees its mails, its services and its replies.
use Rattle.std.specs.Prelude.{◌≡◌, ◌⊎◌, Bool, true, None, [], map}
use Rattle.idle_slaves.specs.of_slave_model.Moments.{NoneLeft, NowAnswered}
use Rattle.idle_slaves.specs.of_exchange_model.Exchange.{Speech, plain}
use Rattle.idle_slaves.specs.of_exchange_model.Rows.{Row}
use Rattle.idle_slaves.specs.of_life_model.Lives.{Era}
use Rattle.idle_slaves.specs.of_link_model.Master.{InState}
use Rattle.served_rings.specs.of_few_replies.Erased.{OfRow, PlanOne, side_seen}
use Rattle.idle_slaves.specs.of_segment_model.Laws.{IsSettled}
use Rattle.idle_slaves.specs.of_segment_model.Slaves.{Slave}
use Rattle.served_rings.specs.of_serving_model.Erasing.{slave_as}
use Rattle.served_rings.specs.of_serving_model.Passing.{ends_told}

module _ {N M P Q S R : Type 0} (f : N → M) (g : P → Q) (h : S → R) (z : Speech N P S) (y : Speech M Q R) where
  -- BOTH SPEAK ALIKE OF THE ROW IN HAND: they plan the same of it, and where it ends with its last write it does so for the other too
  pub record SpeakOne (e : Era N P S) : Type 0 where
    pub plans : OfRow (λ (r : Row N P S). PlanOne f g h z y r.service r.heard) e.side.now
    pub hands : OfRow (λ (r : Row N P S). z.handed r.service ≡ true → y.handed (g r.service) ≡ true) e.side.now

  -- NOTHING IS LEFT, as the other sees it; and what was heard of the newest service is its answer
  pub record NothingSeen {V W : Type 0} (server : V → W) (e : Era N P S) (n : Slave V N) : Type 0 where
    pub settled : IsSettled (slave_as f server n)
    pub held : e.side.halves.out.holding ≡ None
    pub clear : e.side.halves.inn.state ≡ InState.Clear
    pub hand : e.account.hand ≡ None
    pub left : NoneLeft y (side_seen f g h e.side)
    pub answered : NowAnswered z e.side

-- no reply was heard of a row, as the other sees it, or all replies go on but the last
abbrev pub IsEndTold : {N M P Q S R : Type 0} → (N → M) → Speech M Q R → (M → Bool) → Row N P S → Type 0
IsEndTold f y more r = (plain y.emission (map f r.heard) ≡ []) ⊎ (ends_told more (plain y.emission (map f r.heard)) ≡ true)
