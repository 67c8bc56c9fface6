-- Along an epoch as its master leads it.
use Rattle.std.proofs.Common.{◌≡◌, ℕ, Bool, true, false, Option, Some, None, List, [], length, refl, subst, if◌then◌else◌}
use Rattle.idle_slaves.specs.of_slave_model.Moments.{NowAnswered}
use Rattle.idle_slaves.specs.of_exchange_model.Exchange.{Exchange}
use Rattle.idle_slaves.specs.of_life_model.Lives.{Era, Life, Spot, Stand, era_after, era_back, new_life, opens_state, reopening, reopens, reopens_at, returns_to_init}
use Rattle.idle_slaves.specs.of_link_model.Segment.{RingFate}
use Rattle.served_rings.specs.of_few_replies.Led.{IsLed, news_in, turn_next}
use Rattle.idle_slaves.specs.of_segment_model.Record.{Frame, News}
use Rattle.idle_slaves.specs.of_segment_model.Slaves.{Datagram, Processor, Registers, Slave}
use Rattle.seen_slaves.proofs.Said.{back, lost, next, none_says}
use Rattle.idle_slaves.specs.of_state_model.Accounts.{Duty, Stage}

-- a reopening leaves the epoch
reopens_era : {M Q R : Type 0} (l : Life M Q R) (hand : Option Duty) → (reopens l hand).era ≡ l.era
reopens_era l None = refl
reopens_era l (Some duty) = at_stage duty.stage
  where
    by : (b : Bool) → (if b then record l { stand = reopening (opens_state duty.target) true } else l).era ≡ l.era
    by true = refl
    by false = refl

    at_stage : (stage : Stage) → (reopens_at l duty.target stage).era ≡ l.era
    at_stage Stage.Drains = refl
    at_stage (Stage.Goes phase) = by (returns_to_init duty.target)

module _ {V A M Q R : Type 0} (x : Exchange V A M Q R) (acknowledged : Q → Bool) (processor : Processor V) (more : M → Bool) (passed : Q → Bool) (spot : Spot) (opened : ℕ) (v : V) (r : Registers) (silent : (q : Q) → x.speech.ends q [] ≡ None) where
  -- a life that is in this epoch
  abbrev in_era : Era M Q R → Life M Q R
  in_era e = record (new_life 0) { era = e; stand = Stand.Open }

  by_fate : (frame : ℕ) (news : List (News M)) (sent : List (Datagram M)) (fate : RingFate) (ds : List (Datagram M)) (e : Era M Q R) → NowAnswered x.speech e.side →
      NowAnswered x.speech (era_after x.speech acknowledged more passed spot.station frame news sent fate ds e).side
  by_fate frame news sent RingFate.Back ds e k =
      let now : Era M Q R = era_back x.speech acknowledged more passed spot.station frame news ds e in
      subst (λ (z : Era M Q R). NowAnswered x.speech z.side) (reopens_era (record (in_era e) { era = now }) now.account.hand)
      (back x.speech acknowledged more passed frame spot news ds None (in_era e) Stand.Open k)
  by_fate frame news sent (RingFate.Lost after) ds e k = lost x.speech acknowledged more passed spot news sent (in_era e) Stand.Open k

  pub led_says : (fs : List (Frame M)) (counts : Bool) (e : Era M Q R) (n : Slave V M) → IsLed x acknowledged processor more passed spot opened v r fs counts e n → NowAnswered x.speech e.side
  led_says _ _ _ _ (IsLed.begins cleared state fs long) = none_says x.speech
  led_says _ _ _ _ (IsLed.goes_on fs counts e n l t may) =
      by_fate (length fs) (news_in spot opened fs counts t) t.sent t.fate t.back (turn_next x acknowledged processor more passed spot opened fs e t)
      (next x.speech acknowledged more passed silent (length fs) (in_era e) Stand.Open t.pick (led_says fs counts e n l))
