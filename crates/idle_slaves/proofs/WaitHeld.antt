-- A write in vain to an open slave: where a state service might begin behind it, none is left.
use Rattle.std.proofs.Common.{◌≡◌, ℕ, Bool, Option, Some, None, List, [], sym, subst}
use Rattle.plan_ring.specs.of_exchange_model.Exchange.{Speech}
use Rattle.idle_slaves.specs.Held.{EndsHeld}
use Rattle.plan_ring.specs.of_slave_model.Moments.{IsFree, HeldStill, NowAnswered}
use Rattle.idle_slaves.proofs.Ends.{ends_known}
use Rattle.idle_slaves.proofs.Held.{side_is}
use Rattle.plan_ring.specs.of_life_model.Lives.{Era, Life, Spot, Stand, life_back, era_next}
use Rattle.plan_ring.specs.of_life_model.Own.{own}
use Rattle.plan_ring.specs.of_life_runs.Led.{is_passed}
use Rattle.plan_ring.specs.of_link_mails.Body.{Body}
use Rattle.plan_ring.specs.of_master_duty.Reply.{Reply}
use Rattle.plan_ring.specs.of_master_hand.Spoken.{Asked, acknowledged, is_followed}
use Rattle.plan_ring.specs.of_segment_model.Record.{News}
use Rattle.plan_ring.specs.of_segment_model.Seats.{Side, side_back}
use Rattle.plan_ring.specs.of_segment_model.Slaves.{Datagram, Found}
use Rattle.plan_ring.specs.of_state_model.Stated.{Service}
use Rattle.plan_ring.specs.of_state_model.Accounts.{Pick, starts}
use Rattle.idle_slaves.proofs.Fits.{ToldWhole}

module _ (x : Speech Body Asked Reply) (number : ℕ) (spot : Spot) (e : Era Body Asked Reply) (said : NowAnswered x e.side) (told : ToldWhole x acknowledged e) (silent : (q : Asked) → x.ends q [] ≡ None) (pick : Pick Asked)
    (took : (w : Service Asked) → pick.begin ≡ Some w → (era_next x acknowledged is_followed is_passed number e pick).account.started ≡ starts e.account w number) (u : Life Body Asked Reply) (era_is : u.era ≡ era_next x acknowledged is_followed is_passed number e pick)
    (Left : Type 0) (rule : IsFree x acknowledged e.side → e.account.hand ≡ None → e.passing ≡ None → pick.begin ≡ None → Left) (news : List (News Body)) (back : List (Datagram Body)) (came : Option (Bool × Option Found)) where
  abbrev mine : List (Datagram Body)
  mine = own spot.station back

  abbrev behind : Era Body Asked Reply → Side Body Asked Reply
  behind z = side_back x number spot.station (own spot.station back) z.side

  pub ends_at : EndsHeld x acknowledged Left spot.station back u (life_back x acknowledged is_followed is_passed number spot news back came u Stand.Open)
  ends_at hand none held free =
      let side = side_is x acknowledged is_followed is_passed number spot news back came u in
      let all = subst (λ (z : Era Body Asked Reply). z.account.hand ≡ None → z.passing ≡ None → HeldStill spot.station mine z.side (behind z) → IsFree x acknowledged (behind z) → Left) (sym era_is)
      (λ h p k f. ends_known x acknowledged e said told is_followed is_passed number pick spot.station mine Left rule (λ q wish. silent q) took h p k f) in
      all hand none (subst (λ d. HeldStill spot.station mine u.era.side d) side held) (subst (λ d. IsFree x acknowledged d) side free)
