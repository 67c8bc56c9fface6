-- ALL THAT STANDS IN A LIFE was before the next frame.
use Rattle.std.proofs.Common.{ℕ, suc, ◌<◌, Bool, true, false, Option, Some, None, List, arith}
use Rattle.std.specs.Prelude.{◌==◌, ◌&&◌, if◌then◌else◌}
use Rattle.std.specs.List.{All}
use Rattle.std.proofs.lemmas.List.Elements.{All-push, All-weaker}
use Rattle.life_runs.specs.of_exchange_model.Exchange.{Speech}
use Rattle.life_runs.specs.of_frame_view.Shares.{given_where}
use Rattle.life_runs.specs.of_life_model.Lives.{Spot, Life, Stand, Opening, life_back, life_lost, era_back, opening_back, shows_clear, is_shown, last_step, clears, opens, steps_on, reopens, reopens_at, reopening, opens_state, returns_to_init}
use Rattle.life_runs.specs.Led.{is_passed}
use Rattle.life_runs.specs.of_link_mails.Body.{Body}
use Rattle.life_runs.specs.of_master_duty.Reply.{Reply}
use Rattle.life_runs.specs.of_master_hand.Spoken.{Asked, acknowledged, is_followed}
use Rattle.life_runs.specs.of_segment_model.Record.{News}
use Rattle.life_runs.specs.of_segment_model.Slaves.{Datagram, Found}
use Rattle.life_runs.specs.of_state_model.Accounts.{Duty, Stage}
use Rattle.run_frames.specs.Steps.{OpenedBefore, IsBefore}
use Rattle.run_frames.proofs.Anew.{WasBefore}

abbrev LifeOf : Type 0
LifeOf = Life Body Asked Reply

opened_later : (made : ℕ) (o : Option ℕ) → OpenedBefore made o → OpenedBefore (suc made) o
opened_later made None h = tt
opened_later made (Some frame) h = omega (arith, h)

module _ (made : ℕ) (l : LifeOf) (h : IsBefore made l) where
  past_later : All (λ e. WasBefore (suc made) e) l.past
  past_later = All-weaker (λ e. WasBefore made e) (λ e. WasBefore (suc made) e) (λ e. opened_later made e.opened) l.past h.past

  gave_later : All (λ k. k < suc made) l.gave
  gave_later = All-weaker (λ k. k < made) (λ k. k < suc made) (λ k e. omega (arith, e)) l.gave h.gave

  pub later : IsBefore (suc made) l
  later = record { past = past_later; era = opened_later made l.era.opened h.era; gave = gave_later }

  -- AN OPENING
  opening_before : (o : Opening) (done : Bool) (found : Option Found) → IsBefore (suc made) (opening_back made l o done found)
  opening_before o done found = go (shows_clear o) (done && is_shown 1 found) (o.step == last_step o) (done && is_shown o.state found)
    where
      go : (shows seen last there : Bool) → IsBefore (suc made) (if shows then (if seen then clears made l o else l) else if last then (if there then opens made l else l) else steps_on l o)
      go true true last there = record { past = All-push (λ e. WasBefore (suc made) e) l.past l.era past_later later.era; era = tt; gave = gave_later }
      go true false last there = later
      go false seen true true = record { past = past_later; era = omega arith; gave = gave_later }
      go false seen true false = later
      go false seen false there = record { past = past_later; era = later.era; gave = gave_later }

  reopens_before : (m : LifeOf) (hand : Option Duty) → IsBefore (suc made) m → IsBefore (suc made) (reopens m hand)
  reopens_before m None k = k
  reopens_before m (Some duty) k = go duty.stage
    where
      by : (b : Bool) → IsBefore (suc made) (if b then record m { stand = reopening (opens_state duty.target) true } else m)
      by true = record { past = k.past; era = k.era; gave = k.gave }
      by false = k

      go : (stage : Stage) → IsBefore (suc made) (reopens_at m duty.target stage)
      go Stage.Drains = k
      go (Stage.Goes phase) = by (returns_to_init duty.target)

  module _ (x : Speech Body Asked Reply) (spot : Spot) (news : List (News Body)) (ds : List (Datagram Body)) where
    -- BEHIND A RETURN
    pub back_before : (came : Option (Bool × Option Found)) (stand : Stand) → IsBefore (suc made) (life_back x acknowledged is_followed is_passed made spot news ds came l stand)
    back_before None (Stand.Opens o) = later
    back_before (Some came) (Stand.Opens o) = opening_before o came.0 came.1
    back_before came Stand.Open =
        let e = era_back x acknowledged is_followed is_passed spot.station made news ds l.era in reopens_before (record l { era = e }) e.account.hand (record { past = past_later; era = later.era; gave = gave_later })
    back_before came Stand.Gone = later

    -- BEHIND A LOSS
    pub lost_before : (stand : Stand) → IsBefore made (life_lost x acknowledged is_followed is_passed spot news ds l stand)
    lost_before (Stand.Opens o) = h
    lost_before Stand.Open = record { past = h.past; era = h.era; gave = h.gave }
    lost_before Stand.Gone = h

-- with a give-up, or without
pub given_before : (made recover : ℕ) (spot : Spot) (b : Bool) (m : LifeOf) → IsBefore made m → IsBefore (suc made) (given_where b recover spot made m)
given_before made recover spot true m h =
    let k = later made m h in record { past = k.past; era = k.era; gave = All-push (λ n. n < suc made) m.gave made k.gave (omega arith) }
given_before made recover spot false m h = later made m h
