-- WHAT EACH EPOCH KEEPS, at every frame of a life: what holds of a new one, however it was opened, and goes on with its frames.
use Rattle.std.proofs.Common.{ℕ, ◌==◌, Bool, true, false, Option, Some, None, List, if◌then◌else◌}
use Rattle.std.specs.Prelude.{◌&&◌}
use Rattle.idle_slaves.specs.of_exchange_model.Exchange.{Speech}
use Rattle.idle_slaves.specs.of_life_model.Lives.{Era, Life, Opening, Spot, Stand, clears, era_back, era_lost, era_next, is_shown, last_step, life_back, life_lost, life_next, new_era, opening_back, opens, opens_state, reopening, reopens, reopens_at, returns_to_init, shows_clear, steps_on}
use Rattle.idle_slaves.specs.of_segment_model.Record.{News}
use Rattle.idle_slaves.specs.of_segment_model.Slaves.{Datagram, Found}
use Rattle.idle_slaves.specs.of_state_model.Accounts.{Duty, Pick, Stage}

module _ {M Q R : Type 0} (P : Era M Q R → Type 0) (new : (cleared : Option ℕ) (state : ℕ) → P (new_era cleared state)) (open_too : (e : Era M Q R) (frame : ℕ) → P e → P (record e { opened = Some frame })) where
  -- an opening, and a reopening
  opening_keeps : (frame : ℕ) (l : Life M Q R) (o : Opening) (done : Bool) (found : Option Found) → P l.era → P (opening_back frame l o done found).era
  opening_keeps frame l o done found k = by (shows_clear o) (done && is_shown 1 found) (o.step == last_step o) (done && is_shown o.state found)
    where
      by : (a b c d : Bool) → P (if a then (if b then clears frame l o else l) else if c then (if d then opens frame l else l) else steps_on l o).era
      by true true c d = new (Some frame) o.state
      by true false c d = k
      by false b true true = open_too l.era frame k
      by false b true false = k
      by false b false d = k

  reopens_keeps : (l : Life M Q R) (hand : Option Duty) → P l.era → P (reopens l hand).era
  reopens_keeps l None k = k
  reopens_keeps l (Some duty) k = at_stage duty.stage
    where
      by : (b : Bool) → P (if b then record l { stand = reopening (opens_state duty.target) true } else l).era
      by true = k
      by false = k

      at_stage : (stage : Stage) → P (reopens_at l duty.target stage).era
      at_stage Stage.Drains = k
      at_stage (Stage.Goes phase) = by (returns_to_init duty.target)

  module _ (x : Speech M Q R) (acknowledged : Q → Bool) (more : M → Bool) (passed : Q → Bool) where
    pub next_keeps : (frame : ℕ) (l : Life M Q R) (stand : Stand) (pick : Pick Q) → (P l.era → P (era_next x acknowledged more passed frame l.era pick)) → P l.era → P (life_next x acknowledged more passed frame l stand pick).era
    next_keeps frame l (Stand.Opens o) pick step k = k
    next_keeps frame l Stand.Gone pick step k = k
    next_keeps frame l Stand.Open pick step k = step k

    pub back_keeps : (frame : ℕ) (spot : Spot) (ns : List (News M)) (ds : List (Datagram M)) (came : Option (Bool × Option Found)) (l : Life M Q R) (stand : Stand) → (P l.era → P (era_back x acknowledged more passed spot.station frame ns ds l.era)) → P l.era →
        P (life_back x acknowledged more passed frame spot ns ds came l stand).era
    back_keeps frame spot ns ds None l (Stand.Opens o) step k = k
    back_keeps frame spot ns ds (Some came) l (Stand.Opens o) step k = opening_keeps frame l o came.0 came.1 k
    back_keeps frame spot ns ds came l Stand.Gone step k = k
    back_keeps frame spot ns ds came l Stand.Open step k =
        let era = era_back x acknowledged more passed spot.station frame ns ds l.era in
        reopens_keeps (record l { era = era }) era.account.hand (step k)

    pub lost_keeps : (spot : Spot) (ns : List (News M)) (ds : List (Datagram M)) (l : Life M Q R) (stand : Stand) → (P l.era → P (era_lost x acknowledged more passed spot.station ns ds l.era)) → P l.era → P (life_lost x acknowledged more passed spot ns ds l stand).era
    lost_keeps spot ns ds l (Stand.Opens o) step k = k
    lost_keeps spot ns ds l Stand.Gone step k = k
    lost_keeps spot ns ds l Stand.Open step k = step k
