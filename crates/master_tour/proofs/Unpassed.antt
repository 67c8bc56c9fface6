-- A life in which no mail that is passed on came into hand has none in hand.
use Rattle.std.proofs.Common.{◌≡◌, ℕ, Bool, true, false, List, Option, Some, None, refl, ap, ◌∙◌}
use Rattle.std.specs.Prelude.{◌&&◌, ◌==◌, nat_lt, length, if◌then◌else◌}
use Rattle.master_side.specs.of_exchange_model.Exchange.{Speech}
use Rattle.master_side.specs.of_link_mails.Body.{Body}
use Rattle.master_side.specs.of_segment_model.Ends.{Passing}
use Rattle.master_side.specs.of_segment_model.Record.{News}
use Rattle.master_side.specs.of_segment_model.Slaves.{Datagram, Found}
use Rattle.master_side.specs.of_state_model.Stated.{Service}
use Rattle.master_side.specs.of_state_model.Accounts.{Account, Duty, Stage, Pick, account_next}
use Rattle.master_side.specs.of_life_model.Lives
use Rattle.master_side.specs.of_life_model.Lives.{Life, Opening, Spot, granted, passing_begins, passes, opening_back, clears, opens, steps_on, shows_clear, last_step, is_shown, reopens, reopens_at, returns_to_init, reopening, opens_state, life_next, era_back, life_back, life_lost}
use Rattle.master_side.specs.of_frame_view.Frames.{Share}
use Rattle.master_side.specs.of_frame_view.Shares.{Lived, given_where, came_at, lived_back, lived_lost}
use Rattle.master_side.specs.of_master_duty.Reply.{Reply}

module _ {Q : Type 0} (x : Speech Body Q Reply) (acknowledged : Q → Bool) (more : Body → Bool) (passed : Q → Bool) where
  none_begins : (p : Option Passing) (old new : Account Q Reply) (w : Option (Service Q)) → p ≡ None → ((q : Q) → w ≡ Some (Service.Mails q) → passed q ≡ false) → passing_begins x acknowledged more passed p old new w ≡ None
  none_begins p old new None e h = e
  none_begins p old new (Some (Service.State target)) e h = e
  none_begins p old new (Some (Service.Mails q)) e h = ap (λ (z : Bool). if z && nat_lt (length old.started) (length new.started) then Some Passing.Waiting else p) (h q refl) ∙ e

  -- before a frame
  pub unpassed_next : (made : ℕ) (l : Life Body Q Reply) (stand : Lives.Stand) (pick : Pick Q) → l.era.passing ≡ None → ((q : Q) → pick.begin ≡ Some (Service.Mails q) → passed q ≡ false) → (life_next x acknowledged more passed made l stand pick).era.passing ≡ None
  unpassed_next made l (Lives.Stand.Opens o) pick e h = e
  unpassed_next made l Lives.Stand.Gone pick e h = e
  unpassed_next made l Lives.Stand.Open pick e h = go l.era.passing e
    where
      go : (p : Option Passing) → p ≡ None → passing_begins x acknowledged more passed p l.era.account (account_next x acknowledged made l.era.side l.era.account (granted p pick)) (granted p pick).begin ≡ None
      go None k = none_begins None l.era.account (account_next x acknowledged made l.era.side l.era.account pick) pick.begin refl h
      go (Some p) k = absurd (cc)

  passes_none : (p : Option Passing) (ns : List (News Body)) → p ≡ None → passes x acknowledged more passed p ns ≡ None
  passes_none None ns e = refl
  passes_none (Some p) ns e = absurd (cc)

  opening_none : (frame : ℕ) (l : Life Body Q Reply) (o : Opening) (done : Bool) (found : Option Found) → l.era.passing ≡ None → (opening_back frame l o done found).era.passing ≡ None
  opening_none frame l o done found e = go (shows_clear o) (done && is_shown 1 found) (o.step == last_step o) (done && is_shown o.state found)
    where
      go : (a b c d : Bool) → (if a then (if b then clears frame l o else l) else if c then (if d then opens frame l else l) else steps_on l o).era.passing ≡ None
      go true true c d = refl
      go true false c d = e
      go false b true true = e
      go false b true false = e
      go false b false d = e

  reopens_none : (l : Life Body Q Reply) (hand : Option Duty) → l.era.passing ≡ None → (reopens l hand).era.passing ≡ None
  reopens_none l None e = e
  reopens_none l (Some duty) e = go duty.stage
    where
      by : (b : Bool) → (if b then record l { stand = reopening (opens_state duty.target) true } else l).era.passing ≡ None
      by true = e
      by false = e

      go : (s : Stage) → (reopens_at l duty.target s).era.passing ≡ None
      go Stage.Drains = e
      go (Stage.Goes phase) = by (returns_to_init duty.target)

  back_none : (frame : ℕ) (spot : Spot) (ns : List (News Body)) (back : List (Datagram Body)) (came : Option (Bool × Option Found)) (l : Life Body Q Reply) (stand : Lives.Stand) → l.era.passing ≡ None → (life_back x acknowledged more passed frame spot ns back came l stand).era.passing ≡ None
  back_none frame spot ns back None l (Lives.Stand.Opens o) e = e
  back_none frame spot ns back (Some came) l (Lives.Stand.Opens o) e = opening_none frame l o came.0 came.1 e
  back_none frame spot ns back came l Lives.Stand.Open e =
      let era = era_back x acknowledged more passed spot.station frame ns back l.era in
      reopens_none (record l { era = era }) era.account.hand (passes_none l.era.passing ns e)
  back_none frame spot ns back came l Lives.Stand.Gone e = e

  lost_none : (spot : Spot) (ns : List (News Body)) (sent : List (Datagram Body)) (l : Life Body Q Reply) (stand : Lives.Stand) → l.era.passing ≡ None → (life_lost x acknowledged more passed spot ns sent l stand).era.passing ≡ None
  lost_none spot ns sent l (Lives.Stand.Opens o) e = e
  lost_none spot ns sent l Lives.Stand.Open e = passes_none l.era.passing ns e
  lost_none spot ns sent l Lives.Stand.Gone e = e

  given_none : (gives : Bool) (recover : ℕ) (spot : Spot) (frame : ℕ) (l : Life Body Q Reply) → l.era.passing ≡ None → (given_where gives recover spot frame l).era.passing ≡ None
  given_none false recover spot frame l e = e
  given_none true recover spot frame l e = e

  -- behind one that came back
  pub unpassed_back : (frame : ℕ) (back : List (Datagram Body)) (a : Lived Q Reply) (share : Share) (ns : List (News Body)) → a.life.era.passing ≡ None → (lived_back x acknowledged more passed frame back a share ns).life.era.passing ≡ None
  unpassed_back frame back a share ns e = back_none frame a.spot ns back (came_at share.under share.at back) a.life a.life.stand e

  -- and behind a lost one
  pub unpassed_lost : (gives : Bool) (recover frame : ℕ) (sent : List (Datagram Body)) (a : Lived Q Reply) (share : Share) (ns : List (News Body)) → a.life.era.passing ≡ None → (lived_lost x acknowledged more passed gives recover frame sent a share ns).life.era.passing ≡ None
  unpassed_lost gives recover frame sent a share ns e = given_none (gives && share.under) recover a.spot frame (life_lost x acknowledged more passed a.spot ns sent a.life a.life.stand) (lost_none a.spot ns sent a.life a.life.stand e)
