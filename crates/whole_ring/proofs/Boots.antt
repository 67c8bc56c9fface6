-- A STATE SERVICE in hand asks for Bootstrap only where the slave has it: so it stays by choices, frames and openings.
use Rattle.std.proofs.Common.{◌≡◌, ℕ, ◌==◌, Bool, true, false, List, [], ◌∷◌, refl, sym, subst}
use Rattle.std.specs.Prelude.{Option, Some, None, if◌then◌else◌, not, ◌&&◌}
use Rattle.slave_lives.specs.of_exchange_model.Exchange.{Speech}
use Rattle.slave_lives.specs.of_link_model.Segment.{RingFate}
use Rattle.slave_lives.specs.of_segment_model.Ends.{Passing}
use Rattle.slave_lives.specs.of_segment_model.Record.{News, is_for}
use Rattle.slave_lives.specs.of_segment_model.Seats.{Side}
use Rattle.slave_lives.specs.of_segment_model.Slaves.{Datagram, Found}
use Rattle.slave_lives.specs.of_state_model.Stated.{Service}
use Rattle.slave_lives.specs.of_state_model.Accounts.{Pick, Duty, Account, Stage, Progress, starts, is_free, is_acknowledged, state_begins, account_begins, account_met, account_by, account_back, access_done}
use Rattle.slave_lives.specs.of_life_model.Lives.{Spot, Life, Era, Opening, Stand, granted, era_next, era_back, era_after, returns_to_init, reopens, reopens_at, reopening, opens_state, life_next, life_back, life_lost, opening_back, clears, opens, steps_on, shows_clear, last_step, is_shown}
use Rattle.slave_lives.specs.of_life_model.Own.{own}
use Rattle.whole_ring.specs.Members.{HandBoots}
use Rattle.whole_ring.specs.Turning.{BeginBoots}

module _ {Q R : Type 0} (boot : Bool) where
  by : (frame : ℕ) (a : Account Q R) (duty : Duty) (p : Progress R) → HandBoots boot (Some duty) → HandBoots boot (account_by frame a duty p).hand
  by frame a duty (Progress.On stage) is = is
  by frame a duty (Progress.Over answer) is = tt

granted_begins : {Q : Type 0} (boot : Bool) (passing : Option Passing) (pick : Pick Q) → BeginBoots boot pick.begin → BeginBoots boot (granted passing pick).begin
granted_begins boot None pick wish = wish
granted_begins boot (Some p) pick wish = tt

pub hand_of : (boot : Bool) (hand : Option Duty) → HandBoots boot hand → (duty : Duty) → hand ≡ Some duty → duty.target ≡ 3 → boot ≡ true
hand_of boot hand is duty e = subst (λ (h : Option Duty). HandBoots boot h) e is

module _ {M Q R : Type 0} (boot : Bool) where
  hand_begins : (x : Speech M Q R) (acknowledged : Q → Bool) (frame : ℕ) (d : Side M Q R) (a : Account Q R) (hand : Option Duty) (wish : Option (Service Q)) → HandBoots boot a.hand → BeginBoots boot wish →
      HandBoots boot (account_begins x acknowledged frame d a hand wish).hand
  hand_begins x acknowledged frame d a None None is wish = is
  hand_begins x acknowledged frame d a (Some duty) None is wish = is
  hand_begins x acknowledged frame d a (Some duty) (Some w) is wish = is
  hand_begins x acknowledged frame d a None (Some (Service.Mails q)) is wish = go (x.valid q && is_free x d d.now)
    where
      go : (b : Bool) → HandBoots boot (if b then record a { started = starts a (Service.Mails q) frame } else a).hand
      go true = is
      go false = is
  hand_begins x acknowledged frame d a None (Some (Service.State target)) is wish = go (is_free x d d.now && is_acknowledged x acknowledged d d.now)
    where
      go : (b : Bool) → HandBoots boot (if b then state_begins a target frame else a).hand
      go true = wish
      go false = is

  met : (station frame : ℕ) (a : Account Q R) (hand : Option Duty) (d : Datagram M) → HandBoots boot a.hand → HandBoots boot hand → HandBoots boot (account_met station frame a hand d).hand
  met station frame a None d is hand = is
  met station frame a (Some duty) d is hand = go (is_for station d.address && not (d.counter == 0))
    where
      go : (b : Bool) → HandBoots boot (if b then account_by frame a duty (access_done duty.target duty.stage d.access d.found) else a).hand
      go true = by boot frame a duty (access_done duty.target duty.stage d.access d.found) hand
      go false = is

  hand_back : (station frame : ℕ) (ds : List (Datagram M)) (a : Account Q R) → HandBoots boot a.hand → HandBoots boot (account_back station frame a ds).hand
  hand_back station frame [] a is = is
  hand_back station frame (d ∷ ds) a is = hand_back station frame ds (account_met station frame a a.hand d) (met station frame a a.hand d is is)

  -- the epoch stays where a reopening begins
  reopens_era : (l : Life M Q R) (hand : Option Duty) → (reopens l hand).era ≡ l.era
  reopens_era l None = refl
  reopens_era l (Some duty) = at_stage duty.stage
    where
      go : (b : Bool) → (if b then record l { stand = reopening (opens_state duty.target) true } else l).era ≡ l.era
      go true = refl
      go false = refl

      at_stage : (stage : Stage) → (reopens_at l duty.target stage).era ≡ l.era
      at_stage Stage.Drains = refl
      at_stage (Stage.Goes phase) = go (returns_to_init duty.target)

  opening_boots : (frame : ℕ) (l : Life M Q R) (o : Opening) (done : Bool) (found : Option Found) → HandBoots boot l.era.account.hand → HandBoots boot (opening_back frame l o done found).era.account.hand
  opening_boots frame l o done found is = go (shows_clear o) (o.step == last_step o) (done && is_shown 1 found) (done && is_shown o.state found)
    where
      go : (a b c d : Bool) → HandBoots boot (if a then (if c then clears frame l o else l) else if b then (if d then opens frame l else l) else steps_on l o).era.account.hand
      go true b true d = tt
      go true b false d = is
      go false true c true = is
      go false true c false = is
      go false false c d = is

  module _ (x : Speech M Q R) (acknowledged : Q → Bool) (more : M → Bool) (passed : Q → Bool) (frame : ℕ) (spot : Spot) (news : List (News M)) (pick : Pick Q) (wish : BeginBoots boot pick.begin) where
    -- BEHIND A FRAME
    pub back_boots : (back : List (Datagram M)) (came : Option (Bool × Option Found)) (l : Life M Q R) (stand : Stand) → HandBoots boot l.era.account.hand →
        HandBoots boot (life_back x acknowledged more passed frame spot news back came (life_next x acknowledged more passed frame l stand pick) stand).era.account.hand
    back_boots back None l (Stand.Opens o) is = is
    back_boots back (Some came) l (Stand.Opens o) is = opening_boots frame l o came.0 came.1 is
    back_boots back came l Stand.Open is =
        let e = era_back x acknowledged more passed spot.station frame news back (era_next x acknowledged more passed frame l.era pick) in
        subst (λ (k : Era M Q R). HandBoots boot k.account.hand) (sym (reopens_era (record l { era = e }) e.account.hand))
        (hand_back spot.station frame (own spot.station back) (era_next x acknowledged more passed frame l.era pick).account
        (hand_begins x acknowledged frame l.era.side l.era.account l.era.account.hand (granted l.era.passing pick).begin is (granted_begins boot l.era.passing pick wish)))
    back_boots back came l Stand.Gone is = is

    pub lost_boots : (sent : List (Datagram M)) (l : Life M Q R) (stand : Stand) → HandBoots boot l.era.account.hand →
        HandBoots boot (life_lost x acknowledged more passed spot news sent (life_next x acknowledged more passed frame l stand pick) stand).era.account.hand
    lost_boots sent l (Stand.Opens o) is = is
    lost_boots sent l Stand.Open is = hand_begins x acknowledged frame l.era.side l.era.account l.era.account.hand (granted l.era.passing pick).begin is (granted_begins boot l.era.passing pick wish)
    lost_boots sent l Stand.Gone is = is

    -- and of an open slave's epoch
    pub era_boots : (fate : RingFate) (sent back : List (Datagram M)) (e : Era M Q R) → HandBoots boot e.account.hand →
        HandBoots boot (era_after x acknowledged more passed spot.station frame news sent fate back (era_next x acknowledged more passed frame e pick)).account.hand
    era_boots RingFate.Back sent back e is =
        hand_back spot.station frame (own spot.station back) (era_next x acknowledged more passed frame e pick).account
        (hand_begins x acknowledged frame e.side e.account e.account.hand (granted e.passing pick).begin is (granted_begins boot e.passing pick wish))
    era_boots (RingFate.Lost after) sent back e is = hand_begins x acknowledged frame e.side e.account e.account.hand (granted e.passing pick).begin is (granted_begins boot e.passing pick wish)
