-- An epoch that was never opened gained nothing.
use Rattle.std.proofs.Common.{◌≡◌, ℕ, ◌==◌, Bool, true, false, Option, Some, None, List, [], ◌∷◌, ◌++◌, refl, sym, ◌∙◌, if◌then◌else◌}
use Rattle.std.specs.Prelude.{◌&&◌, nat_lt, length}
use Rattle.master_hand.specs.of_exchange_model.Exchange.{Speech}
use Rattle.master_hand.specs.of_segment_model.Slaves.{Datagram, Found}
use Rattle.master_hand.specs.of_segment_model.Record.{News}
use Rattle.master_hand.specs.of_state_model.Accounts.{Stage, Duty, Pick}
use Rattle.few_replies.specs.of_life_model.Lives.{Era, Life, Stand, Spot, Opening, life_next, life_back, life_lost, gives_up, era_back, opening_back, clears, opens, steps_on, shows_clear, last_step, is_shown, reopens, reopens_at, reopening, opens_state, returns_to_init, new_life}
use Rattle.life_counts.specs.Begun.{IsUnopened, AllUnopened, AreUnopened}

all_more : {M Q R : Type 0} (es : List (Era M Q R)) (e : Era M Q R) → AllUnopened es → IsUnopened e → AllUnopened (es ++ e ∷ [])
all_more [] e all one = (one, tt)
all_more (f ∷ es) e all one = (all.0, all_more es e all.1 one)

pub new_unopened : {M Q R : Type 0} (state : ℕ) → AreUnopened (new_life {M = M} {Q = Q} {R = R} state)
new_unopened state = record { past = tt; now = λ e. refl; open_now = λ e. absurd (cc) }

-- a life whose newest epoch was opened, and is yet
opened_still : {M Q R : Type 0} (l m : Life M Q R) → AreUnopened l → l.stand ≡ Stand.Open → m.past ≡ l.past → m.era.opened ≡ l.era.opened → AreUnopened m
opened_still l m u stand past opened =
    let some = u.open_now stand in
    record { past = subst_past past u.past; now = λ e. absurd (some (sym opened ∙ e)); open_now = λ e f. some (sym opened ∙ f) }
  where
    subst_past : m.past ≡ l.past → AllUnopened l.past → AllUnopened m.past
    subst_past e all = rw e all

pub next_unopened : {M Q R : Type 0} (x : Speech M Q R) (acknowledged : Q → Bool) (more : M → Bool) (passed : Q → Bool) (frame : ℕ) (l : Life M Q R) (stand : Stand) (pick : Pick Q) → l.stand ≡ stand → AreUnopened l →
    AreUnopened (life_next x acknowledged more passed frame l stand pick)
next_unopened x acknowledged more passed frame l (Stand.Opens o) pick e u = u
next_unopened x acknowledged more passed frame l Stand.Open pick e u = opened_still l (life_next x acknowledged more passed frame l Stand.Open pick) u e refl refl
next_unopened x acknowledged more passed frame l Stand.Gone pick e u = u

-- an opening behind an access
opening_unopened : {M Q R : Type 0} (frame : ℕ) (l : Life M Q R) (o : Opening) (done : Bool) (found : Option Found) → AreUnopened l → AreUnopened (opening_back frame l o done found)
opening_unopened frame l o done found u = by (shows_clear o) (done && is_shown 1 found) (o.step == last_step o) (done && is_shown o.state found)
  where
    by : (a b c d : Bool) → AreUnopened (if a then (if b then clears frame l o else l) else if c then (if d then opens frame l else l) else steps_on l o)
    by true true c d = record { past = all_more l.past l.era u.past u.now; now = λ e. refl; open_now = λ e. absurd (cc) }
    by true false c d = u
    by false b true true = record { past = u.past; now = λ e. absurd (cc); open_now = λ e f. absurd (cc) }
    by false b true false = u
    by false b false d = record { past = u.past; now = u.now; open_now = λ e. absurd (cc) }

reopens_unopened : {M Q R : Type 0} (l : Life M Q R) (hand : Option Duty) → AreUnopened l → AreUnopened (reopens l hand)
reopens_unopened l None u = u
reopens_unopened l (Some duty) u = at_stage duty.stage
  where
    at_stage : (stage : Stage) → AreUnopened (reopens_at l duty.target stage)
    at_stage Stage.Drains = u
    at_stage (Stage.Goes phase) = by (returns_to_init duty.target)
      where
        by : (b : Bool) → AreUnopened (if b then record l { stand = reopening (opens_state duty.target) true } else l)
        by true = record { past = u.past; now = u.now; open_now = λ e. absurd (cc) }
        by false = u

pub back_unopened : {M Q R : Type 0} (x : Speech M Q R) (acknowledged : Q → Bool) (more : M → Bool) (passed : Q → Bool) (frame : ℕ) (spot : Spot) (news : List (News M)) (back : List (Datagram M)) (came : Option (Bool × Option Found)) (l : Life M Q R) (stand : Stand) →
    l.stand ≡ stand → AreUnopened l → AreUnopened (life_back x acknowledged more passed frame spot news back came l stand)
back_unopened x acknowledged more passed frame spot news back None l (Stand.Opens o) e u = u
back_unopened x acknowledged more passed frame spot news back (Some came) l (Stand.Opens o) e u = opening_unopened frame l o came.0 came.1 u
back_unopened x acknowledged more passed frame spot news back came l Stand.Open e u =
    let era = era_back x acknowledged more passed spot.station frame news back l.era in
    reopens_unopened (record l { era = era }) era.account.hand (opened_still l (record l { era = era }) u e refl refl)
back_unopened x acknowledged more passed frame spot news back came l Stand.Gone e u = u

pub lost_unopened : {M Q R : Type 0} (x : Speech M Q R) (acknowledged : Q → Bool) (more : M → Bool) (passed : Q → Bool) (spot : Spot) (news : List (News M)) (sent : List (Datagram M)) (l : Life M Q R) (stand : Stand) →
    l.stand ≡ stand → AreUnopened l → AreUnopened (life_lost x acknowledged more passed spot news sent l stand)
lost_unopened x acknowledged more passed spot news sent l (Stand.Opens o) e u = u
lost_unopened x acknowledged more passed spot news sent l Stand.Open e u = opened_still l (life_lost x acknowledged more passed spot news sent l Stand.Open) u e refl refl
lost_unopened x acknowledged more passed spot news sent l Stand.Gone e u = u

pub gives_unopened : {M Q R : Type 0} (recover frame : ℕ) (spot : Spot) (l : Life M Q R) → AreUnopened l → AreUnopened (gives_up recover spot frame l)
gives_unopened recover frame spot l u = record { past = u.past; now = u.now; open_now = λ e. absurd (never (nat_lt (length l.gave) recover) e) }
  where
    never : (b : Bool) → (if b then reopening spot.start false else Stand.Gone) ≡ Stand.Open → ⊥
    never true e = cc
    never false e = cc
