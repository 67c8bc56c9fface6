-- Each reopening that a state service began is of a service that came into hand.
use Rattle.std.proofs.Common.{◌≡◌, ℕ, ◌+◌, ◌≤◌, ◌==◌, ◌&&◌, not, Bool, true, false, Option, Some, None, List, [], ◌∷◌, ◌++◌, refl, sym, ap, subst, arith, if◌then◌else◌}
use Rattle.std.specs.Prelude.{⊤}
use Rattle.life_runs.specs.of_exchange_model.Exchange.{Speech}
use Rattle.life_runs.specs.of_segment_model.Record.{News, is_for}
use Rattle.life_runs.specs.of_segment_model.Seats.{Side}
use Rattle.life_runs.specs.of_segment_model.Slaves.{Datagram, Found}
use Rattle.life_runs.specs.of_state_model.Stated.{Service}
use Rattle.life_runs.specs.of_state_model.Accounts.{Account, Duty, Stage, Pick, Started, Progress, account_begins, state_begins, starts, is_free, is_acknowledged, account_back, account_met, account_by, access_done}
use Rattle.life_runs.specs.of_life_model.Lives.{Era, Life, Stand, Spot, Opening, granted, new_life, life_next, life_back, life_lost, opening_back, shows_clear, last_step, is_shown, clears, opens, steps_on, era_back, reopens}
use Rattle.life_runs.specs.of_life_model.Own.{own}
use Rattle.run_frames.specs.Begins.{AllNew}
use Rattle.run_frames.specs.Clocks.{Clocked, goes_to_init, duty_reopens, eras_reopened, reopened, reopened_all}
use Rattle.run_frames.specs.Goes.{Under, IsUnder, AllUnder, given_if, all_lost, all_back}
use Rattle.run_frames.specs.Runs as Runs
use Rattle.run_frames.specs.Runs.{IsRun}
use Rattle.run_frames.specs.States.{state_of, states_in, states_of, states_begun, states_all}
use Rattle.run_frames.proofs.Back.{same_era}
use Rattle.life_runs.specs.of_life_model.Lives as Lives

-- one in hand
abbrev in_hand : Option Duty → ℕ
in_hand None = 0
in_hand (Some duty) = 1

reopens_few : (hand : Option Duty) → duty_reopens hand ≤ in_hand hand
reopens_few None = omega arith
reopens_few (Some duty) = at duty.stage
  where
    at : (stage : Stage) → goes_to_init duty.target stage ≤ 1
    at Stage.Drains = omega arith
    at (Stage.Goes phase) = by (Lives.returns_to_init duty.target)
      where
        by : (b : Bool) → (if b then 1 else 0) ≤ 1
        by true = omega arith
        by false = omega arith

-- IT CAME INTO HAND
pub record Came {Q R : Type 0} (a : Account Q R) : Type 0 where
  pub came : in_hand a.hand ≤ states_in a.started

abbrev pub AllCame : {M Q R : Type 0} → List (Era M Q R) → Type 0
AllCame [] = ⊤
AllCame (e ∷ es) = Came e.account × AllCame es

abbrev pub LifeCame : {M Q R : Type 0} → Life M Q R → Type 0
LifeCame l = AllCame l.past × Came l.era.account

-- before the first frame
pub new_came : (M Q R : Type 0) (start : ℕ) → (let l : Life M Q R = new_life start in LifeCame l)
new_came M Q R start = (tt, record { came = omega arith })

more_came : {M Q R : Type 0} (es : List (Era M Q R)) (e : Era M Q R) → AllCame es → Came e.account → AllCame (es ++ e ∷ [])
more_came [] e a c = (c, tt)
more_came (d ∷ es) e a c = (a.0, more_came es e a.1 c)

eras_few : {M Q R : Type 0} (es : List (Era M Q R)) → AllCame es → eras_reopened es ≤ states_of es
eras_few [] a = omega arith
eras_few (e ∷ es) a = omega (arith, reopens_few e.account.hand, a.0.came, eras_few es a.1)

pub life_few : {M Q R : Type 0} (l : Life M Q R) → LifeCame l → reopened l ≤ states_begun l
life_few l c = omega (arith, eras_few l.past c.0, reopens_few l.era.account.hand, c.1.came)

-- one more service
states_more : {Q : Type 0} (ss : List (Started Q)) (s : Started Q) → states_in (ss ++ s ∷ []) ≡ states_in ss + state_of s.service
states_more [] s = omega arith
states_more (t ∷ ss) s = omega (arith, states_more ss s)

begins_came : {M Q R : Type 0} (x : Speech M Q R) (acknowledged : Q → Bool) (frame : ℕ) (d : Side M Q R) (a : Account Q R) (hand : Option Duty) (begin : Option (Service Q)) → Came a → Came (account_begins x acknowledged frame d a hand begin)
begins_came x acknowledged frame d a hand None c = c
begins_came x acknowledged frame d a (Some duty) (Some wish) c = c
begins_came {M} {Q} {R} x acknowledged frame d a None (Some (Service.Mails q)) c = go (x.valid q && is_free x d d.now)
  where
    more : in_hand a.hand ≤ states_in (starts a (Service.Mails q) frame)
    more = omega (arith, c.came, states_more a.started (record { service = Service.Mails q; frame = frame }))

    go : (b : Bool) → (let e : Account Q R = if b then record a { started = starts a (Service.Mails q) frame } else a in Came e)
    go true = record { came = more }
    go false = c
begins_came {M} {Q} {R} x acknowledged frame d a None (Some (Service.State target)) c = go (is_free x d d.now && is_acknowledged x acknowledged d d.now)
  where
    more : 1 ≤ states_in (starts a (Service.State target) frame)
    more = omega (arith, states_more a.started (record { service = Service.State target; frame = frame }))

    go : (b : Bool) → (let e : Account Q R = if b then state_begins a target frame else a in Came e)
    go true = record { came = more }
    go false = c

pub next_came : {M Q R : Type 0} (x : Speech M Q R) (acknowledged : Q → Bool) (more : M → Bool) (passed : Q → Bool) (frame : ℕ) (l : Life M Q R) (stand : Stand) (pick : Pick Q) → LifeCame l → LifeCame (life_next x acknowledged more passed frame l stand pick)
next_came x acknowledged more passed frame l (Stand.Opens o) pick c = c
next_came x acknowledged more passed frame l Stand.Gone pick c = c
next_came x acknowledged more passed frame l Stand.Open pick c = (c.0, begins_came x acknowledged frame l.era.side l.era.account l.era.account.hand (granted l.era.passing pick).begin c.1)

pub lost_came : {M Q R : Type 0} (x : Speech M Q R) (acknowledged : Q → Bool) (more : M → Bool) (passed : Q → Bool) (spot : Spot) (news : List (News M)) (sent : List (Datagram M)) (l : Life M Q R) (stand : Stand) → LifeCame l → LifeCame (life_lost x acknowledged more passed spot news sent l stand)
lost_came x acknowledged more passed spot news sent l (Stand.Opens o) c = c
lost_came x acknowledged more passed spot news sent l Stand.Open c = c
lost_came x acknowledged more passed spot news sent l Stand.Gone c = c

-- by what came back
met_came : {M Q R : Type 0} (station frame : ℕ) (a : Account Q R) (hand : Option Duty) (d : Datagram M) → a.hand ≡ hand → Came a → Came (account_met station frame a hand d)
met_came station frame a None d e c = c
met_came {M} {Q} {R} station frame a (Some duty) d e c = go (is_for station d.address && not (d.counter == 0)) (access_done duty.target duty.stage d.access d.found)
  where
    by : (p : Progress R) → Came (account_by frame a duty p)
    by (Progress.On stage) = record { came = omega (arith, ap in_hand e, c.came) }
    by (Progress.Over answer) = record { came = omega arith }

    go : (b : Bool) (p : Progress R) → (let m : Account Q R = if b then account_by frame a duty p else a in Came m)
    go true p = by p
    go false p = c

back_came : {M Q R : Type 0} (station frame : ℕ) (a : Account Q R) (ds : List (Datagram M)) → Came a → Came (account_back station frame a ds)
back_came station frame a [] c = c
back_came station frame a (d ∷ ds) c = back_came station frame (account_met station frame a a.hand d) ds (met_came station frame a a.hand d refl c)

opening_came : {M Q R : Type 0} (frame : ℕ) (l : Life M Q R) (o : Opening) (done : Bool) (found : Option Found) → LifeCame l → LifeCame (opening_back frame l o done found)
opening_came {M} {Q} {R} frame l o done found c = go (shows_clear o) (done && is_shown 1 found) (o.step == last_step o) (done && is_shown o.state found)
  where
    go : (p b q d : Bool) → (let m : Life M Q R = if p then (if b then clears frame l o else l) else if q then (if d then opens frame l else l) else steps_on l o in LifeCame m)
    go true true q d = (more_came l.past l.era c.0 c.1, record { came = omega arith })
    go true false q d = c
    go false b true true = c
    go false b true false = c
    go false b false d = c

same_past : {M Q R : Type 0} (l : Life M Q R) (hand : Option Duty) → (reopens l hand).past ≡ l.past
same_past l None = refl
same_past {M} {Q} {R} l (Some duty) = at duty.target duty.stage
  where
    at : (target : ℕ) (stage : Stage) → (Lives.reopens_at l target stage).past ≡ l.past
    at target Stage.Drains = refl
    at target (Stage.Goes phase) = by (Lives.returns_to_init target)
      where
        by : (b : Bool) → (if b then record l { stand = Lives.reopening (Lives.opens_state target) true } else l).past ≡ l.past
        by true = refl
        by false = refl

pub life_back_came : {M Q R : Type 0} (x : Speech M Q R) (acknowledged : Q → Bool) (more : M → Bool) (passed : Q → Bool) (frame : ℕ) (spot : Spot) (news : List (News M)) (back : List (Datagram M)) (came : Option (Bool × Option Found)) (l : Life M Q R) (stand : Stand) → LifeCame l →
    LifeCame (life_back x acknowledged more passed frame spot news back came l stand)
life_back_came x acknowledged more passed frame spot news back None l (Stand.Opens o) c = c
life_back_came x acknowledged more passed frame spot news back (Some came) l (Stand.Opens o) c = opening_came frame l o came.0 came.1 c
life_back_came x acknowledged more passed frame spot news back came l Stand.Gone c = c
life_back_came x acknowledged more passed frame spot news back came l Stand.Open c =
    let e = era_back x acknowledged more passed spot.station frame news back l.era in
    let m = record l { era = e } in
    (subst AllCame (sym (same_past m e.account.hand)) c.0, subst (λ z. Came z.account) (sym (same_era m e.account.hand)) (back_came spot.station frame l.era.account (own spot.station back) c.1))

-- ---- of all slaves
abbrev EachCame : {M Q R : Type 0} → List (Clocked M Q R) → Type 0
EachCame [] = ⊤
EachCame (c ∷ cs) = LifeCame c.life × EachCame cs

all_new : {M Q R : Type 0} (cs : List (Clocked M Q R)) → AllNew cs → EachCame cs
all_new [] n = tt
all_new {M} {Q} {R} (c ∷ cs) n = (subst LifeCame (sym n.0) (new_came M Q R c.spot.start), all_new cs n.1)

all_few : {M Q R : Type 0} (cs : List (Clocked M Q R)) → EachCame cs → reopened_all cs ≤ states_all cs
all_few [] e = omega arith
all_few (c ∷ cs) e = omega (arith, life_few c.life e.0, all_few cs e.1)

module _ {M Q R : Type 0} (x : Spot → Speech M Q R) (acknowledged : Q → Bool) (more : M → Bool) (passed : Q → Bool) where
  before : (number : ℕ) (sent : List (Datagram M)) (a : Clocked M Q R) (u : Under M Q R) → IsUnder x acknowledged more passed number sent a u → LifeCame a.life → LifeCame u.life
  before number sent a u t c = subst LifeCame (sym t.life) (next_came (x a.spot) acknowledged more passed number a.life a.life.stand t.pick c)

  each_lost : (gives : Bool) (recover number : ℕ) (sent : List (Datagram M)) (as' : List (Clocked M Q R)) (us : List (Under M Q R)) → AllUnder x acknowledged more passed number sent as' us → EachCame as' → EachCame (all_lost x acknowledged more passed gives recover number sent as' us)
  each_lost gives recover number sent [] [] t e = tt
  each_lost gives recover number sent [] (u ∷ us) t e = absurd t
  each_lost gives recover number sent (a ∷ as') [] t e = absurd t
  each_lost gives recover number sent (a ∷ as') (u ∷ us) t e =
      (up (gives && u.under) (lost_came (x a.spot) acknowledged more passed a.spot u.news sent u.life u.life.stand (before number sent a u t.0 e.0)), each_lost gives recover number sent as' us t.1 e.1)
    where
      up : (b : Bool) → LifeCame (life_lost (x a.spot) acknowledged more passed a.spot u.news sent u.life u.life.stand) → LifeCame (given_if b recover a.spot number (life_lost (x a.spot) acknowledged more passed a.spot u.news sent u.life u.life.stand))
      up true c = c
      up false c = c

  each_back : (number : ℕ) (sent back : List (Datagram M)) (as' : List (Clocked M Q R)) (us : List (Under M Q R)) → AllUnder x acknowledged more passed number sent as' us → EachCame as' → EachCame (all_back x acknowledged more passed number back as' us)
  each_back number sent back [] [] t e = tt
  each_back number sent back [] (u ∷ us) t e = absurd t
  each_back number sent back (a ∷ as') [] t e = absurd t
  each_back number sent back (a ∷ as') (u ∷ us) t e =
      (life_back_came (x a.spot) acknowledged more passed number a.spot u.news back u.came u.life u.life.stand (before number sent a u t.0 e.0), each_back number sent back as' us t.1 e.1)

  run_came : (recover slowest : ℕ) (first : List (Clocked M Q R)) (p : Runs.Progress) (cs : List (Clocked M Q R)) → IsRun x acknowledged more passed recover slowest first p cs → EachCame cs
  run_came recover slowest first p cs (IsRun.start last n k) = all_new first n
  run_came recover slowest first q cs (IsRun.lost p as' us gives sent next r t one) = each_lost gives recover p.frames sent as' us t (run_came recover slowest first p as' r)
  run_came recover slowest first q cs (IsRun.opening p as' us sent back next r t b under one) = each_back p.frames sent back as' us t (run_came recover slowest first p as' r)
  run_came recover slowest first q cs (IsRun.round p as' us sent back ps r t b over round some) = each_back p.frames sent back as' us t (run_came recover slowest first p as' r)
  run_came recover slowest first q cs (IsRun.enters p as' us sent back ps r t b over round nothing) = each_back p.frames sent back as' us t (run_came recover slowest first p as' r)

  -- OVER A RUN
  pub few_reopened : (recover slowest : ℕ) (first : List (Clocked M Q R)) (p : Runs.Progress) (cs : List (Clocked M Q R)) → IsRun x acknowledged more passed recover slowest first p cs → reopened_all cs ≤ states_all cs
  few_reopened recover slowest first p cs r = all_few cs (run_came recover slowest first p cs r)
