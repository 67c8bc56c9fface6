-- The steps of the mails that are passed on.
use Rattle.std.proofs.Common.{◌≡◌, ℕ, suc, ◌+◌, ◌-◌, ◌*◌, ◌≤◌, ◌<◌, ◌==◌, ◌&&◌, not, nat_lt, Bool, true, false, Option, Some, None, List, [], ◌∷◌, ◌++◌, length, refl, ap, ◌∙◌, arith, lt-ltb, le-ltb, length-append, if◌then◌else◌}
use Rattle.slave_parts.specs.of_exchange_model.Exchange.{Speech}
use Rattle.slave_parts.specs.of_segment_model.Ends.{Passing, passing_after}
use Rattle.slave_parts.specs.of_segment_model.Slaves.{Datagram, Found}
use Rattle.slave_parts.specs.of_segment_model.Record.{News, is_for}
use Rattle.slave_parts.specs.of_segment_model.Seats.{Side}
use Rattle.slave_parts.specs.of_state_model.Stated.{Service}
use Rattle.slave_parts.specs.of_state_model.Accounts.{Stage, Duty, Started, Account, Pick, Progress, access_done, account_by, account_met, account_back, account_next, account_begins, starts, state_begins, is_free, is_acknowledged}
use Rattle.slave_parts.specs.of_life_model.Own.{own}
use Rattle.slave_parts.specs.of_life_model.Lives.{Era, Life, Stand, Spot, Opening, life_next, life_back, life_lost, era_back, opening_back, clears, opens, steps_on, shows_clear, last_step, is_shown, reopens, reopens_at, reopening, opens_state, returns_to_init, passes, passing_begins, granted}
use Rattle.few_replies.specs.Steps.{steps_left, passed_one, passed_in, era_steps, eras_steps, life_steps, eras_passed, life_passed, IsUnderWay}

-- a mail that was heard
heard_none : (p : Passing) (emits more : Bool) → steps_left (if emits then Some p else if more then Some Passing.Answered else None) ≤ steps_left (Some p)
heard_none p true more = omega arith
heard_none p false true = omega arith
heard_none p false false = omega arith

heard_served : (emits more : Bool) → steps_left (if emits then None else if more then Some Passing.Answered else None) ≤ 1
heard_served true more = omega arith
heard_served false true = omega arith
heard_served false false = omega arith

module _ {M : Type 0} (emission more : M → Bool) where
  pub no_further : (p : Passing) (n : News M) → steps_left (passing_after emission more p n) ≤ steps_left (Some p)
  no_further Passing.Waiting (News.Told m) = omega arith
  no_further Passing.Waiting News.Written = omega arith
  no_further Passing.Waiting (News.Heard m) = heard_none Passing.Waiting (emission m) (more m)
  no_further Passing.Waiting News.NothingRead = omega arith
  no_further Passing.Waiting (News.BoxFull full) = omega arith
  no_further Passing.Waiting (News.Status state refused) = omega arith
  no_further Passing.Sent (News.Told m) = omega arith
  no_further Passing.Sent News.Written = omega arith
  no_further Passing.Sent (News.Heard m) = heard_none Passing.Sent (emission m) (more m)
  no_further Passing.Sent News.NothingRead = omega arith
  no_further Passing.Sent (News.BoxFull full) = omega arith
  no_further Passing.Sent (News.Status state refused) = omega arith
  no_further Passing.Boxed (News.Told m) = omega arith
  no_further Passing.Boxed News.Written = omega arith
  no_further Passing.Boxed (News.Heard m) = heard_none Passing.Boxed (emission m) (more m)
  no_further Passing.Boxed News.NothingRead = omega arith
  no_further Passing.Boxed (News.BoxFull true) = omega arith
  no_further Passing.Boxed (News.BoxFull false) = omega arith
  no_further Passing.Boxed (News.Status state refused) = omega arith
  no_further Passing.Served (News.Told m) = omega arith
  no_further Passing.Served News.Written = omega arith
  no_further Passing.Served (News.Heard m) = heard_served (emission m) (more m)
  no_further Passing.Served News.NothingRead = omega arith
  no_further Passing.Served (News.BoxFull full) = omega arith
  no_further Passing.Served (News.Status state refused) = omega arith
  no_further Passing.Answered (News.Told m) = omega arith
  no_further Passing.Answered News.Written = omega arith
  no_further Passing.Answered (News.Heard m) = heard_none Passing.Answered (emission m) (more m)
  no_further Passing.Answered News.NothingRead = omega arith
  no_further Passing.Answered (News.BoxFull full) = omega arith
  no_further Passing.Answered (News.Status state refused) = omega arith

-- one more service
passed_last : {Q : Type 0} (passed : Q → Bool) (ss : List (Started Q)) (s : Started Q) → passed_in passed (ss ++ s ∷ []) ≡ passed_in passed ss + passed_one passed s.service
passed_last passed [] s = omega arith
passed_last passed (t ∷ ss) s = omega (arith, passed_last passed ss s)

same_by : (is grows : Bool) → grows ≡ false → steps_left (if is && grows then Some Passing.Waiting else None) ≡ 0
same_by true true e = absurd (cc)
same_by true false e = refl
same_by false grows e = refl

grown_by : (is grows : Bool) → grows ≡ true → steps_left (if is && grows then Some Passing.Waiting else None) ≡ 4 * (if is then 1 else 0)
grown_by true true e = refl
grown_by true false e = absurd (cc)
grown_by false grows e = refl

-- datagrams leave what came into hand
met_started : {M Q R : Type 0} (station frame : ℕ) (a : Account Q R) (hand : Option Duty) (d : Datagram M) → (account_met station frame a hand d).started ≡ a.started
met_started station frame a None d = refl
met_started {R = R} station frame a (Some duty) d = by (is_for station d.address && not (d.counter == 0)) (access_done duty.target duty.stage d.access d.found)
  where
    by : (b : Bool) (p : Progress R) → (if b then account_by frame a duty p else a).started ≡ a.started
    by true (Progress.On stage) = refl
    by true (Progress.Over answer) = refl
    by false p = refl

back_started : {M Q R : Type 0} (station frame : ℕ) (a : Account Q R) (ds : List (Datagram M)) → (account_back station frame a ds).started ≡ a.started
back_started station frame a [] = refl
back_started station frame a (d ∷ ds) = back_started station frame (account_met station frame a a.hand d) ds ∙ met_started station frame a a.hand d

steps_last : {M Q R : Type 0} (passed : Q → Bool) (es : List (Era M Q R)) (e : Era M Q R) → eras_steps passed (es ++ e ∷ []) ≡ eras_steps passed es + era_steps passed e
steps_last passed [] e = omega arith
steps_last passed (f ∷ es) e = omega (arith, steps_last passed es e)

module _ {M Q R : Type 0} (x : Speech M Q R) (acknowledged : Q → Bool) (more : M → Bool) (passed : Q → Bool) where
  -- what the newest has to come yet, behind news
  passes_less : (passing : Option Passing) (ns : List (News M)) → steps_left (passes x acknowledged more passed passing ns) ≤ steps_left passing
  passes_less None ns = omega arith
  passes_less (Some p) [] = omega arith
  passes_less (Some p) (n ∷ ns) = omega (arith, passes_less (passing_after x.emission more p n) ns, no_further x.emission more p n)

  -- behind what came into hand
  module _ (frame : ℕ) (d : Side M Q R) (a : Account Q R) where
    record Keeps (passing : Option Passing) (new : Account Q R) (then' : Option Passing) : Type 0 where
      steps : 4 * passed_in passed new.started - steps_left then' ≡ 4 * passed_in passed a.started - steps_left passing
      under : steps_left passing ≤ 4 * passed_in passed a.started → steps_left then' ≤ 4 * passed_in passed new.started

    kept_mails : (q : Q) → Keeps None a (passing_begins x acknowledged more passed None a a (Some (Service.Mails q)))
    kept_mails q =
        let none = same_by (passed q) (nat_lt (length a.started) (length a.started)) (le-ltb (length a.started) (length a.started) (omega arith)) in
        record { steps = omega (arith, none); under = λ u. omega (arith, none) }

    mails_keep : (q : Q) (begins : Bool) →
        Keeps None (if begins then record a { started = starts a (Service.Mails q) frame } else a) (passing_begins x acknowledged more passed None a (if begins then record a { started = starts a (Service.Mails q) frame } else a) (Some (Service.Mails q)))
    mails_keep q true =
        let s : Started Q = record { service = Service.Mails q; frame = frame } in
        let longer : length a.started < length (a.started ++ s ∷ []) = omega (arith, length-append a.started (s ∷ [])) in
        let one = grown_by (passed q) (nat_lt (length a.started) (length (a.started ++ s ∷ []))) (lt-ltb (length a.started) (length (a.started ++ s ∷ [])) longer) in
        record { steps = omega (arith, one, passed_last passed a.started s); under = λ u. omega (arith, one, passed_last passed a.started s) }
    mails_keep q false = kept_mails q

    state_keep : (target : ℕ) (begins : Bool) → Keeps None (if begins then state_begins a target frame else a) None
    state_keep target true =
        let s : Started Q = record { service = Service.State target; frame = frame } in
        record { steps = omega (arith, passed_last passed a.started s); under = λ u. omega arith }
    state_keep target false = record { steps = refl; under = λ u. u }

    begins_keep : (hand : Option Duty) (wish : Option (Service Q)) → Keeps None (account_begins x acknowledged frame d a hand wish) (passing_begins x acknowledged more passed None a (account_begins x acknowledged frame d a hand wish) wish)
    begins_keep hand None = record { steps = refl; under = λ u. u }
    begins_keep (Some duty) (Some (Service.Mails q)) = kept_mails q
    begins_keep (Some duty) (Some (Service.State target)) = record { steps = refl; under = λ u. u }
    begins_keep None (Some (Service.Mails q)) = mails_keep q (x.valid q && is_free x d d.now)
    begins_keep None (Some (Service.State target)) = state_keep target (is_free x d d.now && is_acknowledged x acknowledged d d.now)

    next_keeps : (passing : Option Passing) (pick : Pick Q) → Keeps passing (account_next x acknowledged frame d a (granted passing pick)) (passing_begins x acknowledged more passed passing a (account_next x acknowledged frame d a (granted passing pick)) (granted passing pick).begin)
    next_keeps None pick = begins_keep a.hand pick.begin
    next_keeps (Some p) pick = record { steps = refl; under = λ u. u }

  pub before : (frame : ℕ) (l : Life M Q R) (stand : Stand) (pick : Pick Q) → life_steps passed (life_next x acknowledged more passed frame l stand pick) ≡ life_steps passed l
  before frame l (Stand.Opens o) pick = refl
  before frame l Stand.Open pick = omega (arith, (next_keeps frame l.era.side l.era.account l.era.passing pick).steps)
  before frame l Stand.Gone pick = refl

  pub next_under : (frame : ℕ) (l : Life M Q R) (stand : Stand) (pick : Pick Q) → IsUnderWay passed l.era → IsUnderWay passed (life_next x acknowledged more passed frame l stand pick).era
  next_under frame l (Stand.Opens o) pick u = u
  next_under frame l Stand.Open pick u = (next_keeps frame l.era.side l.era.account l.era.passing pick).under u
  next_under frame l Stand.Gone pick u = u

  -- an opening behind an access
  record Stays (l m : Life M Q R) : Type 0 where
    steps : life_steps passed m ≡ life_steps passed l
    under : IsUnderWay passed l.era → IsUnderWay passed m.era

  opening_stays : (frame : ℕ) (l : Life M Q R) (o : Opening) (done : Bool) (found : Option Found) → Stays l (opening_back frame l o done found)
  opening_stays frame l o done found = by (shows_clear o) (done && is_shown 1 found) (o.step == last_step o) (done && is_shown o.state found)
    where
      by : (a b c d : Bool) → Stays l (if a then (if b then clears frame l o else l) else if c then (if d then opens frame l else l) else steps_on l o)
      by true true c d = record { steps = omega (arith, steps_last passed l.past l.era); under = λ u. omega arith }
      by true false c d = record { steps = refl; under = λ u. u }
      by false b true true = record { steps = refl; under = λ u. u }
      by false b true false = record { steps = refl; under = λ u. u }
      by false b false d = record { steps = refl; under = λ u. u }

  reopens_stays : (l : Life M Q R) (hand : Option Duty) → Stays l (reopens l hand)
  reopens_stays l None = record { steps = refl; under = λ u. u }
  reopens_stays l (Some duty) = at_stage duty.stage
    where
      at_stage : (stage : Stage) → Stays l (reopens_at l duty.target stage)
      at_stage Stage.Drains = record { steps = refl; under = λ u. u }
      at_stage (Stage.Goes phase) = by (returns_to_init duty.target)
        where
          by : (b : Bool) → Stays l (if b then record l { stand = reopening (opens_state duty.target) true } else l)
          by true = record { steps = refl; under = λ u. u }
          by false = record { steps = refl; under = λ u. u }

  module _ (frame : ℕ) (spot : Spot) (news : List (News M)) (back : List (Datagram M)) where
    -- the epoch behind a frame that came back
    abbrev behind : Life M Q R → Era M Q R
    behind l = era_back x acknowledged more passed spot.station frame news back l.era

    started : (l : Life M Q R) → (behind l).account.started ≡ l.era.account.started
    started l = back_started spot.station frame l.era.account (own spot.station back)

    open_stays : (l : Life M Q R) → Stays (record l { era = behind l }) (reopens (record l { era = behind l }) (behind l).account.hand)
    open_stays l = reopens_stays (record l { era = behind l }) (behind l).account.hand

    pub grows : (came : Option (Bool × Option Found)) (l : Life M Q R) (stand : Stand) → life_steps passed l ≤ life_steps passed (life_back x acknowledged more passed frame spot news back came l stand)
    grows None l (Stand.Opens o) = omega arith
    grows (Some came) l (Stand.Opens o) = omega (arith, (opening_stays frame l o came.0 came.1).steps)
    grows came l Stand.Open = omega (arith, (open_stays l).steps, ap (λ ss. passed_in passed ss) (started l), passes_less l.era.passing news)
    grows came l Stand.Gone = omega arith

    pub goes_on : (came : Option (Bool × Option Found)) (l : Life M Q R) → IsUnderWay passed l.era → suc (steps_left (passes x acknowledged more passed l.era.passing news)) ≤ steps_left l.era.passing →
        suc (life_steps passed l) ≤ life_steps passed (life_back x acknowledged more passed frame spot news back came l Stand.Open)
    goes_on came l under less = omega (arith, (open_stays l).steps, ap (λ ss. passed_in passed ss) (started l), under, less)

    pub back_under : (came : Option (Bool × Option Found)) (l : Life M Q R) (stand : Stand) → IsUnderWay passed l.era → IsUnderWay passed (life_back x acknowledged more passed frame spot news back came l stand).era
    back_under None l (Stand.Opens o) u = u
    back_under (Some came) l (Stand.Opens o) u = (opening_stays frame l o came.0 came.1).under u
    back_under came l Stand.Open u = (open_stays l).under (omega (arith, ap (λ ss. passed_in passed ss) (started l), passes_less l.era.passing news, u))
    back_under came l Stand.Gone u = u

  pub lost : (spot : Spot) (news : List (News M)) (sent : List (Datagram M)) (l : Life M Q R) (stand : Stand) → life_steps passed l ≤ life_steps passed (life_lost x acknowledged more passed spot news sent l stand)
  lost spot news sent l (Stand.Opens o) = omega arith
  lost spot news sent l Stand.Open = omega (arith, passes_less l.era.passing news)
  lost spot news sent l Stand.Gone = omega arith

  pub lost_under : (spot : Spot) (news : List (News M)) (sent : List (Datagram M)) (l : Life M Q R) (stand : Stand) → IsUnderWay passed l.era → IsUnderWay passed (life_lost x acknowledged more passed spot news sent l stand).era
  lost_under spot news sent l (Stand.Opens o) u = u
  lost_under spot news sent l Stand.Open u = omega (arith, passes_less l.era.passing news, u)
  lost_under spot news sent l Stand.Gone u = u

-- four steps of each
eras_most : {M Q R : Type 0} (passed : Q → Bool) (es : List (Era M Q R)) → eras_steps passed es ≤ 4 * eras_passed passed es
eras_most passed [] = omega arith
eras_most passed (e ∷ es) = omega (arith, eras_most passed es)

pub most : {M Q R : Type 0} (passed : Q → Bool) (l : Life M Q R) → life_steps passed l ≤ 4 * life_passed passed l
most passed l = omega (arith, eras_most passed l.past)
