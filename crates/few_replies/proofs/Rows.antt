-- The row of a mail that is passed on, at every frame of a life.
use Rattle.std.proofs.Common.{◌≡◌, ℕ, ◌==◌, ◌&&◌, Bool, true, false, Option, Some, None, option_map, List, [], ◌∷◌, ◌++◌, length, refl, sym, ap, ◌∙◌, subst, arith, append-nil, if◌then◌else◌}
use Rattle.std.specs.Prelude.{nat_lt}
use Rattle.std.proofs.lemmas.Bool.Decides.{nat_tests}
use Rattle.slave_parts.specs.of_exchange_model.Exchange.{Speech}
use Rattle.slave_parts.specs.of_exchange_model.Rows.{Row, begun, row_told, row_heard}
use Rattle.slave_parts.specs.of_life_model.Lives.{Life, Spot, Stand, Opening, granted, passes, passing_begins, life_next, life_back, life_lost, era_back, opening_back, clears, opens, steps_on, shows_clear, last_step, is_shown, reopens, reopens_at, reopening, opens_state, returns_to_init}
use Rattle.slave_parts.specs.of_life_model.Own.{own}
use Rattle.slave_parts.specs.of_link_model.Frames.{all_accepted}
use Rattle.slave_parts.specs.of_segment_model.Ends.{Passing}
use Rattle.slave_parts.specs.of_segment_model.Record.{News, mails_heard}
use Rattle.slave_parts.specs.of_segment_model.Seats.{Side, side_begins, side_holds, next_mail}
use Rattle.slave_parts.specs.of_segment_model.Slaves.{Datagram, Found, grams}
use Rattle.slave_parts.specs.of_state_model.Stated.{Service}
use Rattle.slave_parts.specs.of_state_model.Accounts.{Account, Duty, Stage, Pick, account_begins, is_free, mails_begin, starts}
use Rattle.few_replies.specs.Heard.{HeardBy, IsPassedBy, RowPasses, EraPasses}
use Rattle.few_replies.proofs.Heard.{After, after, goes_on}

not_less : (n : ℕ) → nat_lt n n ≡ false
not_less n = grind (arith, nat_tests)

and_first : (a b : Bool) → (a && b) ≡ true → a ≡ true
and_first true b e = refl
and_first false b e = e

module _ {M Q R : Type 0} (x : Speech M Q R) (more : M → Bool) (passed : Q → Bool) where
  none_passes : (now : Option (Row M Q R)) → RowPasses x more passed None now
  none_passes now = λ p e. absurd (let no : None ≡ Some p = e in cc)

  -- a mail that is taken up
  holds_row : (p : Passing) (d : Side M Q R) (ms : List M) → IsPassedBy x more passed p d.now → IsPassedBy x more passed p (side_holds d ms).now
  holds_row p d [] k = k
  holds_row p d (m ∷ ms) k = record { row = row_told m k.row; is = ap (option_map (λ r. row_told m r)) k.is; passes = k.passes; heard = k.heard }

  -- WHAT COMES INTO HAND
  module _ (acknowledged : Q → Bool) (frame : ℕ) (d : Side M Q R) (a : Account Q R) (hold : Bool) where
    abbrev held : Option Q → Side M Q R
    held w = let e = side_begins x frame d d.now w in side_holds e (next_mail x e.now e.halves.out.holding hold)

    abbrev then_passes : Option Passing → Account Q R → Option (Service Q) → Option Passing
    then_passes o new begin = passing_begins x acknowledged more passed o a new begin

    new_row : (q : Q) (now : Option (Row M Q R)) → (x.valid q && is_free x d now) ≡ true → (side_begins x frame d now (Some q)).now ≡ Some (begun q frame)
    new_row q None e = ap (λ (b : Bool). (if b then record d { now = Some (begun q frame) } else d).now) (and_first (x.valid q) true e)
    new_row q (Some r) e = ap (λ (b : Bool). (if b then record d { past = d.past ++ r ∷ []; now = Some (begun q frame) } else d).now) e

    waits : (q : Q) (now : Option (Row M Q R)) → now ≡ Some (begun q frame) → passed q ≡ true → (b : Bool) → RowPasses x more passed (if b then Some Passing.Waiting else None) now
    waits q now e f false = none_passes now
    waits q now e f true = λ p is. (let same : Passing.Waiting ≡ p = cc in subst (λ z. IsPassedBy x more passed z now) same (record { row = begun q frame; is = e; passes = f; heard = refl }))

    mails_begin_row : (q : Q) (c b : Bool) → (x.valid q && is_free x d d.now) ≡ c → passed q ≡ b →
        RowPasses x more passed (if b && nat_lt (length a.started) (length (if c then record a { started = starts a (Service.Mails q) frame } else a).started) then Some Passing.Waiting else None) (held (Some q)).now
    mails_begin_row q c false e f = none_passes (held (Some q)).now
    mails_begin_row q false true e f = subst (λ (b : Bool). RowPasses x more passed (if b then Some Passing.Waiting else None) (held (Some q)).now) (sym (not_less (length a.started))) (none_passes (held (Some q)).now)
    mails_begin_row q true true e f = λ p is.
        let s = side_begins x frame d d.now (Some q) in
        holds_row p s (next_mail x s.now s.halves.out.holding hold) (waits q s.now (new_row q d.now e) f (nat_lt (length a.started) (length (starts a (Service.Mails q) frame))) p is)

    begins_row : (hand : Option Duty) (begin : Option (Service Q)) → RowPasses x more passed (then_passes None (account_begins x acknowledged frame d a hand begin) begin) (held (mails_begin hand begin)).now
    begins_row None None = none_passes (held None).now
    begins_row (Some duty) None = none_passes (held None).now
    begins_row None (Some (Service.State target)) = none_passes (held None).now
    begins_row (Some duty) (Some (Service.State target)) = none_passes (held None).now
    begins_row (Some duty) (Some (Service.Mails q)) = go (passed q)
      where
        go : (b : Bool) → RowPasses x more passed (if b && nat_lt (length a.started) (length a.started) then Some Passing.Waiting else None) (held None).now
        go false = none_passes (held None).now
        go true = subst (λ (b : Bool). RowPasses x more passed (if b then Some Passing.Waiting else None) (held None).now) (sym (not_less (length a.started))) (none_passes (held None).now)
    begins_row None (Some (Service.Mails q)) = mails_begin_row q (x.valid q && is_free x d d.now) (passed q) refl refl

    -- none does while a mail that is passed on is in hand
    still_row : (hand : Option Duty) (p : Passing) → IsPassedBy x more passed p d.now → IsPassedBy x more passed p (held (mails_begin hand (let none : Option (Service Q) = None in none))).now
    still_row None p k = holds_row p d (next_mail x d.now d.halves.out.holding hold) k
    still_row (Some duty) p k = holds_row p d (next_mail x d.now d.halves.out.holding hold) k

    pub next_row : (o : Option Passing) (pick : Pick Q) → RowPasses x more passed o d.now →
        RowPasses x more passed (then_passes o (account_begins x acknowledged frame d a a.hand (granted o pick).begin) (granted o pick).begin) (held (mails_begin a.hand (granted o pick).begin)).now
    next_row None pick k = begins_row a.hand pick.begin
    next_row (Some p) pick k = λ q e. still_row a.hand q (k q e)

  pub next : (acknowledged : Q → Bool) (frame : ℕ) (l : Life M Q R) (stand : Stand) (pick : Pick Q) → EraPasses x more passed l.era → EraPasses x more passed (life_next x acknowledged more passed frame l stand pick).era
  next acknowledged frame l (Stand.Opens o) pick k = k
  next acknowledged frame l Stand.Open pick k = next_row acknowledged frame l.era.side l.era.account (granted l.era.passing pick).hold l.era.passing pick k
  next acknowledged frame l Stand.Gone pick k = k

  -- WHAT A FRAME BRINGS
  heard_row : (acknowledged : Q → Bool) (frame : ℕ) (o : Option Passing) (now : Option (Row M Q R)) (ns : List (News M)) (ms : List M) → mails_heard ns ≡ ms → RowPasses x more passed o now →
      RowPasses x more passed (passes x acknowledged more passed o ns) (option_map (λ r. row_heard x frame ms r) now)
  heard_row acknowledged frame o now ns ms e k = λ q is.
      let before = goes_on x acknowledged more passed o ns q is in
      let r = k before.0 before.1 in
      record {
        row = row_heard x frame ms r.row;
        is = ap (option_map (λ r. row_heard x frame ms r)) r.is;
        passes = r.passes;
        heard = subst (λ l. HeardBy x.emission more q (r.row.heard ++ l)) e (subst (λ z. After x.emission more z (r.row.heard ++ mails_heard ns)) is
            (after x acknowledged more passed o ns r.row.heard (subst (λ z. After x.emission more z r.row.heard) (sym before.1) r.heard)));
      }

  lost_row : (acknowledged : Q → Bool) (o : Option Passing) (now : Option (Row M Q R)) (ns : List (News M)) → mails_heard ns ≡ [] → RowPasses x more passed o now → RowPasses x more passed (passes x acknowledged more passed o ns) now
  lost_row acknowledged o now ns e k = λ q is.
      let before = goes_on x acknowledged more passed o ns q is in
      let r = k before.0 before.1 in
      record {
        row = r.row;
        is = r.is;
        passes = r.passes;
        heard = subst (λ l. HeardBy x.emission more q l) (ap (λ l. r.row.heard ++ l) e ∙ append-nil r.row.heard) (subst (λ z. After x.emission more z (r.row.heard ++ mails_heard ns)) is
            (after x acknowledged more passed o ns r.row.heard (subst (λ z. After x.emission more z r.row.heard) (sym before.1) r.heard)));
      }

  -- an opening, and a reopening
  opening_row : (frame : ℕ) (l : Life M Q R) (o : Opening) (done : Bool) (found : Option Found) → EraPasses x more passed l.era → EraPasses x more passed (opening_back frame l o done found).era
  opening_row frame l o done found k = by (shows_clear o) (done && is_shown 1 found) (o.step == last_step o) (done && is_shown o.state found)
    where
      by : (a b c d : Bool) → EraPasses x more passed (if a then (if b then clears frame l o else l) else if c then (if d then opens frame l else l) else steps_on l o).era
      by true true c d = none_passes None
      by true false c d = k
      by false b true true = k
      by false b true false = k
      by false b false d = k

  reopens_row : (l : Life M Q R) (hand : Option Duty) → EraPasses x more passed l.era → EraPasses x more passed (reopens l hand).era
  reopens_row l None k = k
  reopens_row l (Some duty) k = at_stage duty.stage
    where
      by : (b : Bool) → EraPasses x more passed (if b then record l { stand = reopening (opens_state duty.target) true } else l).era
      by true = k
      by false = k

      at_stage : (stage : Stage) → EraPasses x more passed (reopens_at l duty.target stage).era
      at_stage Stage.Drains = k
      at_stage (Stage.Goes phase) = by (returns_to_init duty.target)

  pub back : (acknowledged : Q → Bool) (frame : ℕ) (spot : Spot) (ns : List (News M)) (ds : List (Datagram M)) (came : Option (Bool × Option Found)) (l : Life M Q R) (stand : Stand) → EraPasses x more passed l.era →
      mails_heard ns ≡ all_accepted spot.station l.era.side.halves (grams (own spot.station ds)) → EraPasses x more passed (life_back x acknowledged more passed frame spot ns ds came l stand).era
  back acknowledged frame spot ns ds None l (Stand.Opens o) k e = k
  back acknowledged frame spot ns ds (Some came) l (Stand.Opens o) k e = opening_row frame l o came.0 came.1 k
  back acknowledged frame spot ns ds came l Stand.Gone k e = k
  back acknowledged frame spot ns ds came l Stand.Open k e =
      let era = era_back x acknowledged more passed spot.station frame ns ds l.era in
      reopens_row (record l { era = era }) era.account.hand (heard_row acknowledged frame l.era.passing l.era.side.now ns (all_accepted spot.station l.era.side.halves (grams (own spot.station ds))) e k)

  pub lost : (acknowledged : Q → Bool) (spot : Spot) (ns : List (News M)) (ds : List (Datagram M)) (l : Life M Q R) (stand : Stand) → EraPasses x more passed l.era → mails_heard ns ≡ [] → EraPasses x more passed (life_lost x acknowledged more passed spot ns ds l stand).era
  lost acknowledged spot ns ds l (Stand.Opens o) k e = k
  lost acknowledged spot ns ds l Stand.Open k e = lost_row acknowledged l.era.passing l.era.side.now ns e k
  lost acknowledged spot ns ds l Stand.Gone k e = k

  pub new : (now : Option (Row M Q R)) → RowPasses x more passed None now
  new now = none_passes now
