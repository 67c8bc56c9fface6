-- The newest service while a mail that is passed on isn't over, at every frame of a life.
use Rattle.std.proofs.Common.{◌≡◌, ℕ, Bool, true, false, Option, Some, None, List, [], length, refl, sym, subst, arith, if◌then◌else◌}
use Rattle.std.specs.Prelude.{◌&&◌, nat_lt}
use Rattle.std.proofs.lemmas.Bool.Decides.{nat_tests}
use Rattle.idle_slaves.specs.of_slave_model.Moments.{IsMailsLast}
use Rattle.idle_slaves.specs.of_exchange_model.Exchange.{Speech}
use Rattle.idle_slaves.specs.of_life_model.Lives.{Era, Life, Spot, Stand, era_back, granted, life_back, life_lost, life_next, passes, passing_begins}
use Rattle.idle_slaves.specs.of_life_model.Own.{own}
use Rattle.idle_slaves.specs.of_segment_model.Ends.{Passing}
use Rattle.idle_slaves.specs.of_segment_model.Record.{News}
use Rattle.idle_slaves.specs.of_segment_model.Seats.{Side}
use Rattle.idle_slaves.specs.of_segment_model.Slaves.{Datagram, Found}
use Rattle.seen_slaves.specs.Last.{LastPasses}
use Rattle.seen_slaves.proofs.Lives.{back_keeps, lost_keeps, next_keeps}
use Rattle.idle_slaves.specs.of_state_model.Stated.{Service}
use Rattle.idle_slaves.specs.of_state_model.Accounts.{Account, Duty, Pick, Started, account_begins, is_free, starts}
use Rattle.idle_slaves.proofs.of_state_model.Completed.{started_back}

abbrev Lasts : {Q : Type 0} → Option Passing → List (Started Q) → Type 0
Lasts passing started = (p : Passing) → passing ≡ Some p → IsMailsLast started

pub none_lasts : {Q : Type 0} (started : List (Started Q)) → Lasts None started
none_lasts started p e = absurd (let no : None ≡ Some p = e in cc)

not_less : (n : ℕ) → nat_lt n n ≡ false
not_less n = grind (arith, nat_tests)

module _ {M Q R : Type 0} (x : Speech M Q R) (acknowledged : Q → Bool) (more : M → Bool) (passed : Q → Bool) where
  -- ---- what comes into hand
  module _ (frame : ℕ) (d : Side M Q R) (a : Account Q R) where
    -- nothing longer came into hand
    same_lasts : (q : Q) → Lasts (if passed q && nat_lt (length a.started) (length a.started) then Some Passing.Waiting else None) a.started
    same_lasts q = go (passed q)
      where
        go : (b : Bool) → Lasts (if b && nat_lt (length a.started) (length a.started) then Some Passing.Waiting else None) a.started
        go false = none_lasts a.started
        go true = subst (λ (b : Bool). Lasts (if b then Some Passing.Waiting else None) a.started) (sym (not_less (length a.started))) (none_lasts a.started)

    mails_lasts : (q : Q) (b : Bool) → (let n = (if b then record a { started = starts a (Service.Mails q) frame } else a) in Lasts (if passed q && nat_lt (length a.started) (length n.started) then Some Passing.Waiting else None) n.started)
    mails_lasts q true = λ p e. record { front = a.started; service = q; frame = frame; is = refl }
    mails_lasts q false = same_lasts q

    begins_lasts : (hand : Option Duty) (begin : Option (Service Q)) → (let n = account_begins x acknowledged frame d a hand begin in Lasts (passing_begins x acknowledged more passed None a n begin) n.started)
    begins_lasts None None = none_lasts a.started
    begins_lasts (Some duty) None = none_lasts a.started
    begins_lasts None (Some (Service.State target)) = none_lasts (account_begins x acknowledged frame d a None (Some (Service.State target))).started
    begins_lasts (Some duty) (Some (Service.State target)) = none_lasts a.started
    begins_lasts (Some duty) (Some (Service.Mails q)) = same_lasts q
    begins_lasts None (Some (Service.Mails q)) = mails_lasts q (x.valid q && is_free x d d.now)

    still_lasts : (hand : Option Duty) (o : Option Passing) → Lasts o a.started → Lasts o (account_begins x acknowledged frame d a hand None).started
    still_lasts None o k = k
    still_lasts (Some duty) o k = k

    next_lasts : (o : Option Passing) (pick : Pick Q) → Lasts o a.started → (let b = (granted o pick).begin in let n = account_begins x acknowledged frame d a a.hand b in Lasts (passing_begins x acknowledged more passed o a n b) n.started)
    next_lasts None pick k = begins_lasts a.hand pick.begin
    next_lasts (Some p) pick k = still_lasts a.hand (Some p) k

  -- ---- by news it was in hand before
  was_some : (o : Option Passing) (ns : List (News M)) (p : Passing) → passes x acknowledged more passed o ns ≡ Some p → (q : Passing) × (o ≡ Some q)
  was_some None ns p e = absurd (let no : None ≡ Some p = e in cc)
  was_some (Some q) ns p e = (q, refl)

  news_lasts : (o : Option Passing) (ns : List (News M)) (old new : List (Started Q)) → new ≡ old → Lasts o old → Lasts (passes x acknowledged more passed o ns) new
  news_lasts o ns old new same k = λ p e. (let before = was_some o ns p e in subst (λ s. IsMailsLast s) (sym same) (k before.0 before.1))

  -- ---- all along a life
  pub next : (frame : ℕ) (l : Life M Q R) (stand : Stand) (pick : Pick Q) → LastPasses l.era → LastPasses (life_next x acknowledged more passed frame l stand pick).era
  next frame l stand pick k = next_keeps (λ (e : Era M Q R). LastPasses e) (λ cleared state. none_lasts []) (λ e opened h. h) x acknowledged more passed frame l stand pick (λ h. next_lasts frame l.era.side l.era.account l.era.passing pick h) k

  pub back : (frame : ℕ) (spot : Spot) (ns : List (News M)) (ds : List (Datagram M)) (came : Option (Bool × Option Found)) (l : Life M Q R) (stand : Stand) → LastPasses l.era → LastPasses (life_back x acknowledged more passed frame spot ns ds came l stand).era
  back frame spot ns ds came l stand k =
      let era = era_back x acknowledged more passed spot.station frame ns ds l.era in
      back_keeps (λ (e : Era M Q R). LastPasses e) (λ cleared state. none_lasts []) (λ e opened h. h) x acknowledged more passed frame spot ns ds came l stand
      (λ h. news_lasts l.era.passing ns l.era.account.started era.account.started (started_back spot.station frame l.era.account (own spot.station ds)) h) k

  pub lost : (spot : Spot) (ns : List (News M)) (ds : List (Datagram M)) (l : Life M Q R) (stand : Stand) → LastPasses l.era → LastPasses (life_lost x acknowledged more passed spot ns ds l stand).era
  lost spot ns ds l stand k =
      lost_keeps (λ (e : Era M Q R). LastPasses e) (λ cleared state. none_lasts []) (λ e opened h. h) x acknowledged more passed spot ns ds l stand (λ h. news_lasts l.era.passing ns l.era.account.started l.era.account.started refl h) k
