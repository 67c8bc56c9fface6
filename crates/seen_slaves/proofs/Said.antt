-- What was heard of the newest service is its answer, at every frame of a life.
use Rattle.std.proofs.Common.{◌≡◌, ℕ, ◌&&◌, Bool, true, false, Option, Some, None, option_map, List, [], ◌∷◌, ◌++◌, refl, ap, subst, if◌then◌else◌}
use Rattle.idle_slaves.specs.of_slave_model.Moments.{NowAnswered}
use Rattle.idle_slaves.specs.of_exchange_model.Exchange.{Speech, plain}
use Rattle.idle_slaves.specs.of_exchange_model.Rows.{Row, answer_after, begun, row_heard, row_told}
use Rattle.idle_slaves.specs.of_life_model.Lives.{Era, Life, Spot, Stand, granted, life_back, life_lost, life_next}
use Rattle.idle_slaves.specs.of_life_model.Own.{own}
use Rattle.idle_slaves.specs.of_link_model.Frames.{all_accepted}
use Rattle.idle_slaves.specs.of_segment_model.Record.{News}
use Rattle.idle_slaves.specs.of_segment_model.Seats.{Choice, Side, is_over, next_mail, side_begins, side_holds, side_next}
use Rattle.idle_slaves.specs.of_segment_model.Slaves.{Datagram, Found, grams}
use Rattle.seen_slaves.proofs.Lives.{back_keeps, lost_keeps, next_keeps}
use Rattle.idle_slaves.specs.of_state_model.Accounts.{Pick, mails_choice}

module _ {M Q R : Type 0} (x : Speech M Q R) where
  -- of a row
  abbrev Says : Row M Q R → Type 0
  Says r = (frame : ℕ) → answer_after frame r.answer (x.ends r.service (plain x.emission r.heard)) ≡ r.answer

  abbrev NowSays : Option (Row M Q R) → Type 0
  NowSays now = (r : Row M Q R) → now ≡ Some r → Says r

  pub none_says : NowSays None
  none_says r e = absurd (let no : None ≡ Some r = e in cc)

  some_says : (r : Row M Q R) → Says r → NowSays (Some r)
  some_says r k t e = subst (λ (z : Row M Q R). Says z) (let same : r ≡ t = (let both : Some r ≡ Some t = e in cc) in same) k

  -- the first answer stays
  again : (n frame : ℕ) (old : Option (R × ℕ)) (found : Option R) → answer_after n (answer_after frame old found) found ≡ answer_after frame old found
  again n frame (Some answer) found = refl
  again n frame None None = refl
  again n frame None (Some reply) = refl

  -- a mail that is taken up
  held_says : (now : Option (Row M Q R)) (m : M) → NowSays now → NowSays (option_map (λ r. row_told m r) now)
  held_says None m k = none_says
  held_says (Some r) m k = some_says (row_told m r) (k r refl)

  holds_says : (d : Side M Q R) (ms : List M) → NowSays d.now → NowSays (side_holds d ms).now
  holds_says d [] k = k
  holds_says d (m ∷ ms) k = held_says d.now m k

  -- what comes into hand
  module _ (silent : (q : Q) → x.ends q [] ≡ None) (frame : ℕ) (d : Side M Q R) where
    new_says : (q : Q) → NowSays (Some (begun q frame))
    new_says q = some_says (begun q frame) (λ n. ap (answer_after n None) (silent q))

    begins_says : (now : Option (Row M Q R)) (w : Option Q) → NowSays d.now → NowSays (side_begins x frame d now w).now
    begins_says now None k = k
    begins_says None (Some q) k = go (x.valid q)
      where
        go : (b : Bool) → NowSays (if b then record d { now = Some (begun q frame) } else d).now
        go true = new_says q
        go false = k
    begins_says (Some r) (Some q) k = go (x.valid q && is_over x d.halves.out.holding d.fresh r)
      where
        go : (b : Bool) → NowSays (if b then record d { past = d.past ++ r ∷ []; now = Some (begun q frame) } else d).now
        go true = new_says q
        go false = k

    next_says : (c : Choice Q) → NowSays d.now → NowSays (side_next x frame d c).now
    next_says c k = let e = side_begins x frame d d.now c.begin in holds_says e (next_mail x e.now e.halves.out.holding c.hold) (begins_says d.now c.begin k)

  -- what is heard
  heard_says : (frame : ℕ) (ms : List M) (now : Option (Row M Q R)) → NowSays (option_map (λ r. row_heard x frame ms r) now)
  heard_says frame ms None = none_says
  heard_says frame ms (Some r) = some_says (row_heard x frame ms r) (λ n. again n frame r.answer (x.ends r.service (plain x.emission (r.heard ++ ms))))

  -- ---- all along a life
  abbrev pub Said : Era M Q R → Type 0
  Said e = NowAnswered x e.side

  module _ (acknowledged : Q → Bool) (more : M → Bool) (passed : Q → Bool) where
    pub next : ((q : Q) → x.ends q [] ≡ None) → (frame : ℕ) (l : Life M Q R) (stand : Stand) (pick : Pick Q) → NowAnswered x l.era.side → NowAnswered x (life_next x acknowledged more passed frame l stand pick).era.side
    next silent frame l stand pick k = next_keeps Said (λ cleared state. none_says) (λ e opened h. h) x acknowledged more passed frame l stand pick (λ h. next_says silent frame l.era.side (mails_choice l.era.account (granted l.era.passing pick)) h) k

    pub back : (frame : ℕ) (spot : Spot) (ns : List (News M)) (ds : List (Datagram M)) (came : Option (Bool × Option Found)) (l : Life M Q R) (stand : Stand) → NowAnswered x l.era.side → NowAnswered x (life_back x acknowledged more passed frame spot ns ds came l stand).era.side
    back frame spot ns ds came l stand k =
        back_keeps Said (λ cleared state. none_says) (λ e opened h. h) x acknowledged more passed frame spot ns ds came l stand
        (λ h. heard_says frame (all_accepted spot.station l.era.side.halves (grams (own spot.station ds))) l.era.side.now) k

    pub lost : (spot : Spot) (ns : List (News M)) (ds : List (Datagram M)) (l : Life M Q R) (stand : Stand) → NowAnswered x l.era.side → NowAnswered x (life_lost x acknowledged more passed spot ns ds l stand).era.side
    lost spot ns ds l stand k = lost_keeps Said (λ cleared state. none_says) (λ e opened h. h) x acknowledged more passed spot ns ds l stand (λ h. h) k
