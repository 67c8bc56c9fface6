-- TWO CLIENTS THAT SPEAK ALIKE lead a life alike: its choices and frames make the same of it.
use Rattle.std.proofs.Common.{◌≡◌, ℕ, ◌==◌, ◌&&◌, ◌||◌, Bool, true, false, List, [], ◌∷◌, ◌++◌, refl, ap, ap₂, ◌∙◌, subst}
use Rattle.std.specs.Prelude.{if◌then◌else◌, not, Option, Some, None, option_map, is_some, is_none, drop, length}
use Rattle.slave_server.specs.of_exchange_model.Exchange.{Speech, outnumbers, plain}
use Rattle.slave_server.specs.of_exchange_model.Rows.{Row, begun, answer_after, ends_unheard, row_heard, row_told, left}
use Rattle.whole_ring.specs.of_link_model.Frames.{all_accepted}
use Rattle.whole_ring.specs.of_link_model.Mails.{LinkMail}
use Rattle.slave_server.specs.of_segment_model.Ends.{Passing, passing_after}
use Rattle.slave_server.specs.of_segment_model.Record.{News}
use Rattle.slave_server.specs.of_segment_model.Seats.{Side, Choice, is_over, is_none_left, side_begins, side_holds, side_next, side_back, first_left, next_mail}
use Rattle.slave_server.specs.of_segment_model.Slaves.{Datagram, Found, grams}
use Rattle.slave_server.specs.of_state_model.Stated.{Service}
use Rattle.slave_server.specs.of_state_model.Accounts.{Pick, Duty, Account, mails_begin, mails_choice, is_free, is_acknowledged, account_begins, account_next, starts, state_begins, Stage}
use Rattle.whole_ring.specs.of_life_model.Lives.{Spot, Life, Era, Stand, granted, passing_begins, era_next, era_back, era_lost, life_next, life_back, life_lost, passes, reopens, reopens_at, reopening, returns_to_init, opens_state, clears, opens, steps_on, shows_clear, last_step, is_shown}
use Rattle.whole_ring.specs.of_life_model.Own.{own}
use Rattle.plan_ring.specs.Alike.{Alike, RowIs, WishIs, InHandIs}

module _ {M P T : Type 0} (is : P → Bool) (y z : Speech M P T) (same : Alike is y z) where
  left_same : (r : Row M P T) → is r.service ≡ true → left y r ≡ left z r
  left_same r k = ap (λ (l : List M). drop (length r.told) l) (ap (λ (e : M → Bool). y.planned r.service (plain e r.heard)) same.emission ∙ same.planned r.service (plain z.emission r.heard) k)

  pub over_same : (holding : Option (LinkMail M)) (fresh : Bool) (r : Row M P T) → is r.service ≡ true → is_over y holding fresh r ≡ is_over z holding fresh r
  over_same holding fresh r k = ap₂ (λ (l : List M) (h : Bool). is_none_left l && (if h && is_none r.answer then is_none holding else is_some r.answer && not fresh)) (left_same r k) (same.handed r.service k)

  heard_same : (frame : ℕ) (ms : List M) (r : Row M P T) → is r.service ≡ true → row_heard y frame ms r ≡ row_heard z frame ms r
  heard_same frame ms r k =
      ap (λ (o : Option T). record r { heard = r.heard ++ ms; answer = answer_after frame r.answer o }) (ap (λ (e : M → Bool). y.ends r.service (plain e (r.heard ++ ms))) same.emission ∙ same.ends r.service (plain z.emission (r.heard ++ ms)) k)

  begins_same : (frame : ℕ) (d : Side M P T) (now : Option (Row M P T)) (b : Option P) → RowIs is now → ((q : P) → b ≡ Some q → is q ≡ true) → side_begins y frame d now b ≡ side_begins z frame d now b
  begins_same frame d None None row wish = refl
  begins_same frame d (Some r) None row wish = refl
  begins_same frame d None (Some q) row wish = ap (λ (b : Bool). if b then record d { now = Some (begun q frame) } else d) (same.valid q (wish q refl))
  begins_same frame d (Some r) (Some q) row wish =
      ap₂ (λ (a b : Bool). if a && b then record d { past = d.past ++ r ∷ []; now = Some (begun q frame) } else d) (same.valid q (wish q refl)) (over_same d.halves.out.holding d.fresh r row)

  -- what is in hand then is one of these too
  begins_is : (frame : ℕ) (d : Side M P T) (now : Option (Row M P T)) (b : Option P) → RowIs is d.now → ((q : P) → b ≡ Some q → is q ≡ true) → RowIs is (side_begins z frame d now b).now
  begins_is frame d None None row wish = row
  begins_is frame d (Some r) None row wish = row
  begins_is frame d None (Some q) row wish = go (z.valid q)
    where
      go : (b : Bool) → RowIs is (if b then record d { now = Some (begun q frame) } else d).now
      go true = wish q refl
      go false = row
  begins_is frame d (Some r) (Some q) row wish = go (z.valid q && is_over z d.halves.out.holding d.fresh r)
    where
      go : (b : Bool) → RowIs is (if b then record d { past = d.past ++ r ∷ []; now = Some (begun q frame) } else d).now
      go true = wish q refl
      go false = row

  mail_same : (now : Option (Row M P T)) (holding : Option (LinkMail M)) (hold : Bool) → RowIs is now → next_mail y now holding hold ≡ next_mail z now holding hold
  mail_same now holding false row = refl
  mail_same None holding true row = refl
  mail_same (Some r) (Some m) true row = refl
  mail_same (Some r) None true row = ap first_left (left_same r row)

  holds_is : (d : Side M P T) (ms : List M) → RowIs is d.now → RowIs is (side_holds d ms).now
  holds_is d [] row = row
  holds_is d (m ∷ ms) row = told_is d.now row
    where
      told_is : (now : Option (Row M P T)) → RowIs is now → RowIs is (option_map (λ r. row_told m r) now)
      told_is None k = tt
      told_is (Some r) k = k

  wish_mails : (hand : Option Duty) (wish : Option (Service P)) → WishIs is wish → (q : P) → mails_begin hand wish ≡ Some q → is q ≡ true
  wish_mails hand None w q e = absurd (none_begins hand e)
    where
      none_begins : (h : Option Duty) → mails_begin h None ≡ Some q → ⊥
      none_begins None f = let no_ : None ≡ Some q = f in cc
      none_begins (Some duty) f = let no_ : None ≡ Some q = f in cc
  wish_mails (Some duty) (Some s) w q e = absurd (let no_ : None ≡ Some q = e in cc)
  wish_mails None (Some (Service.Mails p)) w q e = let f : p ≡ q = (let g : Some p ≡ Some q = e in cc) in subst (λ (k : P). is k ≡ true) f w
  wish_mails None (Some (Service.State target)) w q e = absurd (let no_ : None ≡ Some q = e in cc)

  side_same : (frame : ℕ) (d : Side M P T) (c : Choice P) → RowIs is d.now → ((q : P) → c.begin ≡ Some q → is q ≡ true) → side_next y frame d c ≡ side_next z frame d c
  side_same frame d c row wish =
      let both = begins_same frame d d.now c.begin row wish in
      let e = side_begins z frame d d.now c.begin in
      ap (λ (k : Side M P T). side_holds k (next_mail y k.now k.halves.out.holding c.hold)) both ∙ ap (side_holds e) (mail_same e.now e.halves.out.holding c.hold (begins_is frame d d.now c.begin row wish))

  side_is : (frame : ℕ) (d : Side M P T) (c : Choice P) → RowIs is d.now → ((q : P) → c.begin ≡ Some q → is q ≡ true) → RowIs is (side_next z frame d c).now
  side_is frame d c row wish = let e = side_begins z frame d d.now c.begin in holds_is e (next_mail z e.now e.halves.out.holding c.hold) (begins_is frame d d.now c.begin row wish)

  free_same : (d : Side M P T) (now : Option (Row M P T)) → RowIs is now → is_free y d now ≡ is_free z d now
  free_same d None row = refl
  free_same d (Some r) row = over_same d.halves.out.holding d.fresh r row

  pub unheard_same : (acknowledged : P → Bool) (r : Row M P T) → is r.service ≡ true → ends_unheard y acknowledged r ≡ ends_unheard z acknowledged r
  unheard_same acknowledged r row =
      ap (λ (e : M → Bool). acknowledged r.service && (is_none r.answer || outnumbers (y.planned r.service (plain e r.heard)) (plain e r.heard))) same.emission
      ∙ ap (λ (ms : List M). acknowledged r.service && (is_none r.answer || outnumbers ms (plain z.emission r.heard))) (same.planned r.service (plain z.emission r.heard) row)

  pub done_same : (acknowledged : P → Bool) (d : Side M P T) (now : Option (Row M P T)) → RowIs is now → is_acknowledged y acknowledged d now ≡ is_acknowledged z acknowledged d now
  done_same acknowledged d None row = refl
  done_same acknowledged d (Some r) row = ap (λ (b : Bool). if b then is_none d.halves.out.holding else true) (unheard_same acknowledged r row)

  account_same : (acknowledged : P → Bool) (frame : ℕ) (d : Side M P T) (a : Account P T) (hand : Option Duty) (wish : Option (Service P)) → RowIs is d.now → WishIs is wish →
      account_begins y acknowledged frame d a hand wish ≡ account_begins z acknowledged frame d a hand wish
  account_same acknowledged frame d a None None row w = refl
  account_same acknowledged frame d a (Some duty) None row w = refl
  account_same acknowledged frame d a (Some duty) (Some s) row w = refl
  account_same acknowledged frame d a None (Some (Service.Mails q)) row w =
      ap₂ (λ (v f : Bool). if v && f then record a { started = starts a (Service.Mails q) frame } else a) (same.valid q w) (free_same d d.now row)
  account_same acknowledged frame d a None (Some (Service.State target)) row w =
      ap₂ (λ (f e : Bool). if f && e then state_begins a target frame else a) (free_same d d.now row) (done_same acknowledged d d.now row)

  module _ (acknowledged : P → Bool) (more : M → Bool) (passed : P → Bool) where
    granted_is : (passing : Option Passing) (pick : Pick P) → WishIs is pick.begin → WishIs is (granted passing pick).begin
    granted_is None pick w = w
    granted_is (Some p) pick w = tt

    era_same : (frame : ℕ) (e : Era M P T) (pick : Pick P) → RowIs is e.side.now → WishIs is pick.begin → era_next y acknowledged more passed frame e pick ≡ era_next z acknowledged more passed frame e pick
    era_same frame e pick row w =
        let p = granted e.passing pick in
        let wish = granted_is e.passing pick w in
        ap₂ (λ (d : Side M P T) (a : Account P T). let k : Era M P T = record { cleared = e.cleared; opened = e.opened; state = e.state; side = d; account = a; passing = passing_begins y acknowledged more passed e.passing e.account a p.begin } in k)
        (side_same frame e.side (mails_choice e.account p) row (wish_mails e.account.hand p.begin wish)) (account_same acknowledged frame e.side e.account e.account.hand p.begin row wish)
        ∙ ap (λ (k : Option Passing). let l : Era M P T = record { cleared = e.cleared; opened = e.opened; state = e.state; side = side_next z frame e.side (mails_choice e.account p); account = account_next z acknowledged frame e.side e.account p; passing = k } in l)
        (passing_same e.passing e.account (account_next z acknowledged frame e.side e.account p) p.begin)
      where
        passing_same : (passing : Option Passing) (old new : Account P T) (wish : Option (Service P)) → passing_begins y acknowledged more passed passing old new wish ≡ passing_begins z acknowledged more passed passing old new wish
        passing_same passing old new None = refl
        passing_same passing old new (Some (Service.Mails q)) = refl
        passing_same passing old new (Some (Service.State target)) = refl

    era_is : (frame : ℕ) (e : Era M P T) (pick : Pick P) → RowIs is e.side.now → WishIs is pick.begin → RowIs is (era_next z acknowledged more passed frame e pick).side.now
    era_is frame e pick row w = side_is frame e.side (mails_choice e.account (granted e.passing pick)) row (wish_mails e.account.hand (granted e.passing pick).begin (granted_is e.passing pick w))

    -- BEFORE A FRAME
    pub next_same : (frame : ℕ) (l : Life M P T) (stand : Stand) (pick : Pick P) → InHandIs is l → WishIs is pick.begin → life_next y acknowledged more passed frame l stand pick ≡ life_next z acknowledged more passed frame l stand pick
    next_same frame l (Stand.Opens o) pick row w = refl
    next_same frame l Stand.Open pick row w = ap (λ (e : Era M P T). record l { era = e }) (era_same frame l.era pick row w)
    next_same frame l Stand.Gone pick row w = refl

    pub next_is : (frame : ℕ) (l : Life M P T) (stand : Stand) (pick : Pick P) → InHandIs is l → WishIs is pick.begin → InHandIs is (life_next z acknowledged more passed frame l stand pick)
    next_is frame l (Stand.Opens o) pick row w = row
    next_is frame l Stand.Open pick row w = era_is frame l.era pick row w
    next_is frame l Stand.Gone pick row w = row

    passes_same : (passing : Option Passing) (ns : List (News M)) → passes y acknowledged more passed passing ns ≡ passes z acknowledged more passed passing ns
    passes_same None ns = refl
    passes_same (Some p) [] = refl
    passes_same (Some p) (n ∷ ns) = ap (λ (e : M → Bool). passes y acknowledged more passed (passing_after e more p n) ns) same.emission ∙ passes_same (passing_after z.emission more p n) ns

    hears_same : (frame : ℕ) (ms : List M) (now : Option (Row M P T)) → RowIs is now → option_map (λ r. row_heard y frame ms r) now ≡ option_map (λ r. row_heard z frame ms r) now
    hears_same frame ms None row = refl
    hears_same frame ms (Some r) row = ap (λ (k : Row M P T). Some k) (heard_same frame ms r row)

    hears_is : (frame : ℕ) (ms : List M) (now : Option (Row M P T)) → RowIs is now → RowIs is (option_map (λ r. row_heard z frame ms r) now)
    hears_is frame ms None row = tt
    hears_is frame ms (Some r) row = row

    back_era : (station frame : ℕ) (news : List (News M)) (back : List (Datagram M)) (e : Era M P T) → RowIs is e.side.now → era_back y acknowledged more passed station frame news back e ≡ era_back z acknowledged more passed station frame news back e
    back_era station frame news back e row =
        ap₂ (λ (now : Option (Row M P T)) (p : Option Passing). record (era_back z acknowledged more passed station frame news back e) { side = record (side_back z frame station (own station back) e.side) { now = now }; passing = p })
        (hears_same frame (all_accepted station e.side.halves (grams (own station back))) e.side.now row) (passes_same e.passing news)

    -- BEHIND ONE THAT CAME BACK
    pub back_same : (frame : ℕ) (spot : Spot) (news : List (News M)) (back : List (Datagram M)) (came : Option (Bool × Option Found)) (l : Life M P T) (stand : Stand) → InHandIs is l →
        life_back y acknowledged more passed frame spot news back came l stand ≡ life_back z acknowledged more passed frame spot news back came l stand
    back_same frame spot news back None l (Stand.Opens o) row = refl
    back_same frame spot news back (Some c) l (Stand.Opens o) row = refl
    back_same frame spot news back came l Stand.Open row = ap (λ (e : Era M P T). reopens (record l { era = e }) e.account.hand) (back_era spot.station frame news back l.era row)
    back_same frame spot news back came l Stand.Gone row = refl

    -- and behind a lost one
    pub lost_same : (spot : Spot) (news : List (News M)) (sent : List (Datagram M)) (l : Life M P T) (stand : Stand) → life_lost y acknowledged more passed spot news sent l stand ≡ life_lost z acknowledged more passed spot news sent l stand
    lost_same spot news sent l (Stand.Opens o) = refl
    lost_same spot news sent l Stand.Open = ap (λ (p : Option Passing). record l { era = record (era_lost z acknowledged more passed spot.station news sent l.era) { passing = p } }) (passes_same l.era.passing news)
    lost_same spot news sent l Stand.Gone = refl

    -- what is in hand stays one of these
    reopens_is : (l : Life M P T) (hand : Option Duty) → InHandIs is l → InHandIs is (reopens l hand)
    reopens_is l None row = row
    reopens_is l (Some duty) row = at_stage duty.stage
      where
        go : (b : Bool) → InHandIs is (if b then record l { stand = reopening (opens_state duty.target) true } else l)
        go true = row
        go false = row

        at_stage : (stage : Stage) → InHandIs is (reopens_at l duty.target stage)
        at_stage Stage.Drains = row
        at_stage (Stage.Goes phase) = go (returns_to_init duty.target)

    pub back_is : (frame : ℕ) (spot : Spot) (news : List (News M)) (back : List (Datagram M)) (came : Option (Bool × Option Found)) (l : Life M P T) (stand : Stand) → InHandIs is l → InHandIs is (life_back z acknowledged more passed frame spot news back came l stand)
    back_is frame spot news back None l (Stand.Opens o) row = row
    back_is frame spot news back (Some c) l (Stand.Opens o) row = go (shows_clear o) (o.step == last_step o) (c.0 && is_shown 1 c.1) (c.0 && is_shown o.state c.1)
      where
        go : (a b x w : Bool) → InHandIs is (if a then (if x then clears frame l o else l) else if b then (if w then opens frame l else l) else steps_on l o)
        go true b true w = tt
        go true b false w = row
        go false true x true = row
        go false true x false = row
        go false false x w = row
    back_is frame spot news back came l Stand.Open row =
        let e = era_back z acknowledged more passed spot.station frame news back l.era in
        reopens_is (record l { era = e }) e.account.hand (hears_is frame (all_accepted spot.station l.era.side.halves (grams (own spot.station back))) l.era.side.now row)
    back_is frame spot news back came l Stand.Gone row = row

    pub lost_is : (spot : Spot) (news : List (News M)) (sent : List (Datagram M)) (l : Life M P T) (stand : Stand) → InHandIs is l → InHandIs is (life_lost z acknowledged more passed spot news sent l stand)
    lost_is spot news sent l (Stand.Opens o) row = row
    lost_is spot news sent l Stand.Open row = row
    lost_is spot news sent l Stand.Gone row = row
