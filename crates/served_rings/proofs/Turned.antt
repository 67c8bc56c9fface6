-- WHAT A TURN MAKES OF AN EPOCH'S ROWS: the newest goes on, or a service by mails comes into hand behind it.
use Rattle.std.proofs.Common.{◌≡◌, ◌⊎◌, inl, inr, ℕ, suc, ◌+◌, ◌&&◌, Bool, true, false, Option, Some, None, option_map, List, [], ◌∷◌, ◌++◌, refl, ap, sym, ◌∙◌, subst, append-nil, arith, if◌then◌else◌}
use Rattle.std.specs.Prelude.{⊤}
use Rattle.served_places.specs.of_exchange_model.Exchange.{Speech}
use Rattle.served_places.specs.of_exchange_model.Rows.{Row, begun, row_heard, row_told}
use Rattle.served_places.proofs.of_exchange_model.Lists.{cut}
use Rattle.served_places.specs.of_life_model.Lives.{Era, era_after, era_next, granted}
use Rattle.served_places.specs.of_life_model.Own.{own}
use Rattle.served_places.specs.of_link_model.Frames.{all_accepted}
use Rattle.served_places.specs.of_link_model.Segment.{RingFate}
use Rattle.served_places.specs.of_segment_model.Ends.{Passing}
use Rattle.served_places.specs.of_segment_model.Record.{News}
use Rattle.served_places.specs.of_segment_model.Seats.{Side, is_over, newest, next_mail, rows_of, side_back, side_begins, side_holds, side_lost, side_next}
use Rattle.served_places.specs.of_segment_model.Slaves.{Datagram, grams}
use Rattle.served_places.specs.of_state_model.Stated.{Service}
use Rattle.served_places.specs.of_state_model.Accounts.{Account, Duty, Pick, Started, account_begins, account_next, is_acknowledged, is_free, mails_begin, mails_choice, starts, state_begins}
use Rattle.served_places.specs.of_state_model.Promise.{mails_in, services_in}
use Rattle.served_places.proofs.of_state_model.Completed.{started_back}

-- a service by mails that came into hand
abbrev pub by_mails : {Q : Type 0} → Q → ℕ → Started Q
by_mails q frame = record { service = Service.Mails q; frame = frame }

-- among these there is one
some_mail : {Q : Type 0} (before states : List (Started Q)) (q : Q) (f : ℕ) → mails_in (services_in (before ++ by_mails q f ∷ states)) ≡ 0 → ⊥
some_mail [] states q f e = absurd (let no : suc (mails_in (services_in states)) ≡ 0 = e in cc)
some_mail {Q} (s ∷ before) states q f e = go s.service e (some_mail before states q f)
  where
    go : (z : Service Q) → mails_in (z ∷ services_in (before ++ by_mails q f ∷ states)) ≡ 0 → (mails_in (services_in (before ++ by_mails q f ∷ states)) ≡ 0 → ⊥) → ⊥
    go (Service.Mails k) e rest = absurd (let no : suc (mails_in (services_in (before ++ by_mails q f ∷ states))) ≡ 0 = e in cc)
    go (Service.State target) e rest = rest e

-- how many are among these
pub mails_both : {Q : Type 0} (xs ys : List (Started Q)) → mails_in (services_in (xs ++ ys)) ≡ mails_in (services_in xs) + mails_in (services_in ys)
mails_both [] ys = omega arith
mails_both {Q} (s ∷ xs) ys = go s.service (mails_both xs ys)
  where
    go : (z : Service Q) → mails_in (services_in (xs ++ ys)) ≡ mails_in (services_in xs) + mails_in (services_in ys) → mails_in (z ∷ services_in (xs ++ ys)) ≡ mails_in (z ∷ services_in xs) + mails_in (services_in ys)
    go (Service.Mails q) rest = omega (arith, rest)
    go (Service.State target) rest = rest

pub none_front : {Q : Type 0} (xs ys : List (Started Q)) → mails_in (services_in (xs ++ ys)) ≡ 0 → mails_in (services_in xs) ≡ 0
none_front xs ys none = let e = mails_both xs ys in omega (arith, e, none)

pub none_behind : {Q : Type 0} (xs : List (Started Q)) (target frame : ℕ) → mails_in (services_in xs) ≡ 0 → mails_in (services_in (xs ++ record { service = Service.State target; frame = frame } ∷ [])) ≡ 0
none_behind xs target frame none = let e = mails_both xs (record { service = Service.State target; frame = frame } ∷ []) in omega (arith, e, none)

none_is : {X : Type 0} (xs ys : List X) (x : X) → [] ≡ xs ++ x ∷ ys → ⊥
none_is [] ys x e = let no : [] ≡ x ∷ ys = e in cc
none_is (z ∷ xs) ys x e = let no : [] ≡ z ∷ (xs ++ x ∷ ys) = e in cc

-- where state services alone came behind, the last that came by mails stays that
pub goes_split : {Q : Type 0} (xs added before states : List (Started Q)) (q : Q) (f : ℕ) → xs ++ added ≡ before ++ by_mails q f ∷ states → mails_in (services_in added) ≡ 0 → (rest : List (Started Q)) × (xs ≡ before ++ by_mails q f ∷ rest) × (states ≡ rest ++ added)
goes_split {Q} xs added before states q f e none = elim (cut xs added before (by_mails q f ∷ states) e) [
  | inl c ↦ absurd (some_mail c.0 states q f (ap (λ l. mails_in (services_in l)) (sym c.2) ∙ none))
  | inr c ↦ go c.0 c.1 c.2
]
  where
    go : (k : List (Started Q)) → xs ≡ before ++ k → by_mails q f ∷ states ≡ k ++ added → (rest : List (Started Q)) × (xs ≡ before ++ by_mails q f ∷ rest) × (states ≡ rest ++ added)
    go [] is same = absurd (some_mail [] states q f (ap (λ l. mails_in (services_in l)) same ∙ none))
    go (z ∷ k) is same =
        let head : z ≡ by_mails q f = cc in
        let tail : states ≡ k ++ added = cc in
        (k, is ∙ ap (λ y. before ++ y ∷ k) head, tail)

-- and where one did by mails, it is the last
pub comes_split : {Q : Type 0} (xs before states : List (Started Q)) (p : Q) (k : ℕ) (q : Q) (f : ℕ) → xs ++ by_mails p k ∷ [] ≡ before ++ by_mails q f ∷ states → mails_in (services_in states) ≡ 0 → (xs ≡ before) × (by_mails p k ≡ by_mails q f) × (states ≡ [])
comes_split {Q} xs before states p k q f e none = elim (cut xs (by_mails p k ∷ []) before (by_mails q f ∷ states) e) [ inl c ↦ shorter c.0 c.1 c.2 | inr c ↦ longer c.0 c.1 c.2 ]
  where
    shorter : (l : List (Started Q)) → before ≡ xs ++ l → by_mails p k ∷ [] ≡ l ++ by_mails q f ∷ states → (xs ≡ before) × (by_mails p k ≡ by_mails q f) × (states ≡ [])
    shorter [] is same = (sym (is ∙ append-nil xs), (let head : by_mails p k ≡ by_mails q f = cc in head), (let tail : states ≡ [] = cc in tail))
    shorter (z ∷ l) is same = absurd (none_is l states (by_mails q f) (let tail : [] ≡ l ++ by_mails q f ∷ states = cc in tail))

    longer : (l : List (Started Q)) → xs ≡ before ++ l → by_mails q f ∷ states ≡ l ++ by_mails p k ∷ [] → (xs ≡ before) × (by_mails p k ≡ by_mails q f) × (states ≡ [])
    longer [] is same = (is ∙ append-nil before, (let head : by_mails p k ≡ by_mails q f = cc in head), (let tail : states ≡ [] = cc in tail))
    longer (z ∷ l) is same = absurd (some_mail l [] p k (ap (λ y. mails_in (services_in y)) (let tail : l ++ by_mails p k ∷ [] ≡ states = cc in tail) ∙ none))

-- a row that goes on is of the same service, came into hand before the same frame, and hears these mails more
pub record Goes {M Q R : Type 0} (ms : List M) (r s : Row M Q R) : Type 0 where
  pub service : s.service ≡ r.service
  pub frame : s.frame ≡ r.frame
  pub heard : s.heard ≡ r.heard ++ ms

-- so the newest, where there is one
abbrev pub NowGoes : {M Q R : Type 0} → List M → Option (Row M Q R) → Option (Row M Q R) → Type 0
NowGoes ms None None = ⊤
NowGoes ms None (Some s) = ⊥
NowGoes ms (Some r) None = ⊥
NowGoes ms (Some r) (Some s) = Goes ms r s

-- THE NEWEST ROW GOES ON, and state services at most came into hand
pub record GoesOn {M Q R : Type 0} (ms : List M) (a : List (Started Q)) (d : Side M Q R) (b : List (Started Q)) (s : Side M Q R) : Type 0 where
  pub added : List (Started Q)
  pub states : mails_in (services_in added) ≡ 0
  pub started : b ≡ a ++ added
  pub past : s.past ≡ d.past
  pub now : NowGoes ms d.now s.now

-- A SERVICE BY MAILS COMES INTO HAND, by a wish, where the mail before is over
pub record Comes {M Q R : Type 0} (passing : Option Passing) (wish : Option (Service Q)) (a : List (Started Q)) (d : Side M Q R) (b : List (Started Q)) (s : Side M Q R) : Type 0 where
  pub service : Q
  pub frame : ℕ
  pub started : b ≡ a ++ by_mails service frame ∷ []
  pub past : s.past ≡ rows_of d
  pub row : Row M Q R
  pub now : s.now ≡ Some row
  pub is : row.service ≡ service
  pub free : passing ≡ None
  pub wished : wish ≡ Some (Service.Mails service)

-- either
abbrev pub Turned : {M Q R : Type 0} → List M → Option Passing → Option (Service Q) → List (Started Q) → Side M Q R → List (Started Q) → Side M Q R → Type 0
Turned ms passing wish a d b s = GoesOn ms a d b s ⊎ Comes passing wish a d b s

module _ {M Q R : Type 0} where
  itself : (now : Option (Row M Q R)) → NowGoes [] now now
  itself None = tt
  itself (Some r) = record { service = refl; frame = refl; heard = sym (append-nil r.heard) }

  goes_mapped : (f : Row M Q R → Row M Q R) (ms : List M) → ((r : Row M Q R) → Goes ms r (f r)) → (n k : Option (Row M Q R)) → NowGoes [] n k → NowGoes ms n (option_map f k)
  goes_mapped f ms keeps None None g = tt
  goes_mapped f ms keeps None (Some s) g = absurd g
  goes_mapped f ms keeps (Some r) None g = absurd g
  goes_mapped f ms keeps (Some r) (Some s) g = let k = keeps s in record { service = k.service ∙ g.service; frame = k.frame ∙ g.frame; heard = k.heard ∙ ap (λ l. l ++ ms) (g.heard ∙ append-nil r.heard) }

  -- a side with the same rows but for what is told or heard in the newest
  mapped : (f : Row M Q R → Row M Q R) (ms : List M) → ((r : Row M Q R) → Goes ms r (f r)) → (passing : Option Passing) (wish : Option (Service Q)) (a : List (Started Q)) (d : Side M Q R) (b : List (Started Q)) (s t : Side M Q R) → t.past ≡ s.past → t.now ≡ option_map f s.now →
      Turned [] passing wish a d b s → Turned ms passing wish a d b t
  mapped f ms keeps passing wish a d b s t past now (inl g) = inl (record { added = g.added; states = g.states; started = g.started; past = past ∙ g.past; now = subst (NowGoes ms d.now) (sym now) (goes_mapped f ms keeps d.now s.now g.now) })
  mapped f ms keeps passing wish a d b s t past now (inr c) = inr (record {
    service = c.service;
    frame = c.frame;
    started = c.started;
    past = past ∙ c.past;
    row = f c.row;
    now = now ∙ ap (option_map f) c.now;
    is = (keeps c.row).service ∙ c.is;
    free = c.free;
    wished = c.wished;
  })

  unmapped : (passing : Option Passing) (wish : Option (Service Q)) (a : List (Started Q)) (d : Side M Q R) (b : List (Started Q)) (s t : Side M Q R) → t.past ≡ s.past → t.now ≡ s.now → Turned [] passing wish a d b s → Turned [] passing wish a d b t
  unmapped passing wish a d b s t past now (inl g) = inl (record { added = g.added; states = g.states; started = g.started; past = past ∙ g.past; now = subst (NowGoes [] d.now) (sym now) g.now })
  unmapped passing wish a d b s t past now (inr c) = inr (record { service = c.service; frame = c.frame; started = c.started; past = past ∙ c.past; row = c.row; now = now ∙ c.now; is = c.is; free = c.free; wished = c.wished })

  held : (passing : Option Passing) (wish : Option (Service Q)) (a : List (Started Q)) (d : Side M Q R) (b : List (Started Q)) (s : Side M Q R) (ms : List M) → Turned [] passing wish a d b s → Turned [] passing wish a d b (side_holds s ms)
  held passing wish a d b s [] k = k
  held passing wish a d b s (m ∷ ms) k = mapped (λ r. row_told m r) [] (λ r. record { service = refl; frame = refl; heard = sym (append-nil r.heard) }) passing wish a d b s (side_holds s (m ∷ ms)) refl refl k

  module _ (x : Speech M Q R) (acknowledged : Q → Bool) (frame : ℕ) (d : Side M Q R) (a : Account Q R) where
    goes_same : GoesOn [] a.started d a.started d
    goes_same = record { added = []; states = refl; started = sym (append-nil a.started); past = refl; now = itself d.now }

    nothing : (now : Option (Row M Q R)) → side_begins x frame d now None ≡ d
    nothing None = refl
    nothing (Some r) = refl

    quiet : (passing : Option Passing) (wish : Option (Service Q)) → Turned [] passing wish a.started d a.started (side_begins x frame d d.now None)
    quiet passing wish = subst (λ s. Turned [] passing wish a.started d a.started s) (sym (nothing d.now)) (inl goes_same)

    by_state : (target : ℕ) (b : Bool) → Turned [] None (Some (Service.State target)) a.started d (if b then state_begins a target frame else a).started (side_begins x frame d d.now None)
    by_state target true = subst (λ s. Turned [] None (Some (Service.State target)) a.started d (starts a (Service.State target) frame) s) (sym (nothing d.now))
        (inl (record { added = record { service = Service.State target; frame = frame } ∷ []; states = refl; started = refl; past = refl; now = itself d.now }))
    by_state target false = quiet None (Some (Service.State target))

    mails_come : (q : Q) (now : Option (Row M Q R)) → d.now ≡ now →
        Turned [] None (Some (Service.Mails q)) a.started d (if x.valid q && is_free x d now then record a { started = starts a (Service.Mails q) frame } else a).started (side_begins x frame d now (Some q))
    mails_come q None e = go (x.valid q)
      where
        go : (b : Bool) → Turned [] None (Some (Service.Mails q)) a.started d (if b && true then record a { started = starts a (Service.Mails q) frame } else a).started (if b then record d { now = Some (begun q frame) } else d)
        go true = inr (record { service = q; frame = frame; started = refl; past = sym (append-nil d.past) ∙ ap (λ n. d.past ++ newest n) (sym e); row = begun q frame; now = refl; is = refl; free = refl; wished = refl })
        go false = inl goes_same
    mails_come q (Some r) e = go (x.valid q && is_over x d.halves.out.holding d.fresh r)
      where
        go : (b : Bool) → Turned [] None (Some (Service.Mails q)) a.started d (if b then record a { started = starts a (Service.Mails q) frame } else a).started (if b then record d { past = d.past ++ r ∷ []; now = Some (begun q frame) } else d)
        go true = inr (record { service = q; frame = frame; started = refl; past = ap (λ n. d.past ++ newest n) (sym e); row = begun q frame; now = refl; is = refl; free = refl; wished = refl })
        go false = inl goes_same

    begins : (hand : Option Duty) (b : Option (Service Q)) → Turned [] None b a.started d (account_begins x acknowledged frame d a hand b).started (side_begins x frame d d.now (mails_begin hand b))
    begins None None = quiet None None
    begins (Some duty) None = quiet None None
    begins (Some duty) (Some wish) = quiet None (Some wish)
    begins None (Some (Service.Mails q)) = mails_come q d.now refl
    begins None (Some (Service.State target)) = by_state target (is_free x d d.now && is_acknowledged x acknowledged d d.now)

    none_begins : (p : Passing) (hand : Option Duty) → Turned [] (Some p) None a.started d (account_begins x acknowledged frame d a hand None).started (side_begins x frame d d.now (mails_begin {Q = Q} hand None))
    none_begins p None = quiet (Some p) None
    none_begins p (Some duty) = quiet (Some p) None

    -- before the frame
    next : (passing : Option Passing) (pick : Pick Q) → Turned [] passing (granted passing pick).begin a.started d (account_next x acknowledged frame d a (granted passing pick)).started (side_next x frame d (mails_choice a (granted passing pick)))
    next None pick =
        let s = side_begins x frame d d.now (mails_begin a.hand pick.begin) in
        held None pick.begin a.started d (account_begins x acknowledged frame d a a.hand pick.begin).started s (next_mail x s.now s.halves.out.holding pick.hold) (begins a.hand pick.begin)
    next (Some p) pick =
        let s = side_begins x frame d d.now (mails_begin {Q = Q} a.hand None) in
        held (Some p) None a.started d (account_begins x acknowledged frame d a a.hand None).started s (next_mail x s.now s.halves.out.holding pick.hold) (none_begins p a.hand)

  -- the mails that the side accepts of a frame of this fate
  abbrev pub accepted_of : ℕ → RingFate → List (Datagram M) → Side M Q R → List M
  accepted_of station RingFate.Back back d = all_accepted station d.halves (grams (own station back))
  accepted_of station (RingFate.Lost after) back d = []

  -- BEHIND IT
  pub turned : (x : Speech M Q R) (acknowledged : Q → Bool) (more : M → Bool) (passed : Q → Bool) (station frame : ℕ) (news : List (News M)) (sent : List (Datagram M)) (fate : RingFate) (back : List (Datagram M)) (e : Era M Q R) (pick : Pick Q) →
      (let n = era_next x acknowledged more passed frame e pick in let u = era_after x acknowledged more passed station frame news sent fate back n in
      Turned (accepted_of station fate back n.side) e.passing (granted e.passing pick).begin e.account.started e.side u.account.started u.side)
  turned x acknowledged more passed station frame news sent RingFate.Back back e pick =
      let n = era_next x acknowledged more passed frame e pick in
      let ms = all_accepted station n.side.halves (grams (own station back)) in
      let wish = (granted e.passing pick).begin in
      subst (λ b. Turned ms e.passing wish e.account.started e.side b (side_back x frame station (own station back) n.side)) (sym (started_back station frame n.account (own station back)))
      (mapped (λ r. row_heard x frame ms r) ms (λ r. record { service = refl; frame = refl; heard = refl }) e.passing wish e.account.started e.side n.account.started n.side (side_back x frame station (own station back) n.side) refl refl (next x acknowledged frame e.side e.account e.passing pick))
  turned x acknowledged more passed station frame news sent (RingFate.Lost after) back e pick =
      let n = era_next x acknowledged more passed frame e pick in
      unmapped e.passing (granted e.passing pick).begin e.account.started e.side n.account.started n.side (side_lost station (own station sent) n.side) refl refl (next x acknowledged frame e.side e.account e.passing pick)
