-- A LIFE STAYS IN ITS FIRST EPOCH by choices that return it nowhere and by frames, as long as it isn't given up.
use Rattle.std.proofs.Common.{◌≡◌, ℕ, suc, ◌<◌, ◌==◌, Bool, true, false, List, [], ◌∷◌, ◌++◌, refl, ap, sym, ◌∙◌, subst, arith}
use Rattle.std.specs.Prelude.{Option, Some, None, if◌then◌else◌, not, ◌&&◌}
use Rattle.slave_server.specs.of_exchange_model.Exchange.{Speech}
use Rattle.slave_server.specs.of_segment_model.Ends.{Passing}
use Rattle.slave_server.specs.of_segment_model.Record.{News, is_for}
use Rattle.slave_server.specs.of_segment_model.Seats.{Side}
use Rattle.slave_server.specs.of_segment_model.Slaves.{Datagram, Found}
use Rattle.slave_server.specs.of_state_model.Stated.{Service}
use Rattle.slave_server.specs.of_state_model.Accounts.{Pick, Duty, Account, Started, Stage, Progress, starts, is_free, is_acknowledged, state_begins, account_begins, account_met, account_by, account_back, access_done}
use Rattle.slave_server.specs.of_state_model.Promise.{services_in}
use Rattle.whole_ring.specs.of_life_model.Book.{NoInits}
use Rattle.whole_ring.specs.of_life_model.Lives.{Spot, Life, Era, Opening, Stand, granted, era_next, era_back, returns_to_init, reopens, reopens_at, reopening, opens_state, life_next, life_back, life_lost, opening_back, clears, opens, steps_on, shows_clear, last_step, is_shown, new_life}
use Rattle.whole_ring.specs.of_life_model.Own.{own}
use Rattle.whole_ring.specs.of_life_model.Chain.{AllBegin}
use Rattle.plan_ring.specs.Rows.{HandStays, WishStays, StandsFirst, IsFirst}

-- one row more
begins_more : {Q : Type 0} (opened : ℕ) (rs : List (Started Q)) (r : Started Q) → opened < r.frame → AllBegin opened rs → AllBegin opened (rs ++ r ∷ [])
begins_more opened [] r late all = (late, tt)
begins_more opened (q ∷ rs) r late all = (all.0, begins_more opened rs r late all.1)

none_more : {Q : Type 0} (ss : List (Service Q)) (s : Service Q) → NoInits ss → NoInits (s ∷ []) → NoInits (ss ++ s ∷ [])
none_more [] s all here = here
none_more (Service.Mails q ∷ ss) s all here = none_more ss s all here
none_more (Service.State target ∷ ss) s all here = (all.0, none_more ss s all.1 here)

services_more : {Q : Type 0} (rs : List (Started Q)) (r : Started Q) → services_in (rs ++ r ∷ []) ≡ services_in rs ++ r.service ∷ []
services_more [] r = refl
services_more (q ∷ rs) r = ap (λ l. q.service ∷ l) (services_more rs r)

quiet_more : {Q : Type 0} (rs : List (Started Q)) (r : Started Q) → NoInits (services_in rs) → NoInits (r.service ∷ []) → NoInits (services_in (rs ++ r ∷ []))
quiet_more rs r all here = subst NoInits (sym (services_more rs r)) (none_more (services_in rs) r.service all here)

wish_granted : {Q : Type 0} (passing : Option Passing) (pick : Pick Q) → WishStays pick.begin → WishStays (granted passing pick).begin
wish_granted None pick wish = wish
wish_granted (Some p) pick wish = tt

-- the account by a choice
record Grown {Q R : Type 0} (frame : ℕ) (a b : Account Q R) : Type 0 where
  quiet : NoInits (services_in b.started)
  hand : HandStays b.hand
  begins : (opened : ℕ) → opened < frame → AllBegin opened a.started → AllBegin opened b.started

same_account : {Q R : Type 0} (frame : ℕ) (a : Account Q R) → NoInits (services_in a.started) → HandStays a.hand → Grown frame a a
same_account frame a quiet hand = record { quiet = quiet; hand = hand; begins = λ opened less all. all }

grows : {M Q R : Type 0} (x : Speech M Q R) (acknowledged : Q → Bool) (frame : ℕ) (d : Side M Q R) (a : Account Q R) (hand : Option Duty) (wish : Option (Service Q)) → NoInits (services_in a.started) → HandStays a.hand → WishStays wish →
    Grown frame a (account_begins x acknowledged frame d a hand wish)
grows x acknowledged frame d a None None quiet k w = same_account frame a quiet k
grows x acknowledged frame d a (Some duty) None quiet k w = same_account frame a quiet k
grows x acknowledged frame d a (Some duty) (Some s) quiet k w = same_account frame a quiet k
grows {Q = Q} x acknowledged frame d a None (Some (Service.Mails q)) quiet k w = go (x.valid q && is_free x d d.now)
  where
    go : (b : Bool) → Grown frame a (if b then record a { started = starts a (Service.Mails q) frame } else a)
    go true = record { quiet = quiet_more a.started (record { service = Service.Mails q; frame = frame }) quiet tt; hand = k; begins = λ opened less all. begins_more opened a.started (record { service = Service.Mails q; frame = frame }) less all }
    go false = same_account frame a quiet k
grows {Q = Q} x acknowledged frame d a None (Some (Service.State target)) quiet k w = go (is_free x d d.now && is_acknowledged x acknowledged d d.now)
  where
    go : (b : Bool) → Grown frame a (if b then state_begins a target frame else a)
    go true = record {
      quiet = quiet_more a.started (let r : Started Q = record { service = Service.State target; frame = frame } in r) quiet (w, tt);
      hand = w;
      begins = λ opened less all. begins_more opened a.started (let r : Started Q = record { service = Service.State target; frame = frame } in r) less all;
    }
    go false = same_account frame a quiet k

-- and by what came back
module _ {Q R : Type 0} where
  by : (frame : ℕ) (a : Account Q R) (duty : Duty) (p : Progress R) → returns_to_init duty.target ≡ false → HandStays (account_by frame a duty p).hand × ((account_by frame a duty p).started ≡ a.started)
  by frame a duty (Progress.On stage) k = (k, refl)
  by frame a duty (Progress.Over answer) k = (tt, refl)

module _ {M Q R : Type 0} where
  met : (station frame : ℕ) (a : Account Q R) (hand : Option Duty) (d : Datagram M) → HandStays a.hand → HandStays hand → HandStays (account_met station frame a hand d).hand × ((account_met station frame a hand d).started ≡ a.started)
  met station frame a None d k h = (k, refl)
  met station frame a (Some duty) d k h = go (is_for station d.address && not (d.counter == 0))
    where
      go : (b : Bool) → HandStays (if b then account_by frame a duty (access_done duty.target duty.stage d.access d.found) else a).hand × ((if b then account_by frame a duty (access_done duty.target duty.stage d.access d.found) else a).started ≡ a.started)
      go true = by frame a duty (access_done duty.target duty.stage d.access d.found) h
      go false = (k, refl)

  back : (station frame : ℕ) (ds : List (Datagram M)) (a : Account Q R) → HandStays a.hand → HandStays (account_back station frame a ds).hand × ((account_back station frame a ds).started ≡ a.started)
  back station frame [] a k = (k, refl)
  back station frame (d ∷ ds) a k =
      let one = met station frame a a.hand d k k in
      let rest = back station frame ds (account_met station frame a a.hand d) one.0 in
      (rest.0, rest.1 ∙ one.1)

  -- no reopening begins
  stays_open : (l : Life M Q R) (hand : Option Duty) → HandStays hand → reopens l hand ≡ l
  stays_open l None k = refl
  stays_open l (Some duty) k = at_stage duty.stage
    where
      at_stage : (stage : Stage) → reopens_at l duty.target stage ≡ l
      at_stage Stage.Drains = refl
      at_stage (Stage.Goes phase) = ap (λ (b : Bool). if b then record l { stand = reopening (opens_state duty.target) true } else l) k

  -- a bring-up goes on, or ends
  opening_first : (frame : ℕ) (l : Life M Q R) (o : Opening) (done : Bool) (found : Option Found) → IsFirst frame l → l.stand ≡ Stand.Opens o → o.again ≡ false → l.era.account.started ≡ [] → IsFirst (suc frame) (opening_back frame l o done found)
  opening_first frame l o done found is stand again none = at_clear (shows_clear o) (ap (λ (b : Bool). b && o.step == 2) again)
    where
      stays : IsFirst (suc frame) l
      stays = record { past = is.past; cleared = is.cleared; gave = is.gave; quiet = is.quiet; hand = is.hand; stands = subst (λ (st : Stand). StandsFirst (suc frame) l st) (sym stand) (again, none) }

      go : (b d : Bool) → IsFirst (suc frame) (if b then (if d then opens frame l else l) else steps_on l o)
      go true true = record {
        past = is.past;
        cleared = is.cleared;
        gave = is.gave;
        quiet = is.quiet;
        hand = is.hand;
        stands = (frame, refl, omega arith, subst (λ rs. AllBegin frame rs) (sym none) tt);
      }
      go true false = stays
      go false d = record { past = is.past; cleared = is.cleared; gave = is.gave; quiet = is.quiet; hand = is.hand; stands = (again, none) }

      at_clear : (b : Bool) → b ≡ false → IsFirst (suc frame) (if b then (if done && is_shown 1 found then clears frame l o else l) else if o.step == last_step o then (if done && is_shown o.state found then opens frame l else l) else steps_on l o)
      at_clear true e = absurd (cc)
      at_clear false e = go (o.step == last_step o) (done && is_shown o.state found)

-- a later number
later : {M Q R : Type 0} (made : ℕ) (l : Life M Q R) (stand : Stand) → StandsFirst made l stand → StandsFirst (suc made) l stand
later made l (Stand.Opens o) k = k
later made l Stand.Open k = (k.0, k.1, (let less = k.2 in omega (arith, less)), k.3)
later made l Stand.Gone k = k

module _ {M Q R : Type 0} (x : Speech M Q R) (acknowledged : Q → Bool) (more : M → Bool) (passed : Q → Bool) (made : ℕ) (spot : Spot) (news : List (News M)) (pick : Pick Q) (wish : WishStays pick.begin) (l : Life M Q R) (is : IsFirst made l) where
  grown : (e : Era M Q R) → e ≡ l.era → Grown made e.account (era_next x acknowledged more passed made e pick).account
  grown e same = grows x acknowledged made e.side e.account e.account.hand (granted e.passing pick).begin (subst (λ (k : Era M Q R). NoInits (services_in k.account.started)) (sym same) is.quiet)
      (subst (λ (k : Era M Q R). HandStays k.account.hand) (sym same) is.hand) (wish_granted e.passing pick wish)

  open_as : (l.stand ≡ Stand.Open) → StandsFirst made l Stand.Open
  open_as e = subst (λ (st : Stand). StandsFirst made l st) e is.stands

  -- BEHIND A FRAME THAT CAME BACK
  pub back_first : (back_ : List (Datagram M)) (came : Option (Bool × Option Found)) (stand : Stand) → l.stand ≡ stand →
      IsFirst (suc made) (life_back x acknowledged more passed made spot news back_ came (life_next x acknowledged more passed made l stand pick) stand)
  back_first back_ None (Stand.Opens o) e = record { past = is.past; cleared = is.cleared; gave = is.gave; quiet = is.quiet; hand = is.hand; stands = later made l l.stand is.stands }
  back_first back_ (Some c) (Stand.Opens o) e = let k = subst (λ (st : Stand). StandsFirst made l st) e is.stands in opening_first made l o c.0 c.1 is e k.0 k.1
  back_first back_ came Stand.Open e =
      let g = grown l.era refl in
      let a = era_next x acknowledged more passed made l.era pick in
      let b = back spot.station made (own spot.station back_) a.account g.hand in
      let k = open_as e in
      let f = era_back x acknowledged more passed spot.station made news back_ a in
      let opened : StandsFirst (suc made) (record l { era = f }) Stand.Open =
      (k.0, k.1, (let less = k.2 in omega (arith, less)), subst (λ rs. AllBegin k.0 rs) (sym b.1) (g.begins k.0 k.2 k.3)) in
      subst (IsFirst (suc made)) (sym (stays_open (record l { era = f }) f.account.hand b.0)) (record {
        past = is.past;
        cleared = is.cleared;
        gave = is.gave;
        quiet = subst (λ rs. NoInits (services_in rs)) (sym b.1) g.quiet;
        hand = b.0;
        stands = subst (λ (st : Stand). StandsFirst (suc made) (record l { era = f }) st) (sym e) opened;
      })
  back_first back_ came Stand.Gone e = absurd (subst (λ (st : Stand). StandsFirst made l st) e is.stands)

  -- and behind a lost one by which it isn't given up
  pub lost_first : (sent : List (Datagram M)) (stand : Stand) → l.stand ≡ stand → IsFirst (suc made) (life_lost x acknowledged more passed spot news sent (life_next x acknowledged more passed made l stand pick) stand)
  lost_first sent (Stand.Opens o) e = record { past = is.past; cleared = is.cleared; gave = is.gave; quiet = is.quiet; hand = is.hand; stands = later made l l.stand is.stands }
  lost_first sent Stand.Open e =
      let g = grown l.era refl in
      let k = open_as e in
      record {
        past = is.past;
        cleared = is.cleared;
        gave = is.gave;
        quiet = g.quiet;
        hand = g.hand;
        stands = subst (λ (st : Stand). StandsFirst (suc made) (life_lost x acknowledged more passed spot news sent (life_next x acknowledged more passed made l Stand.Open pick) Stand.Open) st) (sym e)
            (k.0, k.1, (let less = k.2 in omega (arith, less)), g.begins k.0 k.2 k.3);
      }
  lost_first sent Stand.Gone e = absurd (subst (λ (st : Stand). StandsFirst made l st) e is.stands)

-- SWITCHED ON
pub new_first : {M Q R : Type 0} (state : ℕ) → IsFirst 0 (new_life {M = M} {Q = Q} {R = R} state)
new_first state = record { past = refl; cleared = refl; gave = refl; quiet = tt; hand = tt; stands = (refl, refl) }
