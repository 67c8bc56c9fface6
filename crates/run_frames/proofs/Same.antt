-- What a lost frame leaves: the gains of a life, and how often state services began to reopen its slave.
use Rattle.std.proofs.Common.{◌≡◌, ℕ, suc, ◌+◌, ◌*◌, ◌&&◌, Bool, true, false, Option, Some, None, List, [], ◌∷◌, ◌++◌, length, map, refl, sym, ap, ◌∙◌, subst, arith, if◌then◌else◌}
use Rattle.std.specs.Prelude.{◌≤◌, nat_lt}
use Rattle.life_runs.specs.of_exchange_model.Exchange.{Speech}
use Rattle.life_runs.specs.of_segment_model.Record.{News}
use Rattle.life_runs.specs.of_segment_model.Seats.{Side}
use Rattle.life_runs.specs.of_segment_model.Slaves.{Datagram}
use Rattle.life_runs.specs.of_state_model.Stated.{Service}
use Rattle.life_runs.specs.of_state_model.Accounts.{Account, Duty, Pick, account_begins, state_begins, starts, is_free, is_acknowledged}
use Rattle.life_runs.specs.of_life_model.Lives.{Stand, Life, Spot, life_next, life_lost, gives_up, granted, new_life, reopening}
use Rattle.life_runs.specs.of_life_model.Deadlines.{deadline}
use Rattle.life_runs.specs.of_life_model.Gains.{gains}
use Rattle.run_frames.specs.Begins.{AllNew}
use Rattle.run_frames.specs.Clocks.{Clocked, alone, one_by_one, duty_reopens, reopened, gains_all, reopened_all}
use Rattle.run_frames.specs.Goes.{Under, IsUnder, AllUnder, HandAt, given_if, lost_life, all_lost}

-- a service that comes into hand drains, or changes nothing
begins_hand : {M Q R : Type 0} (x : Speech M Q R) (acknowledged : Q → Bool) (frame : ℕ) (d : Side M Q R) (a : Account Q R) (hand : Option Duty) (begin : Option (Service Q)) → a.hand ≡ hand → duty_reopens (account_begins x acknowledged frame d a hand begin).hand ≡ duty_reopens a.hand
begins_hand x acknowledged frame d a hand None e = refl
begins_hand x acknowledged frame d a (Some duty) (Some wish) e = refl
begins_hand x acknowledged frame d a None (Some (Service.Mails q)) e = go (x.valid q && is_free x d d.now)
  where
    go : (b : Bool) → duty_reopens (if b then record a { started = starts a (Service.Mails q) frame } else a).hand ≡ duty_reopens a.hand
    go true = refl
    go false = refl
begins_hand x acknowledged frame d a None (Some (Service.State target)) e = go (is_free x d d.now && is_acknowledged x acknowledged d d.now)
  where
    go : (b : Bool) → duty_reopens (if b then state_begins a target frame else a).hand ≡ duty_reopens a.hand
    go true = sym (ap duty_reopens e)
    go false = refl

pub next_reopened : {M Q R : Type 0} (x : Speech M Q R) (acknowledged : Q → Bool) (more : M → Bool) (passed : Q → Bool) (frame : ℕ) (l : Life M Q R) (stand : Stand) (pick : Pick Q) → reopened (life_next x acknowledged more passed frame l stand pick) ≡ reopened l
next_reopened x acknowledged more passed frame l (Stand.Opens o) pick = refl
next_reopened x acknowledged more passed frame l Stand.Gone pick = refl
next_reopened x acknowledged more passed frame l Stand.Open pick = omega (arith, begins_hand x acknowledged frame l.era.side l.era.account l.era.account.hand (granted l.era.passing pick).begin refl)

lost_reopened : {M Q R : Type 0} (x : Speech M Q R) (acknowledged : Q → Bool) (more : M → Bool) (passed : Q → Bool) (spot : Spot) (news : List (News M)) (sent : List (Datagram M)) (l : Life M Q R) (stand : Stand) → reopened (life_lost x acknowledged more passed spot news sent l stand) ≡ reopened l
lost_reopened x acknowledged more passed spot news sent l (Stand.Opens o) = refl
lost_reopened x acknowledged more passed spot news sent l Stand.Open = refl
lost_reopened x acknowledged more passed spot news sent l Stand.Gone = refl

-- no state service in hand has begun to reopen a slave that is open
hand_open : {M Q R : Type 0} (m : Life M Q R) (stand : Stand) → m.stand ≡ stand → stand ≡ Stand.Open → duty_reopens m.era.account.hand ≡ 0 → HandAt m m.stand
hand_open m stand e f none = subst (HandAt m) (sym (e ∙ f)) none

pub next_hand : {M Q R : Type 0} (x : Speech M Q R) (acknowledged : Q → Bool) (more : M → Bool) (passed : Q → Bool) (frame : ℕ) (l : Life M Q R) (stand : Stand) (pick : Pick Q) → l.stand ≡ stand → HandAt l l.stand →
    (let m = life_next x acknowledged more passed frame l stand pick in HandAt m m.stand)
next_hand x acknowledged more passed frame l (Stand.Opens o) pick e s = s
next_hand x acknowledged more passed frame l Stand.Gone pick e s = s
next_hand x acknowledged more passed frame l Stand.Open pick e s =
    hand_open (life_next x acknowledged more passed frame l Stand.Open pick) l.stand refl e (begins_hand x acknowledged frame l.era.side l.era.account l.era.account.hand (granted l.era.passing pick).begin refl ∙ subst (HandAt l) e s)

pub lost_hand : {M Q R : Type 0} (x : Speech M Q R) (acknowledged : Q → Bool) (more : M → Bool) (passed : Q → Bool) (spot : Spot) (news : List (News M)) (sent : List (Datagram M)) (l : Life M Q R) (stand : Stand) → l.stand ≡ stand → HandAt l l.stand →
    (let m = life_lost x acknowledged more passed spot news sent l stand in HandAt m m.stand)
lost_hand x acknowledged more passed spot news sent l (Stand.Opens o) e s = s
lost_hand x acknowledged more passed spot news sent l Stand.Gone e s = s
lost_hand x acknowledged more passed spot news sent l Stand.Open e s = hand_open (life_lost x acknowledged more passed spot news sent l Stand.Open) l.stand refl e (subst (HandAt l) e s)

pub gives_up_hand : {M Q R : Type 0} (recover frame : ℕ) (spot : Spot) (l : Life M Q R) → (let m = gives_up recover spot frame l in HandAt m m.stand)
gives_up_hand {M} {Q} {R} recover frame spot l = go (nat_lt (length l.gave) recover)
  where
    go : (b : Bool) → (let m : Life M Q R = record l { stand = if b then reopening spot.start false else Stand.Gone; gave = l.gave ++ frame ∷ [] } in HandAt m m.stand)
    go true = λ e. absurd (let less : 3 ≤ 1 = e refl in omega (arith, less))
    go false = tt

-- what the law of gains says of these
abbrev pub GainsBefore : (M Q R : Type 0) → Type 0
GainsBefore M Q R = (x : Speech M Q R) (acknowledged : Q → Bool) (more : M → Bool) (passed : Q → Bool) (frame : ℕ) (l : Life M Q R) (pick : Pick Q) → gains (life_next x acknowledged more passed frame l l.stand pick) ≡ gains l

abbrev pub GainsLost : (M Q R : Type 0) → Type 0
GainsLost M Q R = (x : Speech M Q R) (acknowledged : Q → Bool) (more : M → Bool) (passed : Q → Bool) (spot : Spot) (news : List (News M)) (sent : List (Datagram M)) (l : Life M Q R) → gains (life_lost x acknowledged more passed spot news sent l l.stand) ≡ gains l

module _ {M Q R : Type 0} (before : GainsBefore M Q R) (lost : GainsLost M Q R) (x : Spot → Speech M Q R) (acknowledged : Q → Bool) (more : M → Bool) (passed : Q → Bool) (gives : Bool) (recover number : ℕ) (sent : List (Datagram M)) where
  -- ONE SLAVE
  pub one_gains : (a : Clocked M Q R) (u : Under M Q R) → IsUnder x acknowledged more passed number sent a u → gains (lost_life x acknowledged more passed gives recover number sent a u) ≡ gains a.life
  one_gains a u t = go (gives && u.under) ∙ lost (x a.spot) acknowledged more passed a.spot u.news sent u.life ∙ ap gains t.life ∙ before (x a.spot) acknowledged more passed number a.life t.pick
    where
      l : Life M Q R
      l = life_lost (x a.spot) acknowledged more passed a.spot u.news sent u.life u.life.stand

      go : (b : Bool) → gains (given_if b recover a.spot number l) ≡ gains l
      go true = refl
      go false = refl

  pub one_reopened : (a : Clocked M Q R) (u : Under M Q R) → IsUnder x acknowledged more passed number sent a u → reopened (lost_life x acknowledged more passed gives recover number sent a u) ≡ reopened a.life
  one_reopened a u t = go (gives && u.under) ∙ lost_reopened (x a.spot) acknowledged more passed a.spot u.news sent u.life u.life.stand ∙ ap reopened t.life ∙ next_reopened (x a.spot) acknowledged more passed number a.life a.life.stand t.pick
    where
      l : Life M Q R
      l = life_lost (x a.spot) acknowledged more passed a.spot u.news sent u.life u.life.stand

      go : (b : Bool) → reopened (given_if b recover a.spot number l) ≡ reopened l
      go true = refl
      go false = refl

  -- ALL
  pub all_gains_lost : (as' : List (Clocked M Q R)) (us : List (Under M Q R)) → AllUnder x acknowledged more passed number sent as' us → gains_all (all_lost x acknowledged more passed gives recover number sent as' us) ≡ gains_all as'
  all_gains_lost [] [] t = refl
  all_gains_lost [] (u ∷ us) t = absurd t
  all_gains_lost (a ∷ as') [] t = absurd t
  all_gains_lost (a ∷ as') (u ∷ us) t = omega (arith, one_gains a u t.0, all_gains_lost as' us t.1)

  pub all_reopened_lost : (as' : List (Clocked M Q R)) (us : List (Under M Q R)) → AllUnder x acknowledged more passed number sent as' us → reopened_all (all_lost x acknowledged more passed gives recover number sent as' us) ≡ reopened_all as'
  all_reopened_lost [] [] t = refl
  all_reopened_lost [] (u ∷ us) t = absurd t
  all_reopened_lost (a ∷ as') [] t = absurd t
  all_reopened_lost (a ∷ as') (u ∷ us) t = omega (arith, one_reopened a u t.0, all_reopened_lost as' us t.1)

  pub as_many_lost : (as' : List (Clocked M Q R)) (us : List (Under M Q R)) → AllUnder x acknowledged more passed number sent as' us → length (all_lost x acknowledged more passed gives recover number sent as' us) ≡ length as'
  as_many_lost [] [] t = refl
  as_many_lost [] (u ∷ us) t = absurd t
  as_many_lost (a ∷ as') [] t = absurd t
  as_many_lost (a ∷ as') (u ∷ us) t = ap suc (as_many_lost as' us t.1)

-- BEFORE THE FIRST FRAME
one_new : {M Q R : Type 0} (slowest : ℕ) (c : Clocked M Q R) → c.life ≡ new_life c.spot.start → deadline 1 (alone slowest 0 c) ≡ 5 + slowest
one_new {M} {Q} {R} slowest c e = ap (λ z. deadline 1 (alone slowest 0 (record c { life = z }))) e ∙ at
  where
    at : deadline 1 (alone slowest 0 (record c { life = new_life {M = M} {Q = Q} {R = R} c.spot.start })) ≡ 5 + slowest
    at = omega arith

pub all_new : {M Q R : Type 0} (slowest : ℕ) (cs : List (Clocked M Q R)) → AllNew cs → one_by_one (map (alone slowest 0) cs) ≡ length cs * (5 + slowest)
all_new slowest [] n = omega arith
all_new slowest (c ∷ cs) n = omega (arith, one_new slowest c n.0, all_new slowest cs n.1)

pub new_gains : {M Q R : Type 0} (cs : List (Clocked M Q R)) → AllNew cs → gains_all cs ≡ length cs
new_gains [] n = refl
new_gains (c ∷ cs) n = omega (arith, ap gains n.0, new_gains cs n.1)

pub new_reopened : {M Q R : Type 0} (cs : List (Clocked M Q R)) → AllNew cs → reopened_all cs ≡ 0
new_reopened [] n = refl
new_reopened (c ∷ cs) n = omega (arith, ap reopened n.0, new_reopened cs n.1)
