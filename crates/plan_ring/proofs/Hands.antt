-- No open slave has a state service in hand that reopens it.
use Rattle.std.proofs.Common.{◌≡◌, ◌≤◌, ℕ, zero, suc, ◌==◌, Bool, true, false, Option, Some, None, List, [], ◌∷◌, length, refl, sym, ap, ◌∙◌, subst, arith, if◌then◌else◌}
use Rattle.std.specs.Prelude.{◌&&◌, nat_lt}
use Rattle.std.proofs.lemmas.Bool.{eqb-true}
use Rattle.slave_server.specs.of_exchange_model.Exchange.{Speech}
use Rattle.whole_ring.specs.of_life_model.Lives.{Life, Opening, Spot, Stand, life_next, life_back, life_lost, era_back, opening_back, steps_on, clears, opens, shows_clear, last_step, is_shown, reopens, reopens_at, reopening, opens_state, returns_to_init, gives_up, granted}
use Rattle.run_frames.specs.Clocks.{Clocked, duty_reopens, goes_to_init}
use Rattle.run_frames.specs.Goes.{Under, HandAt, IsUnder, AllUnder, given_if, all_back, all_lost}
use Rattle.slave_server.specs.of_segment_model.Record.{News}
use Rattle.slave_server.specs.of_segment_model.Slaves.{Datagram, Found}
use Rattle.slave_server.specs.of_state_model.Stated.{Service}
use Rattle.slave_server.specs.of_state_model.Accounts.{Duty, Stage, Pick, account_begins, starts, state_begins, is_free, is_acknowledged}
use Rattle.plan_ring.specs.Hands.{AllHand}

module _ {M Q R : Type 0} (x : Speech M Q R) (acknowledged : Q → Bool) (more : M → Bool) (passed : Q → Bool) (frame : ℕ) where
  -- what comes into hand drains
  begins : (l : Life M Q R) (hand : Option Duty) (wish : Option (Service Q)) → l.era.account.hand ≡ hand → duty_reopens l.era.account.hand ≡ 0 → duty_reopens (account_begins x acknowledged frame l.era.side l.era.account hand wish).hand ≡ 0
  begins l None None e k = k
  begins l (Some duty) None e k = k
  begins l (Some duty) (Some wish) e k = k
  begins l None (Some (Service.Mails q)) e k = go (x.valid q && is_free x l.era.side l.era.side.now)
    where
      go : (b : Bool) → duty_reopens (if b then record l.era.account { started = starts l.era.account (Service.Mails q) frame } else l.era.account).hand ≡ 0
      go true = k
      go false = k
  begins l None (Some (Service.State target)) e k = go (is_free x l.era.side l.era.side.now && is_acknowledged x acknowledged l.era.side l.era.side.now)
    where
      go : (b : Bool) → duty_reopens (if b then state_begins l.era.account target frame else l.era.account).hand ≡ 0
      go true = refl
      go false = k

  next_hand : (l : Life M Q R) (pick : Pick Q) (s : Stand) → HandAt l s → HandAt (life_next x acknowledged more passed frame l s pick) s
  next_hand l pick (Stand.Opens o) k = k
  next_hand l pick Stand.Open k = begins l l.era.account.hand (granted l.era.passing pick).begin refl k
  next_hand l pick Stand.Gone k = tt

  stand_next : (l : Life M Q R) (pick : Pick Q) (s : Stand) → (life_next x acknowledged more passed frame l s pick).stand ≡ l.stand
  stand_next l pick (Stand.Opens o) = refl
  stand_next l pick Stand.Open = refl
  stand_next l pick Stand.Gone = refl

  pub hand_next : (l : Life M Q R) (pick : Pick Q) → HandAt l l.stand → (let k = life_next x acknowledged more passed frame l l.stand pick in HandAt k k.stand)
  hand_next l pick k = subst (λ s. HandAt (life_next x acknowledged more passed frame l l.stand pick) s) (sym (stand_next l pick l.stand)) (next_hand l pick l.stand k)

  -- an opening
  third : (step : ℕ) → 3 ≤ suc step → (step == 2) ≡ false → 3 ≤ step
  third zero le e = absurd (omega (arith, le))
  third (suc zero) le e = absurd (omega (arith, le))
  third (suc (suc zero)) le e = absurd (cc)
  third (suc (suc (suc n))) le e = omega arith

  last : (step : ℕ) (b : Bool) → (step == (if b then 9 else 5)) ≡ true → 3 ≤ step
  last step true e = let is = eqb-true step 9 e in omega (arith, is)
  last step false e = let is = eqb-true step 5 e in omega (arith, is)

  Behind : Life M Q R → Type 0
  Behind k = HandAt k k.stand

  opening_hand : (l : Life M Q R) (o : Opening) (done : Bool) (found : Option Found) → l.stand ≡ Stand.Opens o → HandAt l (Stand.Opens o) → (let k = opening_back frame l o done found in HandAt k k.stand)
  opening_hand l o done found stand k = by (shows_clear o) refl
    where
      here : HandAt l l.stand
      here = subst (λ s. HandAt l s) (sym stand) k

      cleared : (b : Bool) → (let j = (if b then clears frame l o else l) in HandAt j j.stand)
      cleared true = λ again. refl
      cleared false = here

      opened : (b : Bool) → (o.step == last_step o) ≡ true → (let j = (if b then opens frame l else l) in HandAt j j.stand)
      opened true e = k (λ again. last o.step o.again e)
      opened false e = here

      other : (b : Bool) → shows_clear o ≡ false → (o.step == last_step o) ≡ b → (let j = (if b then (if done && is_shown o.state found then opens frame l else l) else steps_on l o) in HandAt j j.stand)
      other true isnt e = opened (done && is_shown o.state found) e
      other false isnt e = λ more_on. k (λ again. third o.step (more_on again) (sym (ap (λ b. b && (o.step == 2)) again) ∙ isnt))

      by : (b : Bool) → shows_clear o ≡ b →
          (let j = (if b then (if done && is_shown 1 found then clears frame l o else l) else if o.step == last_step o then (if done && is_shown o.state found then opens frame l else l) else steps_on l o) in HandAt j j.stand)
      by true e = cleared (done && is_shown 1 found)
      by false e = other (o.step == last_step o) e refl

  -- an open slave
  reopens_hand : (l : Life M Q R) (hand : Option Duty) → l.stand ≡ Stand.Open → l.era.account.hand ≡ hand → (let k = reopens l hand in HandAt k k.stand)
  reopens_hand l None stand e = subst (λ s. HandAt l s) (sym stand) (ap duty_reopens e)
  reopens_hand l (Some duty) stand e = go duty.stage refl
    where
      at : (b : Bool) → (stage_is : goes_to_init duty.target duty.stage ≡ (if b then 1 else 0)) → (let k = (if b then record l { stand = reopening (opens_state duty.target) true } else l) in HandAt k k.stand)
      at true is = λ far. absurd (let no : 3 ≤ 1 = far refl in omega (arith, no))
      at false is = subst (λ s. HandAt l s) (sym stand) (ap duty_reopens e ∙ is)

      go : (stage : Stage) → duty.stage ≡ stage → (let k = reopens_at l duty.target stage in HandAt k k.stand)
      go Stage.Drains is = subst (λ s. HandAt l s) (sym stand) (ap duty_reopens e ∙ ap (goes_to_init duty.target) is)
      go (Stage.Goes phase) is = at (returns_to_init duty.target) (ap (goes_to_init duty.target) is)

  pub hand_back : (spot : Spot) (news : List (News M)) (back : List (Datagram M)) (came : Option (Bool × Option Found)) (l : Life M Q R) → HandAt l l.stand → (let k = life_back x acknowledged more passed frame spot news back came l l.stand in HandAt k k.stand)
  hand_back spot news back came l k = go l.stand refl came k
    where
      go : (s : Stand) → l.stand ≡ s → (c : Option (Bool × Option Found)) → HandAt l s → (let j = life_back x acknowledged more passed frame spot news back c l s in HandAt j j.stand)
      go (Stand.Opens o) e None k = subst (λ s. HandAt l s) (sym e) k
      go (Stand.Opens o) e (Some c) k = opening_hand l o c.0 c.1 e k
      go Stand.Open e c k = let era = era_back x acknowledged more passed spot.station frame news back l.era in reopens_hand (record l { era = era }) era.account.hand e refl
      go Stand.Gone e c k = subst (λ s. HandAt l s) (sym e) tt

  pub hand_lost : (spot : Spot) (news : List (News M)) (sent : List (Datagram M)) (l : Life M Q R) → HandAt l l.stand → (let k = life_lost x acknowledged more passed spot news sent l l.stand in HandAt k k.stand)
  hand_lost spot news sent l k = go l.stand refl k
    where
      go : (s : Stand) → l.stand ≡ s → HandAt l s → (let j = life_lost x acknowledged more passed spot news sent l s in HandAt j j.stand)
      go (Stand.Opens o) e k = subst (λ s. HandAt l s) (sym e) k
      go Stand.Open e k = subst (λ s. HandAt (life_lost x acknowledged more passed spot news sent l Stand.Open) s) (sym e) k
      go Stand.Gone e k = subst (λ s. HandAt l s) (sym e) tt

pub hand_given : {M Q R : Type 0} (gives : Bool) (recover : ℕ) (spot : Spot) (number : ℕ) (l : Life M Q R) → HandAt l l.stand → (let k = given_if gives recover spot number l in HandAt k k.stand)
hand_given false recover spot number l k = k
hand_given true recover spot number l k = go (nat_lt (length l.gave) recover)
  where
    go : (b : Bool) → HandAt (gives_up recover spot number l) (if b then reopening spot.start false else Stand.Gone)
    go true = λ far. absurd (let no : 3 ≤ 1 = far refl in omega (arith, no))
    go false = tt

module _ {M Q R : Type 0} (x : Spot → Speech M Q R) (acknowledged : Q → Bool) (more : M → Bool) (passed : Q → Bool) (number : ℕ) (sent : List (Datagram M)) where
  before : (c : Clocked M Q R) (u : Under M Q R) → IsUnder x acknowledged more passed number sent c u → HandAt c.life c.life.stand → HandAt u.life u.life.stand
  before c u i k = subst (λ (l : Life M Q R). HandAt l l.stand) (sym i.life) (hand_next (x c.spot) acknowledged more passed number c.life i.pick k)

  pub hands_back : (back : List (Datagram M)) (cs : List (Clocked M Q R)) (us : List (Under M Q R)) → AllUnder x acknowledged more passed number sent cs us → AllHand cs → AllHand (all_back x acknowledged more passed number back cs us)
  hands_back back [] [] t k = tt
  hands_back back [] (u ∷ us) t k = absurd t
  hands_back back (c ∷ cs) [] t k = absurd t
  hands_back back (c ∷ cs) (u ∷ us) t k = (hand_back (x c.spot) acknowledged more passed number c.spot u.news back u.came u.life (before c u t.0 k.0), hands_back back cs us t.1 k.1)

  pub hands_lost : (gives : Bool) (recover : ℕ) (cs : List (Clocked M Q R)) (us : List (Under M Q R)) → AllUnder x acknowledged more passed number sent cs us → AllHand cs → AllHand (all_lost x acknowledged more passed gives recover number sent cs us)
  hands_lost gives recover [] [] t k = tt
  hands_lost gives recover [] (u ∷ us) t k = absurd t
  hands_lost gives recover (c ∷ cs) [] t k = absurd t
  hands_lost gives recover (c ∷ cs) (u ∷ us) t k = (
    hand_given (gives && u.under) recover c.spot number _ (hand_lost (x c.spot) acknowledged more passed number c.spot u.news sent u.life (before c u t.0 k.0)),
    hands_lost gives recover cs us t.1 k.1,
  )
