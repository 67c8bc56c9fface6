-- A slave and a lost frame.
use Rattle.std.proofs.Common.{◌≡◌, ℕ, suc, ◌<◌, ◌≤◌, ◌&&◌, Bool, true, false, List, [], ◌∷◌, map, refl, sym, subst, arith, inl, inr}
use Rattle.life_runs.specs.of_exchange_model.Exchange.{Speech}
use Rattle.life_runs.specs.of_segment_model.Slaves.{Datagram}
use Rattle.life_runs.specs.of_life_model.Lives.{Life, Spot, life_lost}
use Rattle.life_runs.specs.of_life_model.Deadlines.{IsTimed}
use Rattle.life_runs.specs.of_life_model.Repairs.{way_of, StandsAt}
use Rattle.run_frames.specs.Clocks.{Clocked, standing, alone}
use Rattle.run_frames.specs.Goes.{Under, IsUnder, AllUnder, IsClocked, HandAt, AllClocked, NoneUnder, OneUnder, clocked_behind, is_same, given_if, lost_life, all_lost}
use Rattle.run_frames.specs.Losses.{Stays, Loses, AllStay, OneLoses}
use Rattle.run_frames.proofs.Access.{SameAccess, same_way, same_before, is_same_way, next_same, next_stands, lost_access, passed_access, lost_stands, gives_up_breaks, gives_up_stands}
use Rattle.run_frames.proofs.Same.{GainsBefore, GainsLost, one_gains, next_hand, lost_hand, gives_up_hand}
use Rattle.run_frames.proofs.Clocking.{clock_some, clock_most, ticks_on, stepped_stays}

-- each slave's standing is timed
pub timed : {M Q R : Type 0} (slaves slowest before number : ℕ) (c : Clocked M Q R) → IsClocked slowest c → before < slaves → IsTimed slaves slowest (standing slaves slowest before number c)
timed slaves slowest before number c k less = record {
  ahead = less;
  clock = omega (arith, clock_most c.pace number, k.most);
  some = clock_some c.pace number k.some;
}

-- behind a frame that leaves the access in hand
pub stays_on : {M Q R : Type 0} (slaves slowest before behind number : ℕ) (a : Clocked M Q R) (l : Life M Q R) → IsClocked slowest a → SameAccess a.life l → behind ≤ before →
    Stays (standing slaves slowest before number a) (standing slaves slowest behind (suc number) (clocked_behind number a l))
stays_on slaves slowest before behind number a l k same near =
    let is = is_same_way (way_of 1 1 a.life) (way_of 1 1 l) (same_way 1 1 a.life l same) in
    record {
      way = same_way slaves slowest a.life l same;
      stepped = λ s. stepped_stays a.pace number (is_same (way_of 1 1 a.life) (way_of 1 1 l)) a.stepped is s;
      ahead = near;
      ticks = ticks_on a.pace number (is_same (way_of 1 1 a.life) (way_of 1 1 l)) a.stepped k.some;
    }

module _ {M Q R : Type 0} (before : GainsBefore M Q R) (lost : GainsLost M Q R) (x : Spot → Speech M Q R) (acknowledged : Q → Bool) (more : M → Bool) (passed : Q → Bool) (gives : Bool) (recover number : ℕ) (sent : List (Datagram M)) where
  abbrev Turn : Clocked M Q R → Under M Q R → Type 0
  Turn a u = IsUnder x acknowledged more passed number sent a u

  abbrev behind : Clocked M Q R → Under M Q R → Life M Q R
  behind a u = lost_life x acknowledged more passed gives recover number sent a u

  before_same : (a : Clocked M Q R) (u : Under M Q R) → Turn a u → SameAccess a.life u.life
  before_same a u t = subst (λ z. SameAccess a.life z) (sym t.life) (next_same (x a.spot) acknowledged more passed number a.life a.life.stand t.pick)

  before_stands : (slowest : ℕ) (a : Clocked M Q R) (u : Under M Q R) → IsClocked slowest a → Turn a u → StandsAt u.life u.life.stand
  before_stands slowest a u k t = subst (λ z. StandsAt z z.stand) (sym t.life) (next_stands (x a.spot) acknowledged more passed number a.life a.life.stand t.pick refl k.stands)

  before_hand : (slowest : ℕ) (a : Clocked M Q R) (u : Under M Q R) → IsClocked slowest a → Turn a u → HandAt u.life u.life.stand
  before_hand slowest a u k t = subst (λ z. HandAt z z.stand) (sym t.life) (next_hand (x a.spot) acknowledged more passed number a.life a.life.stand t.pick refl k.hand)

  -- what stands behind it
  pub lost_clocked : (slowest : ℕ) (a : Clocked M Q R) (u : Under M Q R) → IsClocked slowest a → Turn a u → IsClocked slowest (clocked_behind number a (behind a u))
  lost_clocked slowest a u k t = record {
    stands = go (gives && u.under);
    hand = hands (gives && u.under);
    gained = subst (λ z. 1 ≤ z) (sym (one_gains before lost x acknowledged more passed gives recover number sent a u t)) k.gained;
    some = k.some;
    most = k.most;
  }
    where
      l : Life M Q R
      l = life_lost (x a.spot) acknowledged more passed a.spot u.news sent u.life u.life.stand

      go : (b : Bool) → (let m = given_if b recover a.spot number l in StandsAt m m.stand)
      go true = gives_up_stands recover number a.spot l
      go false = lost_stands (x a.spot) acknowledged more passed a.spot u.news sent u.life u.life.stand refl (before_stands slowest a u k t)

      hands : (b : Bool) → (let m = given_if b recover a.spot number l in HandAt m m.stand)
      hands true = gives_up_hand recover number a.spot l
      hands false = lost_hand (x a.spot) acknowledged more passed a.spot u.news sent u.life u.life.stand refl (before_hand slowest a u k t)

  -- ONE THAT ISN'T CARRIED keeps its access
  pub passed_same : (a : Clocked M Q R) (u : Under M Q R) → Turn a u → u.under ≡ false → SameAccess a.life (behind a u)
  passed_same a u t out = go (gives && u.under) (off gives u.under out)
    where
      off : (g b : Bool) → b ≡ false → (g && b) ≡ false
      off true b e = e
      off false b e = refl

      go : (b : Bool) → b ≡ false → SameAccess a.life (given_if b recover a.spot number (life_lost (x a.spot) acknowledged more passed a.spot u.news sent u.life u.life.stand))
      go true e = absurd (cc)
      go false e = same_before a.life u.life _ (before_same a u t) (passed_access (x a.spot) acknowledged more passed a.spot u.news sent u.life u.life.stand (t.none out))

  -- ANY: it keeps its access, or loses no more than a reopening takes
  pub lost_one : (slowest : ℕ) (a : Clocked M Q R) (u : Under M Q R) → IsClocked slowest a → Turn a u → Loses 1 slowest (alone slowest number a) (alone slowest (suc number) (clocked_behind number a (behind a u)))
  lost_one slowest a u k t = go (gives && u.under)
    where
      l : Life M Q R
      l = life_lost (x a.spot) acknowledged more passed a.spot u.news sent u.life u.life.stand

      go : (b : Bool) → Loses 1 slowest (alone slowest number a) (alone slowest (suc number) (clocked_behind number a (given_if b recover a.spot number l)))
      go true = Loses.breaks ((gives_up_breaks recover number a.spot l).whole 1 slowest)
      go false = elim (lost_access (x a.spot) acknowledged more passed a.spot u.news sent u.life u.life.stand refl) [
        | inl same ↦ Loses.stays (stays_on 1 slowest 0 0 number a l k (same_before a.life u.life l (before_same a u t) same) (omega arith))
        | inr broke ↦ Loses.breaks (broke.whole 1 slowest)
      ]

  -- ONE BY ONE
  none_loses : (slowest : ℕ) (as' : List (Clocked M Q R)) (us : List (Under M Q R)) → AllClocked slowest as' → AllUnder x acknowledged more passed number sent as' us → NoneUnder us →
      AllStay slowest (map (alone slowest number) as') (map (alone slowest (suc number)) (all_lost x acknowledged more passed gives recover number sent as' us))
  none_loses slowest [] [] k t n = tt
  none_loses slowest [] (u ∷ us) k t n = absurd t
  none_loses slowest (a ∷ as') [] k t n = absurd t
  none_loses slowest (a ∷ as') (u ∷ us) k t n = (
    (
      timed 1 slowest 0 number a k.0 (omega arith),
      timed 1 slowest 0 (suc number) (clocked_behind number a (behind a u)) (lost_clocked slowest a u k.0 t.0) (omega arith),
      stays_on 1 slowest 0 0 number a (behind a u) k.0 (passed_same a u t.0 n.0) (omega arith),
    ),
    none_loses slowest as' us k.1 t.1 n.1,
  )

  pub one_by_one_loses : (slowest : ℕ) (as' : List (Clocked M Q R)) (us : List (Under M Q R)) → AllClocked slowest as' → AllUnder x acknowledged more passed number sent as' us → OneUnder us →
      OneLoses slowest (map (alone slowest number) as') (map (alone slowest (suc number)) (all_lost x acknowledged more passed gives recover number sent as' us))
  one_by_one_loses slowest as' us k t (OneUnder.none vs n) = OneLoses.none (map (alone slowest number) as') (map (alone slowest (suc number)) (all_lost x acknowledged more passed gives recover number sent as' vs)) (none_loses slowest as' vs k t n)
  one_by_one_loses slowest [] us k t (OneUnder.here u vs n) = absurd t
  one_by_one_loses slowest [] us k t (OneUnder.there u vs out n) = absurd t
  one_by_one_loses slowest (a ∷ as') us k t (OneUnder.here u vs n) =
      OneLoses.here (alone slowest number a) (alone slowest (suc number) (clocked_behind number a (behind a u))) (map (alone slowest number) as') (map (alone slowest (suc number)) (all_lost x acknowledged more passed gives recover number sent as' vs))
      (timed 1 slowest 0 number a k.0 (omega arith)) (timed 1 slowest 0 (suc number) (clocked_behind number a (behind a u)) (lost_clocked slowest a u k.0 t.0) (omega arith))
      (lost_one slowest a u k.0 t.0) (none_loses slowest as' vs k.1 t.1 n)
  one_by_one_loses slowest (a ∷ as') us k t (OneUnder.there u vs out n) =
      OneLoses.there (alone slowest number a) (alone slowest (suc number) (clocked_behind number a (behind a u))) (map (alone slowest number) as') (map (alone slowest (suc number)) (all_lost x acknowledged more passed gives recover number sent as' vs))
      (timed 1 slowest 0 number a k.0 (omega arith)) (timed 1 slowest 0 (suc number) (clocked_behind number a (behind a u)) (lost_clocked slowest a u k.0 t.0) (omega arith))
      (stays_on 1 slowest 0 0 number a (behind a u) k.0 (passed_same a u t.0 out) (omega arith)) (one_by_one_loses slowest as' vs k.1 t.1 n)
