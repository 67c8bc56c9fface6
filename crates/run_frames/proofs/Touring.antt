-- The frames of a run are visits of one tour.
use Rattle.std.proofs.Common.{◌≡◌, ℕ, zero, suc, ◌<◌, ◌≤◌, ◌==◌, Bool, true, false, cond, Option, Some, None, List, [], ◌∷◌, length, filter, refl, sym, ap, ◌∙◌, subst, arith, if◌then◌else◌, eqb-true, eq-eqb}
use Rattle.std.specs.Prelude.{⊤, nat_lt}
use Rattle.std.proofs.lemmas.Bool.{leb-true, leb-false}
use Rattle.life_runs.specs.of_exchange_model.Exchange.{Speech}
use Rattle.life_runs.specs.of_segment_model.Slaves.{Datagram}
use Rattle.life_runs.specs.of_life_model.Lives.{Spot, Stand, life_lost}
use Rattle.run_frames.specs.Clocks.{Clocked, start_of}
use Rattle.run_frames.specs.Goes.{Under, IsUnder, AllUnder, NoneUnder, all_lost, lost_life}
use Rattle.run_frames.specs.Orders.{is_live, is_opening, live_at, under_at, is_in, places_from, live_round, AreFirst, IsRound, CarriesOne, opened_on}
use Rattle.run_frames.specs.Tours.{VisitOf, PlacesOf, again_behind, last_lost}
use Rattle.run_frames.proofs.Bringing.{FirstFrom}
use Rattle.run_frames.proofs.Access.{SameAccess, next_same}

-- ---- places and shares
shifted : (k n : ℕ) → (suc k == suc n) ≡ (k == n)
shifted k n = by (k == n) refl (suc k == suc n) refl
  where
    by : (b : Bool) → (k == n) ≡ b → (c : Bool) → (suc k == suc n) ≡ c → c ≡ b
    by true e true f = refl
    by false e false f = refl
    by true e false f = absurd (let same = eq-eqb (suc k) (suc n) (ap suc (eqb-true k n e)) in cc)
    by false e true f = absurd (let k' : suc k ≡ suc n = eqb-true (suc k) (suc n) f in let same = eq-eqb k n (omega (arith, k')) in cc)

no_zero : (k : ℕ) → (suc k == 0) ≡ false
no_zero k = by (suc k == 0) refl
  where
    by : (b : Bool) → (suc k == 0) ≡ b → b ≡ false
    by false e = refl
    by true e = absurd (let k' : suc k ≡ 0 = eqb-true (suc k) 0 e in omega (arith, k'))

no_suc : (n : ℕ) → (0 == suc n) ≡ false
no_suc n = by (0 == suc n) refl
  where
    by : (b : Bool) → (0 == suc n) ≡ b → b ≡ false
    by false e = refl
    by true e = absurd (let n' : 0 ≡ suc n = eqb-true 0 (suc n) e in omega (arith, n'))

-- the frame carries none of these
none_under : {M Q R : Type 0} (us : List (Under M Q R)) → ((k : ℕ) → k < length us → under_at us k ≡ false) → NoneUnder us
none_under [] f = tt
none_under (u ∷ us) f = (f 0 (omega arith), none_under us (λ k l. f (suc k) (omega (arith, l))))

-- and just one of these
one_under : {M Q R : Type 0} (n : ℕ) (us : List (Under M Q R)) → ((k : ℕ) → k < length us → under_at us k ≡ (k == n)) → CarriesOne n us
one_under n [] f = tt
one_under zero (u ∷ us) f = (f 0 (omega arith), none_under us (λ k l. f (suc k) (omega (arith, l)) ∙ no_zero k))
one_under (suc n) (u ∷ us) f = (f 0 (omega arith) ∙ no_suc n, one_under n us (λ k l. f (suc k) (omega (arith, l)) ∙ shifted k n))

in_one : (k n : ℕ) → is_in k (n ∷ []) ≡ (k == n)
in_one k n = by (k == n)
  where
    by : (b : Bool) → (if b then true else false) ≡ b
    by true = refl
    by false = refl

-- A VISIT of the first bring-up carries the slave that is brought up
pub carries : {M Q R : Type 0} (count opened : ℕ) (last : Option ℕ) (cs : List (Clocked M Q R)) (us : List (Under M Q R)) (ps : List ℕ) → length us ≡ count → opened < count → VisitOf (nat_lt opened count) count opened last cs ps → ((k : ℕ) → k < count → under_at us k ≡ is_in k ps) → CarriesOne opened us
carries count opened last cs us ps long under v share = by (nat_lt opened count) refl v
  where
    by : (b : Bool) → nat_lt opened count ≡ b → VisitOf b count opened last cs ps → CarriesOne opened us
    by false e w = absurd (let no' = leb-false (suc opened) count e in omega (arith, no', under))
    by true e w = one_under opened us (λ k l. share k (omega (arith, l, long)) ∙ ap (is_in k) w ∙ in_one k opened)

-- and one behind it the first of a round
pub rounds : {M Q R : Type 0} (count opened : ℕ) (last : Option ℕ) (cs : List (Clocked M Q R)) (us : List (Under M Q R)) (ps : List ℕ) → count ≤ opened → VisitOf (nat_lt opened count) count opened last cs ps → ((k : ℕ) → k < count → under_at us k ≡ is_in k ps) → IsRound count last cs us ps
rounds count opened last cs us ps over v share = by (nat_lt opened count) refl v
  where
    by : (b : Bool) → nat_lt opened count ≡ b → VisitOf b count opened last cs ps → IsRound count last cs us ps
    by true e w = absurd (let yes' = leb-true (suc opened) count e in omega (arith, yes', over))
    by false e w = record { first = w; under = share }

-- ---- a lost frame by which nobody is given up
filtered : (f g : ℕ → Bool) (xs : List ℕ) → ((k : ℕ) → f k ≡ g k) → filter f xs ≡ filter g xs
filtered f g [] e = refl
filtered f g (x ∷ xs) e = ap (λ b. cond b (x ∷ filter f xs) (filter f xs)) (e x) ∙ ap (λ z. cond (g x) (x ∷ z) z) (filtered f g xs e)

module _ {M Q R : Type 0} (x : Spot → Speech M Q R) (acknowledged : Q → Bool) (more : M → Bool) (passed : Q → Bool) (recover number : ℕ) (sent : List (Datagram M)) where
  abbrev lost_of : List (Clocked M Q R) → List (Under M Q R) → List (Clocked M Q R)
  lost_of as' us = all_lost x acknowledged more passed false recover number sent as' us

  one_stand : (a : Clocked M Q R) (u : Under M Q R) → IsUnder x acknowledged more passed number sent a u → (lost_life x acknowledged more passed false recover number sent a u).stand ≡ a.life.stand
  one_stand a u t = by u.life.stand refl ∙ (subst (λ z. SameAccess a.life z) (sym t.life) (next_same (x a.spot) acknowledged more passed number a.life a.life.stand t.pick)).stand
    where
      by : (s : Stand) → u.life.stand ≡ s → (life_lost (x a.spot) acknowledged more passed a.spot u.news sent u.life s).stand ≡ u.life.stand
      by (Stand.Opens o) e = refl
      by Stand.Open e = refl
      by Stand.Gone e = refl

  -- each stands as it did
  same_live : (as' : List (Clocked M Q R)) (us : List (Under M Q R)) → AllUnder x acknowledged more passed number sent as' us → (k : ℕ) → live_at (lost_of as' us) k ≡ live_at as' k
  same_live [] [] t k = refl
  same_live [] (u ∷ us) t k = absurd t
  same_live (a ∷ as') [] t k = absurd t
  same_live (a ∷ as') (u ∷ us) t zero = ap is_live (one_stand a u t.0)
  same_live (a ∷ as') (u ∷ us) t (suc k) = same_live as' us t.1 k

  same_opened : (n : ℕ) (as' : List (Clocked M Q R)) (us : List (Under M Q R)) → AllUnder x acknowledged more passed number sent as' us → opened_on n (lost_of as' us) ≡ opened_on n as'
  same_opened n [] [] t = refl
  same_opened n [] (u ∷ us) t = absurd t
  same_opened n (a ∷ as') [] t = absurd t
  same_opened zero (a ∷ as') (u ∷ us) t = ap (λ s. if is_opening s then 0 else 1) (one_stand a u t.0)
  same_opened (suc n) (a ∷ as') (u ∷ us) t = ap suc (same_opened n as' us t.1)

  pub same_round : (count : ℕ) (last : Option ℕ) (as' : List (Clocked M Q R)) (us : List (Under M Q R)) → AllUnder x acknowledged more passed number sent as' us → live_round count last (lost_of as' us) ≡ live_round count last as'
  same_round count last as' us t = filtered (live_at (lost_of as' us)) (live_at as') (places_from (start_of count last) count 0 count) (same_live as' us t)

  -- the tour stands where it did
  pub stays_opened : (n : ℕ) (as' : List (Clocked M Q R)) (us : List (Under M Q R)) → AllUnder x acknowledged more passed number sent as' us → opened_on n as' ≡ n → opened_on n (lost_of as' us) ≡ n
  stays_opened n as' us t e = same_opened n as' us t ∙ e

-- while the slave at a place is opened, as many have ended their first bring-up
pub first_stays : {M Q R : Type 0} (n : ℕ) (cs : List (Clocked M Q R)) → FirstFrom n cs → n < length cs → opened_on n cs ≡ n
first_stays n [] f l = absurd (omega (arith, l))
first_stays zero (c ∷ cs) f l = ap (λ (b : Bool). if b then 0 else 1) f.0
first_stays (suc n) (c ∷ cs) f l = ap suc (first_stays n cs f.1 (omega (arith, l)))

pub over_stays : {M Q R : Type 0} (n : ℕ) (cs : List (Clocked M Q R)) → length cs ≤ n → opened_on n cs ≡ n
over_stays n [] l = refl
over_stays zero (c ∷ cs) l = absurd (omega (arith, l))
over_stays (suc n) (c ∷ cs) l = ap suc (over_stays n cs (omega (arith, l)))

-- ---- the slaves that come again are those of a visit
abbrev pub AgainOf : {M Q R : Type 0} → Option (List ℕ) → ℕ → ℕ → Option ℕ → List (Clocked M Q R) → Type 0
AgainOf None count opened last cs = ⊤
AgainOf (Some same) count opened last cs = VisitOf (nat_lt opened count) count opened last cs same

pub visit_is : {M Q R : Type 0} (again : Option (List ℕ)) (count opened : ℕ) (last : Option ℕ) (cs : List (Clocked M Q R)) (ps : List ℕ) → AgainOf again count opened last cs → PlacesOf again count opened last cs ps → VisitOf (nat_lt opened count) count opened last cs ps
visit_is None count opened last cs ps a p = p
visit_is (Some same) count opened last cs ps a p = subst (VisitOf (nat_lt opened count) count opened last cs) (sym p) a

-- behind a lost frame too
visit_on : {M Q R : Type 0} (b : Bool) (count opened : ℕ) (last : Option ℕ) (cs bs : List (Clocked M Q R)) (ps : List ℕ) → live_round count last bs ≡ live_round count last cs → VisitOf b count opened last cs ps → VisitOf b count opened (last_lost b false last ps) bs ps
visit_on true count opened last cs bs ps same v = v
visit_on false count opened last cs bs ps same v = subst (AreFirst ps) (sym same) v

pub again_on : {M Q R : Type 0} (gives : Bool) (count opened : ℕ) (last : Option ℕ) (cs bs : List (Clocked M Q R)) (ps : List ℕ) → length bs ≡ count → (gives ≡ false → (opened_on opened bs ≡ opened) × (live_round count last bs ≡ live_round count last cs)) →
    VisitOf (nat_lt opened count) count opened last cs ps → AgainOf (again_behind gives ps) (length bs) (opened_on opened bs) (last_lost (nat_lt opened count) gives last ps) bs
again_on true count opened last cs bs ps long same v = tt
again_on false count opened last cs bs ps long same v =
    let s = same refl in
    let here = visit_on (nat_lt opened count) count opened last cs bs ps s.1 v in
    let wide = subst (λ n. VisitOf (nat_lt opened n) n opened (last_lost (nat_lt opened count) false last ps) bs ps) (sym long) here in
    subst (λ o. VisitOf (nat_lt o (length bs)) (length bs) o (last_lost (nat_lt opened count) false last ps) bs ps) (sym s.0) wide
