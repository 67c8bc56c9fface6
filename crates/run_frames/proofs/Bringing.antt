-- The slaves of the first bring-up: those that have ended theirs have nothing to repair, all others are being opened.
use Rattle.std.proofs.Common.{◌≡◌, ◌⊎◌, ℕ, zero, suc, ◌<◌, ◌≤◌, ◌&&◌, Bool, true, false, None, List, [], ◌∷◌, ◌++◌, length, refl, sym, ap, ◌∙◌, subst, arith, if◌then◌else◌, inl, inr}
use Rattle.std.specs.Prelude.{⊤, nat_lt}
use Rattle.life_runs.specs.of_exchange_model.Exchange.{Speech}
use Rattle.life_runs.specs.of_segment_model.Slaves.{Datagram}
use Rattle.life_runs.specs.of_life_model.Lives.{Life, Spot, Stand, Opening, life_lost, reopening}
use Rattle.life_runs.specs.of_life_model.Repairs.{way_of}
use Rattle.run_frames.specs.Begins.{AllNew}
use Rattle.run_frames.specs.Brings.{Brings, AllBring}
use Rattle.run_frames.specs.Clocks.{Clocked}
use Rattle.run_frames.specs.Goes.{Under, IsUnder, AllUnder, IsClocked, AllClocked, NoneUnder, OneUnder, given_if, lost_life, back_life, all_lost, all_back}
use Rattle.run_frames.specs.Orders.{is_opening, CarriesOne, IsOpening, opened_on, AllRepaired}
use Rattle.run_frames.proofs.Access.{SameAccess, same_way, next_same}
use Rattle.run_frames.proofs.Lost.{passed_same}
use Rattle.run_frames.proofs.Meeting.{passed_back, opened_back}
use Rattle.run_frames.proofs.Returning.{Known}
use Rattle.run_frames.proofs.Same.{GainsBefore, GainsLost}

-- they are all being opened
abbrev pub AllOpens : {M Q R : Type 0} → List (Clocked M Q R) → Type 0
AllOpens [] = ⊤
AllOpens (c ∷ cs) = (is_opening c.life.stand ≡ true) × AllOpens cs

-- but for the first ones, of which nothing is to be repaired
abbrev pub FirstFrom : {M Q R : Type 0} → ℕ → List (Clocked M Q R) → Type 0
FirstFrom zero cs = AllOpens cs
FirstFrom (suc n) [] = ⊤
FirstFrom (suc n) (c ∷ cs) = (way_of 1 1 c.life ≡ None) × FirstFrom n cs

pub new_opens : {M Q R : Type 0} (cs : List (Clocked M Q R)) → AllNew cs → AllOpens cs
new_opens [] n = tt
new_opens (c ∷ cs) n = (ap (λ l. is_opening l.stand) n.0, new_opens cs n.1)

pub opened_more : {M Q R : Type 0} (n : ℕ) (cs : List (Clocked M Q R)) → n ≤ opened_on n cs
opened_more n [] = omega arith
opened_more zero (c ∷ cs) = omega arith
opened_more (suc n) (c ∷ cs) = omega (arith, opened_more n cs)

pub all_ended : {M Q R : Type 0} (n : ℕ) (cs : List (Clocked M Q R)) → FirstFrom n cs → length cs ≤ n → AllRepaired cs
all_ended zero [] f l = tt
all_ended zero (c ∷ cs) f l = absurd (omega (arith, l))
all_ended (suc n) [] f l = tt
all_ended (suc n) (c ∷ cs) f l = (f.0, all_ended n cs f.1 (omega (arith, l)))

pub carries_one : {M Q R : Type 0} (n : ℕ) (us : List (Under M Q R)) → CarriesOne n us → OneUnder us
carries_one n [] c = OneUnder.none [] tt
carries_one zero (u ∷ us) c = OneUnder.here u us c.1
carries_one (suc n) (u ∷ us) c = OneUnder.there u us c.0 (carries_one n us c.1)

-- an opening is by its stand
opens_of : (s : Stand) → is_opening s ≡ true → (o : Opening) × (s ≡ Stand.Opens o)
opens_of (Stand.Opens o) e = (o, refl)
opens_of Stand.Open e = absurd (cc)
opens_of Stand.Gone e = absurd (cc)

module _ {M Q R : Type 0} (x : Spot → Speech M Q R) (acknowledged : Q → Bool) (more : M → Bool) (passed : Q → Bool) (number : ℕ) (sent : List (Datagram M)) where
  abbrev Turn : Clocked M Q R → Under M Q R → Type 0
  Turn a u = IsUnder x acknowledged more passed number sent a u

  abbrev AllTurn : List (Clocked M Q R) → List (Under M Q R) → Type 0
  AllTurn as' us = AllUnder x acknowledged more passed number sent as' us

  before_same : (a : Clocked M Q R) (u : Under M Q R) → Turn a u → SameAccess a.life u.life
  before_same a u t = subst (λ z. SameAccess a.life z) (sym t.life) (next_same (x a.spot) acknowledged more passed number a.life a.life.stand t.pick)

  -- THE ONE THAT IS CARRIED is being opened
  pub carries_opening : (n : ℕ) (as' : List (Clocked M Q R)) (us : List (Under M Q R)) → n < length as' → FirstFrom n as' → AllTurn as' us → CarriesOne n us → IsOpening us
  carries_opening n [] us l f t c = absurd (omega (arith, l))
  carries_opening n (a ∷ as') [] l f t c = absurd t
  carries_opening zero (a ∷ as') (u ∷ us) l f t c =
      let o = opens_of a.life.stand f.0 in
      IsOpening.here u us o.0 c.0 ((before_same a u t.0).stand ∙ o.1) c.1
  carries_opening (suc n) (a ∷ as') (u ∷ us) l f t c = IsOpening.there u us c.0 (carries_opening n as' us (omega (arith, l)) f.1 t.1 c.1)

  -- ---- behind a lost frame
  module _ (before : GainsBefore M Q R) (lost : GainsLost M Q R) (gives : Bool) (recover : ℕ) where
    abbrev lost_of : List (Clocked M Q R) → List (Under M Q R) → List (Clocked M Q R)
    lost_of as' us = all_lost x acknowledged more passed gives recover number sent as' us

    one_lost : (a : Clocked M Q R) (u : Under M Q R) → Turn a u → is_opening a.life.stand ≡ true → (let m = lost_life x acknowledged more passed gives recover number sent a u in (is_opening m.stand ≡ true) ⊎ (way_of 1 1 m ≡ None))
    one_lost a u t is = by (gives && u.under)
      where
        l : Life M Q R
        l = life_lost (x a.spot) acknowledged more passed a.spot u.news sent u.life u.life.stand

        stays : (s : Stand) → u.life.stand ≡ s → is_opening s ≡ true → is_opening (life_lost (x a.spot) acknowledged more passed a.spot u.news sent u.life s).stand ≡ true
        stays (Stand.Opens o) e f = ap is_opening e
        stays Stand.Open e f = absurd (cc)
        stays Stand.Gone e f = absurd (cc)

        by : (b : Bool) → (let m = given_if b recover a.spot number l in (is_opening m.stand ≡ true) ⊎ (way_of 1 1 m ≡ None))
        by false = inl (stays u.life.stand refl (ap is_opening (before_same a u t).stand ∙ is))
        by true = up (nat_lt (length l.gave) recover)
          where
            up : (b : Bool) → (let m : Life M Q R = record l { stand = if b then reopening a.spot.start false else Stand.Gone; gave = l.gave ++ number ∷ [] } in (is_opening m.stand ≡ true) ⊎ (way_of 1 1 m ≡ None))
            up true = inl refl
            up false = inr refl

    none_lost : (as' : List (Clocked M Q R)) (us : List (Under M Q R)) → AllOpens as' → AllTurn as' us → NoneUnder us → AllOpens (lost_of as' us)
    none_lost [] [] f t n = tt
    none_lost [] (u ∷ us) f t n = absurd t
    none_lost (a ∷ as') [] f t n = absurd t
    none_lost (a ∷ as') (u ∷ us) f t n =
        (ap is_opening (passed_same before lost x acknowledged more passed gives recover number sent a u t.0 n.0).stand ∙ f.0, none_lost as' us f.1 t.1 n.1)

    pub first_lost : (n : ℕ) (as' : List (Clocked M Q R)) (us : List (Under M Q R)) → FirstFrom n as' → AllTurn as' us → CarriesOne n us → FirstFrom (opened_on n (lost_of as' us)) (lost_of as' us)
    first_lost zero [] [] f t c = tt
    first_lost (suc n) [] [] f t c = tt
    first_lost n [] (u ∷ us) f t c = absurd t
    first_lost n (a ∷ as') [] f t c = absurd t
    first_lost zero (a ∷ as') (u ∷ us) f t c =
        by (is_opening (lost_life x acknowledged more passed gives recover number sent a u).stand) refl (one_lost a u t.0 f.0) (none_lost as' us f.1 t.1 c.1)
      where
        by : (b : Bool) → is_opening (lost_life x acknowledged more passed gives recover number sent a u).stand ≡ b →
            (is_opening (lost_life x acknowledged more passed gives recover number sent a u).stand ≡ true) ⊎ (way_of 1 1 (lost_life x acknowledged more passed gives recover number sent a u) ≡ None) → AllOpens (lost_of as' us) →
            FirstFrom (if b then 0 else 1) (lost_of (a ∷ as') (u ∷ us))
        by true e how others = (e, others)
        by false e (inl is) others = absurd (cc)
        by false e (inr none) others = (none, others)
    first_lost (suc n) (a ∷ as') (u ∷ us) f t c =
        (same_way 1 1 a.life _ (passed_same before lost x acknowledged more passed gives recover number sent a u t.0 c.0) ∙ f.0, first_lost n as' us f.1 t.1 c.1)

  -- ---- behind one that came back
  module _ (facts : Known M Q R) (back : List (Datagram M)) where
    abbrev back_of : List (Clocked M Q R) → List (Under M Q R) → List (Clocked M Q R)
    back_of as' us = all_back x acknowledged more passed number back as' us

    kept : (slowest : ℕ) (a : Clocked M Q R) (u : Under M Q R) → IsClocked slowest a → Turn a u → Brings back a u → u.under ≡ false → SameAccess a.life (back_life x acknowledged more passed number back a u)
    kept slowest a u k t b out = (passed_back facts.before facts.openings facts.halves facts.went x acknowledged more passed number sent back 1 slowest 0 0 a u k t b out).0

    none_back : (slowest : ℕ) (as' : List (Clocked M Q R)) (us : List (Under M Q R)) → AllOpens as' → AllClocked slowest as' → AllTurn as' us → AllBring back as' us → NoneUnder us → AllOpens (back_of as' us)
    none_back slowest [] [] f k t b n = tt
    none_back slowest [] (u ∷ us) f k t b n = absurd t
    none_back slowest (a ∷ as') [] f k t b n = absurd t
    none_back slowest (a ∷ as') (u ∷ us) f k t b n = (ap is_opening (kept slowest a u k.0 t.0 b.0 n.0).stand ∙ f.0, none_back slowest as' us f.1 k.1 t.1 b.1 n.1)

    pub first_back : (slowest n : ℕ) (as' : List (Clocked M Q R)) (us : List (Under M Q R)) → FirstFrom n as' → AllClocked slowest as' → AllTurn as' us → AllBring back as' us → CarriesOne n us → FirstFrom (opened_on n (back_of as' us)) (back_of as' us)
    first_back slowest zero [] [] f k t b c = tt
    first_back slowest (suc n) [] [] f k t b c = tt
    first_back slowest n [] (u ∷ us) f k t b c = absurd t
    first_back slowest n (a ∷ as') [] f k t b c = absurd t
    first_back slowest zero (a ∷ as') (u ∷ us) f k t b c =
        let o = opens_of a.life.stand f.0 in
        by (is_opening (back_life x acknowledged more passed number back a u).stand) refl
        (opened_back facts.before facts.openings facts.halves facts.went x acknowledged more passed number sent back 1 slowest 0 0 a u k.0 t.0 o.0 ((before_same a u t.0).stand ∙ o.1) c.0 b.0) (none_back slowest as' us f.1 k.1 t.1 b.1 c.1)
      where
        by : (z : Bool) → is_opening (back_life x acknowledged more passed number back a u).stand ≡ z →
            (is_opening (back_life x acknowledged more passed number back a u).stand ≡ true) ⊎ (way_of 1 1 (back_life x acknowledged more passed number back a u) ≡ None) → AllOpens (back_of as' us) →
            FirstFrom (if z then 0 else 1) (back_of (a ∷ as') (u ∷ us))
        by true e how others = (e, others)
        by false e (inl is) others = absurd (cc)
        by false e (inr none) others = (none, others)
    first_back slowest (suc n) (a ∷ as') (u ∷ us) f k t b c = (same_way 1 1 a.life _ (kept slowest a u k.0 t.0 b.0 c.0) ∙ f.0, first_back slowest n as' us f.1 k.1 t.1 b.1 c.1)
