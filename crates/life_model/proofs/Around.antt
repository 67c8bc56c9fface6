-- A frame that comes back brings each live slave nearer, or carries it.
use Rattle.std.proofs.Common.{◌≡◌, ◌⊎◌, ℕ, zero, suc, ◌<◌, ◌≤◌, ◌==◌, Bool, true, false, cond, Option, Some, None, List, [], ◌∷◌, ◌++◌, length, filter, append_assoc, refl, sym, ap, ◌∙◌, subst, arith, if◌then◌else◌, eqb-true, eq-eqb, inl, inr}
use Rattle.std.specs.Prelude.{map, nat_lt}
use Rattle.state_model.specs.of_link_model.Segment.{RingFate}
use Rattle.state_model.specs.of_segment_model.Slaves.{Datagram}
use Rattle.state_model.specs.of_segment_model.Record.{Frame}
use Rattle.state_model.specs.of_segment_model.Visits.{Stop, Fills, Carries, IsVisit, carried, split_behind, is_live, is_among, last_of, visited, opening_after}
use Rattle.life_model.specs.Tours.{Member, Tour, Visits, stops_of, is_live_in, round, tour_after, all_given_up, given_up, lose_one}
use Rattle.life_model.specs.Rounds.{before, ahead, AreApart, AreOf, IsIn, ComeAgain, GoesRound, AllBack, IsCarriedIn}
use Rattle.life_model.proofs.Turns.{ahead_less, nearer}

-- THE RING from behind the last one
abbrev base : List Stop → Option ℕ → List Stop
base ring None = ring
base ring (Some last) = split_behind last [] ring

abbrev live : List Member → List Stop → List Stop
live ms ss = filter (λ s. is_live_in s.station ms) ss

is_ahead : (ring : List Stop) (last : Option ℕ) (n : ℕ) → ahead ring last n ≡ before n (base ring last)
is_ahead ring None n = refl
is_ahead ring (Some l) n = refl

-- who is in it
both : (n : ℕ) (xs ys : List Stop) → is_live n (xs ++ ys) ≡ (if is_live n xs then true else is_live n ys)
both n [] ys = refl
both n (x ∷ xs) ys = go (x.station == n) (both n xs ys)
  where
    go : (b : Bool) → is_live n (xs ++ ys) ≡ (if is_live n xs then true else is_live n ys) → (if b then true else is_live n (xs ++ ys)) ≡ (if (if b then true else is_live n xs) then true else is_live n ys)
    go true e = refl
    go false e = e

turned : (a b c : Bool) → (if c then true else (if a then true else (if b then true else false))) ≡ (if a then true else (if b then true else c))
turned true true true = refl
turned true true false = refl
turned true false true = refl
turned true false false = refl
turned false true true = refl
turned false true false = refl
turned false false true = refl
turned false false false = refl

nested : (a b c : Bool) → (if (if a then true else (if b then true else false)) then true else c) ≡ (if a then true else (if b then true else c))
nested true b c = refl
nested false true c = refl
nested false false c = refl

split_has : (l n : ℕ) (passed ss : List Stop) → is_live n (split_behind l passed ss) ≡ (if is_live n passed then true else is_live n ss)
split_has l n passed [] = none (is_live n passed)
  where
    none : (b : Bool) → b ≡ (if b then true else false)
    none true = refl
    none false = refl
split_has l n passed (s ∷ ss) = go (s.station == l) (split_has l n (passed ++ s ∷ []) ss)
  where
    go : (b : Bool) → is_live n (split_behind l (passed ++ s ∷ []) ss) ≡ (if is_live n (passed ++ s ∷ []) then true else is_live n ss) →
        is_live n (if b then ss ++ passed ++ s ∷ [] else split_behind l (passed ++ s ∷ []) ss) ≡ (if is_live n passed then true else (if s.station == n then true else is_live n ss))
    go true e =
        ap (is_live n) (append_assoc ss passed (s ∷ [])) ∙ both n ss (passed ++ s ∷ []) ∙ ap (λ z. if is_live n ss then true else z) (both n passed (s ∷ [])) ∙ turned (is_live n passed) (s.station == n) (is_live n ss)
    go false e = e ∙ ap (λ z. if z then true else is_live n ss) (both n passed (s ∷ [])) ∙ nested (is_live n passed) (s.station == n) (is_live n ss)

base_has : (ring : List Stop) (last : Option ℕ) (n : ℕ) → is_live n (base ring last) ≡ is_live n ring
base_has ring None n = refl
base_has ring (Some l) n = split_has l n [] ring

-- THE ROUND is the live ones of it
not_other : (m : Member) (ms : List Member) (ss : List Stop) → is_live m.stop.station ss ≡ false → live (m ∷ ms) ss ≡ live ms ss
not_other m ms [] a = refl
not_other m ms (s ∷ ss) a = go (s.station == m.stop.station) refl a (λ f. not_other m ms ss f)
  where
    apart : (s.station == m.stop.station) ≡ false → (m.stop.station == s.station) ≡ false
    apart e = other (m.stop.station == s.station) refl
      where
        other : (b : Bool) → (m.stop.station == s.station) ≡ b → b ≡ false
        other false f = refl
        other true f = absurd (let same = eq-eqb s.station m.stop.station (sym (eqb-true m.stop.station s.station f)) in cc)

    go : (b : Bool) → (s.station == m.stop.station) ≡ b → (if b then true else is_live m.stop.station ss) ≡ false → (is_live m.stop.station ss ≡ false → live (m ∷ ms) ss ≡ live ms ss) → live (m ∷ ms) (s ∷ ss) ≡ live ms (s ∷ ss)
    go true e f r = absurd (cc)
    go false e f r =
        ap (λ (z : Bool). cond (if z then m.live else is_live_in s.station ms) (s ∷ live (m ∷ ms) ss) (live (m ∷ ms) ss)) (apart e)
        ∙ ap (λ z. cond (is_live_in s.station ms) (s ∷ z) z) (r f)

all_live : (ms : List Member) → AreApart (map (λ m. m.stop) ms) → stops_of ms ≡ live ms (map (λ m. m.stop) ms)
all_live [] a = refl
all_live (m ∷ ms) a =
    go m.live (all_live ms a.1)
    ∙ sym (ap (λ (z : Bool). cond (if z then m.live else is_live_in m.stop.station ms) (m.stop ∷ live (m ∷ ms) (map (λ k. k.stop) ms)) (live (m ∷ ms) (map (λ k. k.stop) ms))) (eq-eqb m.stop.station m.stop.station refl)
    ∙ ap (λ z. cond m.live (m.stop ∷ z) z) (not_other m ms (map (λ k. k.stop) ms) a.0))
  where
    go : (z : Bool) → stops_of ms ≡ live ms (map (λ m. m.stop) ms) → (if z then m.stop ∷ stops_of ms else stops_of ms) ≡ cond z (m.stop ∷ live ms (map (λ m. m.stop) ms)) (live ms (map (λ m. m.stop) ms))
    go true e = ap (λ z. m.stop ∷ z) e
    go false e = e

round_is : (ring : List Stop) (last : Option ℕ) (ms : List Member) → AreOf ring ms → AreApart ring → round ring last ms ≡ live ms (base ring last)
round_is ring None ms of a = all_live ms (subst AreApart (sym of) a) ∙ ap (live ms) of
round_is ring (Some l) ms of a = refl

-- WHO IS CARRIED LAST
record LastOf (prev : Option ℕ) (ss : List Stop) (cs : List ℕ) : Type 0 where
  c : ℕ
  last : last_of prev cs ≡ Some c
  there : is_live c ss ≡ true

more_there : (s : Stop) (ss : List Stop) (c : ℕ) → is_live c ss ≡ true → is_live c (s ∷ ss) ≡ true
more_there s ss c e = go (s.station == c)
  where
    go : (b : Bool) → (if b then true else is_live c ss) ≡ true
    go true = refl
    go false = e

own_there : (s : Stop) (ss : List Stop) (c : ℕ) → s.station ≡ c → is_live c (s ∷ ss) ≡ true
own_there s ss c e = ap (λ (z : Bool). if z then true else is_live c ss) (eq-eqb s.station c e)

fills_last : (size : ℕ) (ms : List Member) (prev : Option ℕ) (ss : List Stop) (cs : List ℕ) → Fills size (live ms ss) cs → (cs ≡ []) ⊎ LastOf prev ss cs
fills_last size ms prev [] [] f = inl refl
fills_last size ms prev [] (c ∷ cs) f = absurd f
fills_last size ms prev (s ∷ ss) cs f = go (is_live_in s.station ms) cs f (λ p z g. fills_last size ms p ss z g)
  where
    shift : (p : Option ℕ) (z : List ℕ) → LastOf p ss z → LastOf p (s ∷ ss) z
    shift p z l = record { c = l.c; last = l.last; there = more_there s ss l.c l.there }

    behind : (p : Option ℕ) (c : ℕ) (z : List ℕ) → s.station ≡ c → (z ≡ []) ⊎ LastOf (Some c) ss z → LastOf p (s ∷ ss) (c ∷ z)
    behind p c z e (inl none) = record { c = c; last = ap (last_of (Some c)) none; there = own_there s ss c e }
    behind p c z e (inr l) = record { c = l.c; last = l.last; there = more_there s ss l.c l.there }

    go : (b : Bool) (z : List ℕ) → Fills size (cond b (s ∷ live ms ss) (live ms ss)) z → ((p : Option ℕ) (y : List ℕ) → Fills size (live ms ss) y → (y ≡ []) ⊎ LastOf p ss y) → (z ≡ []) ⊎ LastOf prev (s ∷ ss) z
    go false z f r = elim (r prev z f) [ inl none ↦ inl none | inr l ↦ inr (shift prev z l) ]
    go true [] f r = inl refl
    go true (c ∷ z) f r = inr (behind prev c z f.0 (r (Some c) z f.1))

-- A LIVE SLAVE IS CARRIED, OR THE LAST ONE CARRIED COMES BEFORE IT
record Passed (prev : Option ℕ) (ss : List Stop) (cs : List ℕ) (n : ℕ) : Type 0 where
  c : ℕ
  last : last_of prev cs ≡ Some c
  there : is_live c ss ≡ true
  less : before c ss < before n ss

fills_passed : (size : ℕ) (ms : List Member) (n : ℕ) (prev : Option ℕ) (ss : List Stop) (cs : List ℕ) → is_live_in n ms ≡ true → is_live n ss ≡ true → Fills size (live ms ss) cs → (is_among n cs ≡ true) ⊎ ((cs ≡ []) ⊎ Passed prev ss cs n)
fills_passed size ms n prev [] cs l e f = absurd (cc)
fills_passed size ms n prev (s ∷ ss) cs l e f = go (is_live_in s.station ms) (s.station == n) cs refl refl e f (λ p z g h. fills_passed size ms n p ss z l g h)
  where
    nearer_one : (c : ℕ) → before c (s ∷ ss) ≤ suc (before c ss)
    nearer_one c = by (s.station == c)
      where
        by : (b : Bool) → (if b then 0 else suc (before c ss)) ≤ suc (before c ss)
        by true = omega arith
        by false = omega arith

    farther : (s.station == n) ≡ false → before n (s ∷ ss) ≡ suc (before n ss)
    farther e = ap (λ (z : Bool). if z then 0 else suc (before n ss)) e

    shift : (p : Option ℕ) (z : List ℕ) → (s.station == n) ≡ false → Passed p ss z n → Passed p (s ∷ ss) z n
    shift p z e q = record { c = q.c; last = q.last; there = more_there s ss q.c q.there; less = omega (arith, nearer_one q.c, farther e, q.less) }

    first : (c : ℕ) → s.station ≡ c → before c (s ∷ ss) ≡ 0
    first c e = ap (λ (z : Bool). if z then 0 else suc (before c ss)) (eq-eqb s.station c e)

    among_more : (c : ℕ) (z : List ℕ) → is_among n z ≡ true → is_among n (c ∷ z) ≡ true
    among_more c z e = by (c == n)
      where
        by : (b : Bool) → (if b then true else is_among n z) ≡ true
        by true = refl
        by false = e

    behind : (p : Option ℕ) (c : ℕ) (z : List ℕ) → s.station ≡ c → (s.station == n) ≡ false → (is_among n z ≡ true) ⊎ ((z ≡ []) ⊎ Passed (Some c) ss z n) → (is_among n (c ∷ z) ≡ true) ⊎ (((c ∷ z) ≡ []) ⊎ Passed p (s ∷ ss) (c ∷ z) n)
    behind p c z e far (inl h) = inl (among_more c z h)
    behind p c z e far (inr (inl none)) = inr (inr (record { c = c; last = ap (last_of (Some c)) none; there = own_there s ss c e; less = omega (arith, first c e, farther far) }))
    behind p c z e far (inr (inr q)) = inr (inr (record { c = q.c; last = q.last; there = more_there s ss q.c q.there; less = omega (arith, nearer_one q.c, farther far, q.less) }))

    go : (b d : Bool) (z : List ℕ) → is_live_in s.station ms ≡ b → (s.station == n) ≡ d → (if d then true else is_live n ss) ≡ true → Fills size (cond b (s ∷ live ms ss) (live ms ss)) z →
        ((p : Option ℕ) (y : List ℕ) → is_live n ss ≡ true → Fills size (live ms ss) y → (is_among n y ≡ true) ⊎ ((y ≡ []) ⊎ Passed p ss y n)) → (is_among n z ≡ true) ⊎ ((z ≡ []) ⊎ Passed prev (s ∷ ss) z n)
    go false true z g h e f r = absurd (let same : is_live_in n ms ≡ false = ap (λ k. is_live_in k ms) (sym (eqb-true s.station n h)) ∙ g in cc)
    go false false z g h e f r = elim (r prev z e f) [ inl a ↦ inl a | inr (inl none) ↦ inr (inl none) | inr (inr q) ↦ inr (inr (shift prev z h q)) ]
    go true d [] g h e f r = inr (inl refl)
    go true true (c ∷ z) g h e f r = inl (ap (λ (y : Bool). if y then true else is_among n z) (eq-eqb c n (sym f.0 ∙ eqb-true s.station n h)))
    go true false (c ∷ z) g h e f r = behind prev c z f.0 h (r (Some c) z e f.1)

-- A FRAME OF THE TOUR carries the first of its round
first_of_round : (size : ℕ) (again : Option (List ℕ)) (opening ss : List Stop) (cs : List ℕ) → opening ≡ [] → ComeAgain ss again → IsVisit size again opening ss cs → (z : ℕ) × Carries z ss cs
first_of_round size None opening ss cs none a v = (size, subst (λ o. IsVisit size None o ss cs) none v)
first_of_round size (Some same) opening ss cs none a v = (a.0, subst (λ z. Carries a.0 ss z) (sym v) a.1)

fills_of : (size : ℕ) (ss : List Stop) (cs : List ℕ) → Carries size ss cs → Fills size ss cs
fills_of size ss [] c = absurd c
fills_of size ss (x ∷ cs) c = c

not_none : (size : ℕ) (ss : List Stop) (cs : List ℕ) → Carries size ss cs → cs ≡ [] → ⊥
not_none size ss [] c e = c
not_none size ss (x ∷ cs) c e = cc

record IsCarried (ring : List Stop) (t : Tour) (cs : List ℕ) : Type 0 where
  size : ℕ
  carries : Carries size (live t.members (base ring t.last)) cs

carried_by : (size : ℕ) (ring : List Stop) (t : Tour) (cs : List ℕ) → AreApart ring → GoesRound ring t → IsVisit size t.again t.opening (round ring t.last t.members) cs → IsCarried ring t cs
carried_by size ring t cs a g v =
    let f = first_of_round size t.again t.opening (round ring t.last t.members) cs g.opening g.again v in
    record { size = f.0; carries = subst (λ z. Carries f.0 z cs) (round_is ring t.last t.members g.members a) f.1 }

last_is_in : (ring : List Stop) (t : Tour) (cs : List ℕ) → IsCarried ring t cs → IsIn ring (last_of t.last cs)
last_is_in ring t cs k = elim (fills_last k.size t.members t.last (base ring t.last) cs (fills_of k.size _ cs k.carries)) [
  | inl none ↦ absurd (not_none k.size _ cs k.carries none)
  | inr l ↦ subst (IsIn ring) (sym l.last) (sym (base_has ring t.last l.c) ∙ l.there)
]

pub comes_nearer : (size : ℕ) (ring : List Stop) (t : Tour) (cs : List ℕ) (n : ℕ) → AreApart ring → GoesRound ring t → is_live n ring ≡ true → is_live_in n t.members ≡ true → IsVisit size t.again t.opening (round ring t.last t.members) cs →
    (is_among n cs ≡ true) ⊎ (suc (ahead ring (last_of t.last cs) n) ≤ ahead ring t.last n)
comes_nearer size ring t cs n a g e l v =
    let k = carried_by size ring t cs a g v in
    elim (fills_passed k.size t.members n t.last (base ring t.last) cs l (base_has ring t.last n ∙ e) (fills_of k.size _ cs k.carries)) [
      | inl h ↦ inl h
      | inr (inl none) ↦ absurd (not_none k.size _ cs k.carries none)
      | inr (inr q) ↦ inr (
          let there : is_live q.c ring ≡ true = sym (base_has ring t.last q.c) ∙ q.there in
          let less : ahead ring t.last q.c < ahead ring t.last n = omega (arith, is_ahead ring t.last q.c, is_ahead ring t.last n, q.less) in
          let near = nearer ring t.last q.c n a g.last there e less in
          let now : ahead ring (last_of t.last cs) n ≡ ahead ring (Some q.c) n = ap (λ z. ahead ring z n) q.last in
          omega (arith, near, now))
    ]

-- THE TOUR GOES ON ROUND
no_opening : {M : Type 0} (back : List (Datagram M)) (opening : List Stop) → opening ≡ [] → opening_after back opening ≡ []
no_opening back opening e = ap (opening_after back) e

not_visited : (opening : List Stop) (last : Option ℕ) → opening ≡ [] → visited opening last ≡ last
not_visited opening last e = ap (λ o. visited o last) e

given_up_stop : (cs : List ℕ) (m : Member) → (given_up cs m).stop ≡ m.stop
given_up_stop cs m = go (is_among m.stop.station cs) m.spare
  where
    go : (b : Bool) (spare : ℕ) → (if b then lose_one m spare else m).stop ≡ m.stop
    go false spare = refl
    go true zero = refl
    go true (suc k) = refl

all_stops : (cs : List ℕ) (ms : List Member) → map (λ m. m.stop) (all_given_up cs ms) ≡ map (λ m. m.stop) ms
all_stops cs [] = refl
all_stops cs (m ∷ ms) = λ i. given_up_stop cs m i ∷ all_stops cs ms i

pub goes_on : {M : Type 0} (size retry : ℕ) (ring : List Stop) (t : Tour) (f : Frame M) (cs : List ℕ) → AreApart ring → GoesRound ring t → IsVisit size t.again t.opening (round ring t.last t.members) cs → GoesRound ring (tour_after retry t cs f f.fate)
goes_on {M} size retry ring t f cs a g v = go f.fate
  where
    k : IsCarried ring t cs
    k = carried_by size ring t cs a g v

    last : IsIn ring (visited t.opening (last_of t.last cs))
    last = subst (IsIn ring) (sym (not_visited t.opening (last_of t.last cs) g.opening)) (last_is_in ring t cs k)

    go : (fate : RingFate) → GoesRound ring (tour_after retry t cs f fate)
    go RingFate.Back = record { opening = no_opening f.back t.opening g.opening; members = g.members; last = last; again = tt }
    go (RingFate.Lost after) = by (nat_lt t.missed retry)
      where
        by : (b : Bool) → GoesRound ring (if b then record t { again = Some cs; missed = suc t.missed }
            else (let ms = all_given_up cs t.members in record { members = ms; opening = filter (λ s. is_live_in s.station ms) t.opening; last = visited t.opening (last_of t.last cs); again = None; missed = 0 }))
        by true = record { opening = g.opening; members = g.members; last = g.last; again = first_of_round size t.again t.opening (round ring t.last t.members) cs g.opening g.again v }
        by false = record { opening = ap (live (all_given_up cs t.members)) g.opening; members = all_stops cs t.members ∙ g.members; last = last; again = tt }

-- A ROUND OF FRAMES THAT COME BACK
pub comes : {M : Type 0} (size : List (Datagram M) → ℕ) (retry : ℕ) (ring : List Stop) (n : ℕ) (t : Tour) (fs : List (Frame M)) → AreApart ring → GoesRound ring t → is_live n ring ≡ true → is_live_in n t.members ≡ true → AllBack fs → Visits size retry ring t fs →
    ahead ring t.last n < length fs → IsCarriedIn ring n fs
comes size retry ring n t [] a g e l b v less = absurd (omega (arith, less))
comes {M} size retry ring n t (f ∷ fs) a g e l b v less =
    go f.fate b.0 (goes_on (size f.sent) retry ring t f (carried ring f.sent) a g v.0) v.1 (comes_nearer (size f.sent) ring t (carried ring f.sent) n a g e l v.0)
    (λ u m h w d. comes size retry ring n u fs a h e m b.1 w d)
  where
    go : (fate : RingFate) → fate ≡ RingFate.Back → GoesRound ring (tour_after retry t (carried ring f.sent) f fate) → Visits size retry ring (tour_after retry t (carried ring f.sent) f fate) fs →
        (is_among n (carried ring f.sent) ≡ true) ⊎ (suc (ahead ring (last_of t.last (carried ring f.sent)) n) ≤ ahead ring t.last n) →
        ((u : Tour) → is_live_in n u.members ≡ true → GoesRound ring u → Visits size retry ring u fs → ahead ring u.last n < length fs → IsCarriedIn ring n fs) → IsCarriedIn ring n (f ∷ fs)
    go (RingFate.Lost after) is h w near later = absurd (cc)
    go RingFate.Back is h w (inl c) later = inl c
    go RingFate.Back is h w (inr near) later =
        let t1 = tour_after retry t (carried ring f.sent) f RingFate.Back in
        let now : ahead ring t1.last n ≡ ahead ring (last_of t.last (carried ring f.sent)) n = ap (λ z. ahead ring z n) (not_visited t.opening (last_of t.last (carried ring f.sent)) g.opening) in
        inr (later t1 l h w (omega (arith, now, near, less)))

pub round_comes : {M : Type 0} (size : List (Datagram M) → ℕ) (retry : ℕ) (ring : List Stop) (n : ℕ) (t : Tour) (fs : List (Frame M)) → AreApart ring → GoesRound ring t → is_live n ring ≡ true → is_live_in n t.members ≡ true → AllBack fs → Visits size retry ring t fs →
    length ring ≤ length fs → IsCarriedIn ring n fs
round_comes size retry ring n t fs a g e l b v long = comes size retry ring n t fs a g e l b v (omega (arith, ahead_less ring t.last n a g.last e, long))
