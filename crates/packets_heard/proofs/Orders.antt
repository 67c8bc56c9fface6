-- A round by places is one by stations.
use Rattle.std.proofs.Common.{◌≡◌, ℕ, zero, suc, ◌+◌, ◌-◌, ◌<◌, ◌≤◌, ◌==◌, Bool, true, false, Option, Some, None, List, [], ◌∷◌, ◌++◌, length, take, drop, refl, sym, ap, ◌∙◌, subst, arith, append_assoc}
use Rattle.std.specs.Prelude.{if◌then◌else◌, cond, map, filter}
use Rattle.std.proofs.lemmas.Bool.{lt-ltb, le-ltb, eq-eqb}
use Rattle.slave_server.specs.of_segment_model.Visits.{Stop, Fills, Carries, IsVisit, split_behind}
use Rattle.master_node.specs.of_life_model.Tours.{Member, stops_of, is_live_in, round}
use Rattle.master_node.specs.of_master_tour.Orders.{start_of, place_in, places_from, round_left, visits_left}
use Rattle.packets_heard.specs.Visits.{stop_at, stops_at, stations_at, last_station, IsPlace, AreOf, IsApart, AreApart, Comes, GoesThrough}

-- WHAT IT GOES THROUGH IT FILLS THE FRAME WITH

fills : (size : ℕ) (ring : List Stop) (members : List Member) (ps cs : List ℕ) → GoesThrough size ring members ps cs → Fills size (filter (λ s. is_live_in s.station members) (stops_at ring ps)) (stations_at ring cs)
fills size ring members [] [] g = tt
fills size ring members [] (c ∷ cs) g = absurd g
fills size ring members (p ∷ ps) cs g = go (is_live_in (stop_at ring p).station members) cs g (λ z h. fills size ring members ps z h)
  where
    go : (b : Bool) (zs : List ℕ) → Comes b size (stop_at ring p) p zs (λ z. GoesThrough size ring members ps z) →
        ((z : List ℕ) → GoesThrough size ring members ps z → Fills size (filter (λ s. is_live_in s.station members) (stops_at ring ps)) (stations_at ring z)) →
        Fills size (cond b (stop_at ring p ∷ filter (λ s. is_live_in s.station members) (stops_at ring ps)) (filter (λ s. is_live_in s.station members) (stops_at ring ps))) (stations_at ring zs)
    go false zs h r = r zs h
    go true [] h r = h
    go true (c ∷ zs) h r = (ap (λ q. (stop_at ring q).station) (sym h.0), r zs h.1)

carries : (size : ℕ) (ss : List Stop) (ring : List Stop) (cs : List ℕ) → 1 ≤ length cs → Fills size ss (stations_at ring cs) → Carries size ss (stations_at ring cs)
carries size ss ring [] n f = absurd (omega (arith, n))
carries size ss ring (c ∷ cs) n f = f

-- PLACES ONE BEHIND THE OTHER
run_from : ℕ → ℕ → List ℕ
run_from a zero = []
run_from a (suc n) = a ∷ run_from (suc a) n

places_append : (start count k a b : ℕ) → places_from start count k (a + b) ≡ places_from start count k a ++ places_from start count (k + a) b
places_append start count k zero b =
    let e : 0 + b ≡ b = omega arith in
    let f : k ≡ k + 0 = omega arith in
    ap (places_from start count k) e ∙ ap (λ z. places_from start count z b) f
places_append start count k (suc a) b =
    let e : suc a + b ≡ suc (a + b) = omega arith in
    let f : suc k + a ≡ k + suc a = omega arith in
    ap (places_from start count k) e ∙ ap (λ z. place_in start count k ∷ z) (places_append start count (suc k) a b ∙ ap (λ z. places_from start count (suc k) a ++ places_from start count z b) f)

first_part : (start count k n : ℕ) → k + n ≤ count - start → places_from start count k n ≡ run_from (start + k) n
unfolding run_from
first_part start count k zero l = refl
first_part start count k (suc n) l =
    let here : place_in start count k ≡ start + k = ap (λ (z : Bool). if z then start + k else k - (count - start)) (lt-ltb k (count - start) (omega (arith, l))) in
    let f : start + suc k ≡ suc (start + k) = omega arith in
    (λ i. here i ∷ (first_part start count (suc k) n (omega (arith, l)) ∙ ap (λ z. run_from z n) f) i)

second_part : (start count k a n : ℕ) → k ≡ (count - start) + a → places_from start count k n ≡ run_from a n
unfolding run_from
second_part start count k a zero e = refl
second_part start count k a (suc n) e =
    let here : place_in start count k ≡ a = ap (λ (z : Bool). if z then start + k else k - (count - start)) (le-ltb k (count - start) (omega (arith, e))) ∙ (omega (arith, e)) in
    (λ i. here i ∷ second_part start count (suc k) (suc a) n (omega (arith, e)) i)

pub map_append : {X Y : Type 0} (f : X → Y) (xs ys : List X) → map f (xs ++ ys) ≡ map f xs ++ map f ys
map_append f [] ys = refl
map_append f (x ∷ xs) ys = ap (λ z. f x ∷ z) (map_append f xs ys)

pub drop_here : (ring : List Stop) (a : ℕ) → a < length ring → drop a ring ≡ stop_at ring a ∷ drop (suc a) ring
drop_here [] a l = absurd (omega (arith, l))
drop_here (s ∷ ss) zero l = refl
drop_here (s ∷ ss) (suc a) l = drop_here ss a (omega (arith, l))

run_stops : (ring : List Stop) (a n : ℕ) → a + n ≤ length ring → stops_at ring (run_from a n) ≡ take n (drop a ring)
unfolding run_from
run_stops ring a zero l = refl
run_stops ring a (suc n) l = ap (λ z. stop_at ring a ∷ z) (run_stops ring (suc a) n (omega (arith, l))) ∙ sym (ap (take (suc n)) (drop_here ring a (omega (arith, l))))

take_whole : (n : ℕ) (xs : List Stop) → length xs ≤ n → take n xs ≡ xs
take_whole zero [] l = refl
take_whole zero (x ∷ xs) l = absurd (omega (arith, l))
take_whole (suc n) [] l = refl
take_whole (suc n) (x ∷ xs) l = ap (λ z. x ∷ z) (take_whole n xs (omega (arith, l)))

drop_length : (n : ℕ) (xs : List Stop) → length (drop n xs) ≡ length xs - n
drop_length zero xs = omega arith
drop_length (suc n) [] = omega arith
drop_length (suc n) (x ∷ xs) = drop_length n xs ∙ (omega arith)

-- the slaves of a round from a place on
round_stops : (ring : List Stop) (start : ℕ) → start ≤ length ring → stops_at ring (round_left start (length ring) 0) ≡ drop start ring ++ take start ring
round_stops ring start l =
    let n = length ring in
    let e : n - 0 ≡ (n - start) + start = omega (arith, l) in
    let f : 0 + (n - start) ≡ n - start = omega arith in
    let g : start + 0 ≡ start = omega arith in
    let long = drop_length start ring in
    ap (λ z. stops_at ring (places_from start n 0 z)) e
    ∙ ap (stops_at ring) (places_append start n 0 (n - start) start ∙ (λ i. (first_part start n 0 (n - start) (omega arith) ∙ ap (λ z. run_from z (n - start)) g) i ++ (ap (λ z. places_from start n z start) f ∙ second_part start n (n - start) 0 start (omega arith)) i))
    ∙ map_append (λ p. stop_at ring p) (run_from start (n - start)) (run_from 0 start)
    ∙ (λ i. (run_stops ring start (n - start) (omega (arith, l)) ∙ take_whole (n - start) (drop start ring) (omega (arith, long))) i ++ run_stops ring 0 start (omega (arith, l)) i)

-- BEHIND A STATION is behind its place
far : (s : Stop) (ss : List Stop) (q : ℕ) → IsApart s ss → q < length ss → (s.station == (stop_at ss q).station) ≡ false
far s [] q a l = absurd (omega (arith, l))
far s (t ∷ ts) zero a l = a.0
far s (t ∷ ts) (suc q) a l = far s ts q a.1 (omega (arith, l))

behind : (passed ss : List Stop) (q : ℕ) → AreApart ss → q < length ss → split_behind (stop_at ss q).station passed ss ≡ drop (suc q) ss ++ (passed ++ take (suc q) ss)
behind passed [] q a l = absurd (omega (arith, l))
behind passed (s ∷ ss) zero a l =
    ap (λ (z : Bool). if z then ss ++ passed ++ s ∷ [] else split_behind s.station (passed ++ s ∷ []) ss) (eq-eqb s.station s.station refl) ∙ append_assoc ss passed (s ∷ [])
behind passed (s ∷ ss) (suc q) a l =
    let last = (stop_at ss q).station in
    ap (λ (z : Bool). if z then ss ++ passed ++ s ∷ [] else split_behind last (passed ++ s ∷ []) ss) (far s ss q a.0 (omega (arith, l)))
    ∙ behind (passed ++ s ∷ []) ss q a.1 (omega (arith, l)) ∙ ap (λ z. drop (suc q) ss ++ z) (append_assoc passed (s ∷ []) (take (suc q) ss))

-- WITHOUT A LAST ONE all live slaves, in ring order
live_more : (m : Member) (ms : List Member) (ss : List Stop) → IsApart m.stop ss → filter (λ s. is_live_in s.station (m ∷ ms)) ss ≡ filter (λ s. is_live_in s.station ms) ss
live_more m ms [] a = refl
live_more m ms (s ∷ ss) a =
    ap (λ (z : Bool). cond (if z then m.live else is_live_in s.station ms) (s ∷ filter (λ t. is_live_in t.station (m ∷ ms)) ss) (filter (λ t. is_live_in t.station (m ∷ ms)) ss)) a.0
    ∙ ap (λ z. cond (is_live_in s.station ms) (s ∷ z) z) (live_more m ms ss a.1)

all_live : (ms : List Member) → AreApart (map (λ m. m.stop) ms) → stops_of ms ≡ filter (λ s. is_live_in s.station ms) (map (λ m. m.stop) ms)
all_live [] a = refl
all_live (m ∷ ms) a =
    go m.live (all_live ms a.1)
    ∙ sym (ap (λ (z : Bool). cond (if z then m.live else is_live_in m.stop.station ms) (m.stop ∷ filter (λ t. is_live_in t.station (m ∷ ms)) (map (λ k. k.stop) ms)) (filter (λ t. is_live_in t.station (m ∷ ms)) (map (λ k. k.stop) ms))) (eq-eqb m.stop.station m.stop.station refl)
    ∙ ap (λ z. cond m.live (m.stop ∷ z) z) (live_more m ms (map (λ k. k.stop) ms) a.0))
  where
    go : (z : Bool) → stops_of ms ≡ filter (λ s. is_live_in s.station ms) (map (λ k. k.stop) ms) → (if z then m.stop ∷ stops_of ms else stops_of ms) ≡ cond z (m.stop ∷ filter (λ s. is_live_in s.station ms) (map (λ k. k.stop) ms)) (filter (λ s. is_live_in s.station ms) (map (λ k. k.stop) ms))
    go true e = ap (λ z. m.stop ∷ z) e
    go false e = e

-- A ROUND BY PLACES IS A ROUND BY STATIONS
pub round_as : (ring : List Stop) (members : List Member) (last : Option ℕ) → AreOf ring members → AreApart ring → IsPlace ring last →
    filter (λ s. is_live_in s.station members) (stops_at ring (round_left (start_of (length ring) last) (length ring) 0)) ≡ round ring (last_station ring last) members
round_as ring members None a d l =
    ap (filter (λ s. is_live_in s.station members)) (round_stops ring 0 (omega arith) ∙ whole ring ∙ sym a) ∙ sym (all_live members (subst AreApart (sym a) d))
  where
    whole : (xs : List Stop) → xs ++ [] ≡ xs
    whole [] = refl
    whole (x ∷ xs) = ap (λ z. x ∷ z) (whole xs)
round_as ring members (Some p) a d l =
    let e : start_of (length ring) (Some p) ≡ suc p = ap (λ (z : Bool). if z then p + 1 else 0) (lt-ltb p (length ring) l) ∙ (omega arith) in
    ap (filter (λ s. is_live_in s.station members)) (ap (λ z. stops_at ring (round_left z (length ring) 0)) e ∙ round_stops ring (suc p) (omega (arith, l)) ∙ sym (behind [] ring p d l))

pub round_is_visit : (size opened : ℕ) (ring : List Stop) (members : List Member) (last : Option ℕ) (visit places : List ℕ) → AreOf ring members → AreApart ring → IsPlace ring last → length ring ≤ opened → 1 ≤ length places →
    GoesThrough size ring members (visits_left false visit opened (length ring) last 0) places → IsVisit size None [] (round ring (last_station ring last) members) (stations_at ring places)
round_is_visit size opened ring members last visit places a d l o n g =
    let h : GoesThrough size ring members (round_left (start_of (length ring) last) (length ring) 0) places =
    subst (λ (z : Bool). GoesThrough size ring members (if z then drop 0 (opened ∷ []) else round_left (start_of (length ring) last) (length ring) 0) places) (le-ltb opened (length ring) o) g in
    carries size (round ring (last_station ring last) members) ring places n
    (subst (λ z. Fills size z (stations_at ring places)) (round_as ring members last a d l) (fills size ring members (round_left (start_of (length ring) last) (length ring) 0) places h))

-- IN THE FIRST BRING-UP just the one that is brought up
just_one : (size opened : ℕ) (ring : List Stop) (members : List Member) (places : List ℕ) → 1 ≤ length places → GoesThrough size ring members (opened ∷ []) places → stations_at ring places ≡ (stop_at ring opened).station ∷ []
just_one size opened ring members places n g = go (is_live_in (stop_at ring opened).station members) places n g
  where
    go : (b : Bool) (zs : List ℕ) → 1 ≤ length zs → Comes b size (stop_at ring opened) opened zs (λ z. GoesThrough size ring members [] z) → stations_at ring zs ≡ (stop_at ring opened).station ∷ []
    go b [] l h = absurd (omega (arith, l))
    go false (c ∷ zs) l h = absurd h
    go true (c ∷ []) l h = ap (λ q. (stop_at ring q).station ∷ []) h.0
    go true (c ∷ d ∷ zs) l h = absurd h.1

pub first_is_visit : (size opened : ℕ) (ring : List Stop) (members : List Member) (last : Option ℕ) (visit places : List ℕ) (others rest : List Stop) → opened < length ring → 1 ≤ length places →
    GoesThrough size ring members (visits_left false visit opened (length ring) last 0) places → IsVisit size None (stop_at ring opened ∷ others) rest (stations_at ring places)
first_is_visit size opened ring members last visit places others rest o n g =
    just_one size opened ring members places n
    (subst (λ (z : Bool). GoesThrough size ring members (if z then drop 0 (opened ∷ []) else round_left (start_of (length ring) last) (length ring) 0) places) (lt-ltb opened (length ring) o) g)
