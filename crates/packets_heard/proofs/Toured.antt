-- A toured run is a led one, and its visits are those of the tour by stations.
use Rattle.std.proofs.Common.{◌≡◌, ◌<◌, ◌≤◌, ◌+◌, ℕ, zero, suc, Bool, true, false, Option, Some, None, List, [], ◌∷◌, refl, sym, ap, ◌∙◌, subst, arith, length, ◌++◌}
use Rattle.std.specs.Prelude.{nat_lt, cond, filter, map, drop, if◌then◌else◌}
use Rattle.std.proofs.lemmas.Bool.{ltb-true, ltb-false}
use Rattle.master_node.specs.of_frame_view.View.{Lens}
use Rattle.master_node.specs.of_life_model.Tours.{Member, is_live_in, round}
use Rattle.master_node.specs.of_life_runs.Led.{Leads, Exchanged, IsLed, missed_behind, Turn, IsLedFrame}
use Rattle.master_node.specs.of_master_tour.Orders.{start_of, round_left, visited_of}
use Rattle.master_node.specs.of_master_tour.Toured.{Tour, visit_of}
use Rattle.slave_server.specs.of_segment_model.Visits.{Stop}
use Rattle.master_node.specs.of_segment_ring.declared.wire.Fate.{Fate}
use Rattle.master_node.specs.of_segment_ring.declared.wire.Fate.TheVariants.{Pass, Lost}
use Rattle.packets_heard.specs.Toured.{IsToured, IsTourFrame, lives_behind, tour_behind, stations_of, visit_stations}
use Rattle.packets_heard.specs.Visits.{AreOf, AreApart, IsPlace, stop_at, stops_at, stations_at, last_station}
use Rattle.packets_heard.proofs.Orders.{round_as, drop_here}

-- as many frames are lost in a row
missed_same : (lens : ℕ → Lens) (recover retry : ℕ) (fate : Fate) (as' : List Leads) (t : Tour) (visit : List ℕ) → missed_behind lens recover retry fate t.missed ≡ (tour_behind retry fate as' t visit).missed
missed_same lens recover retry Pass as' t visit = refl
missed_same lens recover retry (Lost after) as' t visit = go (nat_lt t.missed retry)
  where
    go : (z : Bool) → (if z then t.missed + 1 else 0) ≡ Tour.missed (if z then record t { again = Some visit; missed = t.missed + 1 } else tour_behind retry Pass as' t visit)
    go true = refl
    go false = refl

pub toured_led : (lens : ℕ → Lens) (recover retry : ℕ) (first : List Leads) (fs : List Exchanged) (t : Tour) (as' : List Leads) → IsToured lens recover retry first fs t as' → IsLed lens recover retry first fs t.missed as'
toured_led lens recover retry first fs t as' IsToured.start = IsLed.start
toured_led lens recover retry first fs t as' (IsToured.on gs s bs f us visit r l o) =
    subst (λ z. IsLed lens recover retry first fs z as') (missed_same lens recover retry f.fate as' s visit) (IsLed.on gs s.missed bs f us (toured_led lens recover retry first gs s bs r) l)

-- BY STATIONS
stations_are : (ring : List Stop) (ps : List ℕ) → stations_at ring ps ≡ map (λ s. s.station) (stops_at ring ps)
stations_are ring [] = refl
stations_are ring (p ∷ ps) = ap (λ z. (stop_at ring p).station ∷ z) (stations_are ring ps)

filtered_same : (ring : List Stop) (members : List Member) (live : ℕ → Bool) (ps : List ℕ) → ((k : ℕ) → live k ≡ is_live_in (stop_at ring k).station members) → filter (λ s. is_live_in s.station members) (stops_at ring ps) ≡ stops_at ring (filter live ps)
filtered_same ring members live [] h = refl
filtered_same ring members live (p ∷ ps) h =
    ap (λ (z : Bool). cond z (stop_at ring p ∷ filter (λ s. is_live_in s.station members) (stops_at ring ps)) (filter (λ s. is_live_in s.station members) (stops_at ring ps))) (sym (h p)) ∙ go (live p) (filtered_same ring members live ps h)
  where
    go : (z : Bool) → filter (λ s. is_live_in s.station members) (stops_at ring ps) ≡ stops_at ring (filter live ps) →
        cond z (stop_at ring p ∷ filter (λ s. is_live_in s.station members) (stops_at ring ps)) (filter (λ s. is_live_in s.station members) (stops_at ring ps)) ≡ stops_at ring (cond z (p ∷ filter live ps) (filter live ps))
    go true e = ap (λ z. stop_at ring p ∷ z) e
    go false e = e

-- the slaves in the order of the ring from a place on
opened_here : (ring : List Stop) (opened : ℕ) → opened < length ring → drop opened ring ≡ stop_at ring opened ∷ drop (opened + 1) ring
opened_here ring opened l = let e : suc opened ≡ opened + 1 = omega arith in drop_here ring opened l ∙ ap (λ z. stop_at ring opened ∷ drop z ring) e

pub none_open : (opened : ℕ) (ring : List Stop) → length ring ≤ opened → drop opened ring ≡ []
none_open zero [] l = refl
none_open zero (s ∷ ss) l = absurd (omega (arith, l))
none_open (suc n) [] l = refl
none_open (suc n) (s ∷ ss) l = none_open n ss (omega (arith, l))

pub visit_by_stations : (ring : List Stop) (members : List Member) (live : ℕ → Bool) (again : Option (List ℕ)) (opened : ℕ) (last : Option ℕ) → AreOf ring members → AreApart ring → IsPlace ring last → ((k : ℕ) → live k ≡ is_live_in (stop_at ring k).station members) →
    stations_at ring (visit_of live (length ring) again opened last) ≡ visit_stations (stations_of ring again) (drop opened ring) (round ring (last_station ring last) members)
visit_by_stations ring members live (Some same) opened last a d p h = refl
visit_by_stations ring members live None opened last a d p h = go (nat_lt opened (length ring)) refl
  where
    first : opened < length ring → visit_stations None (drop opened ring) (round ring (last_station ring last) members) ≡ (stop_at ring opened).station ∷ []
    first l = ap (λ z. visit_stations None z (round ring (last_station ring last) members)) (opened_here ring opened l)

    later : length ring ≤ opened → visit_stations None (drop opened ring) (round ring (last_station ring last) members) ≡ map (λ s. s.station) (round ring (last_station ring last) members)
    later l = ap (λ z. visit_stations None z (round ring (last_station ring last) members)) (none_open opened ring l)

    go : (z : Bool) → nat_lt opened (length ring) ≡ z → stations_at ring (visited_of z live (if z then drop 0 (opened ∷ []) else round_left (start_of (length ring) last) (length ring) 0)) ≡ visit_stations None (drop opened ring) (round ring (last_station ring last) members)
    go true e = sym (first (ltb-true opened (length ring) e))
    go false e =
        stations_are ring (filter live (round_left (start_of (length ring) last) (length ring) 0))
        ∙ ap (map (λ s. s.station)) (sym (filtered_same ring members live (round_left (start_of (length ring) last) (length ring) 0) h) ∙ round_as ring members last a d p)
        ∙ sym (later (ltb-false opened (length ring) e))

-- ONE FRAME MORE of a tour
pub toured_on : (lens : ℕ → Lens) (recover retry : ℕ) (first : List Leads) (fs : List Exchanged) (as' : List Leads) (us : List Turn) (f : Exchanged) (t under behind : Tour) (visit : List ℕ) (fate : Fate) → IsToured lens recover retry first fs t as' → IsLedFrame lens (length fs) f.sent as' us →
    under ≡ t → IsTourFrame lens as' f.sent us t visit → f.fate ≡ fate → behind ≡ tour_behind retry fate (lives_behind lens recover retry t.missed (length fs) f us) under visit →
    IsToured lens recover retry first (fs ++ f ∷ []) behind (lives_behind lens recover retry t.missed (length fs) f us)
toured_on lens recover retry first fs as' us f t under behind visit fate r l e o is b =
    let lives = lives_behind lens recover retry t.missed (length fs) f us in
    subst (λ z. IsToured lens recover retry first (fs ++ f ∷ []) z lives) (sym (b ∙ (λ i. tour_behind retry (sym is i) lives (e i) visit))) (IsToured.on fs t as' f us visit r l o)
