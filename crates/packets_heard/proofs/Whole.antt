-- THE VISIT OF A FRAME, by places, is the whole one of the tour by stations.
use Rattle.std.proofs.Common.{◌≡◌, ◌<◌, ◌≤◌, ◌+◌, ℕ, Bool, true, false, Option, Some, None, List, [], ◌∷◌, ◌++◌, refl, sym, ap, ◌∙◌, subst, arith, length, drop, append-nil}
use Rattle.std.specs.Prelude.{nat_lt, cond, filter, if◌then◌else◌}
use Rattle.std.proofs.lemmas.Bool.{ltb-true, ltb-false, le-ltb}
use Rattle.master_node.specs.of_frame_view.Seen.{seen}
use Rattle.master_node.specs.of_frame_view.View.{Lens}
use Rattle.master_node.specs.of_life_model.Tours.{Member, is_live_in, round}
use Rattle.master_node.specs.of_life_runs.Led.{Leads, Turn, IsLedFrame}
use Rattle.master_node.specs.Toured.{turn_share}
use Rattle.master_node.specs.of_master_tour.Orders.{start_of, round_left, visited_of}
use Rattle.master_node.specs.of_master_tour.Toured.{Tour, IsOfTour, LeavesOut, visit_of}
use Rattle.slave_server.specs.of_segment_model.Visits.{Stop, IsVisit, carried}
use Rattle.packets_heard.specs.Toured.{AreAt, stations_of}
use Rattle.packets_heard.specs.Visits.{AreOf, AreApart, IsPlace, Comes, GoesThrough, stop_at, stations_at, last_station}
use Rattle.packets_heard.proofs.Carried.{carried_are}
use Rattle.packets_heard.proofs.Orders.{drop_here, round_is_visit}
use Rattle.packets_heard.proofs.Toured.{none_open}

-- ONE BEHIND THE OTHER, up to the first that has no room
module _ (size : ℕ) (ring : List Stop) (members : List Member) (live : ℕ → Bool) (area : ℕ → ℕ) (alive : (k : ℕ) → live k ≡ is_live_in (stop_at ring k).station members) (wide : (k : ℕ) → area k ≡ (stop_at ring k).area) where
  through : (lefts places rest : List ℕ) → filter live lefts ≡ places ++ rest → ((p : ℕ) (ps : List ℕ) → rest ≡ p ∷ ps → 1486 < size + area p) → GoesThrough size ring members lefts places
  through [] [] rest e h = tt
  through [] (c ∷ cs) rest e h = absurd (cc)
  through (p ∷ ps) places rest e h = subst (λ z. Comes z size (stop_at ring p) p places (λ w. GoesThrough size ring members ps w)) (alive p) (go (live p) places (λ qs f. through ps qs rest f h) e)
    where
      go : (z : Bool) (qs : List ℕ) → ((rs : List ℕ) → filter live ps ≡ rs ++ rest → GoesThrough size ring members ps rs) → cond z (p ∷ filter live ps) (filter live ps) ≡ qs ++ rest → Comes z size (stop_at ring p) p qs (λ w. GoesThrough size ring members ps w)
      go false qs r f = r qs f
      go true [] r f = let l = h p (filter live ps) (sym f) in let a = wide p in omega (arith, l, a)
      go true (c ∷ qs) r f = ((let q : c ≡ p = cc in q), r qs (let q : filter live ps ≡ qs ++ rest = cc in q))

  whole_round : (opened : ℕ) (last : Option ℕ) (places rest : List ℕ) → AreOf ring members → AreApart ring → IsPlace ring last → length ring ≤ opened → 1 ≤ length places → filter live (round_left (start_of (length ring) last) (length ring) 0) ≡ places ++ rest → LeavesOut size area None rest →
      IsVisit size None [] (round ring (last_station ring last) members) (stations_at ring places)
  whole_round opened last places rest a d l o n e h =
      round_is_visit size opened ring members last [] places a d l o n
      (subst (λ (z : Bool). GoesThrough size ring members (if z then drop 0 (opened ∷ []) else round_left (start_of (length ring) last) (length ring) 0) places) (sym (le-ltb opened (length ring) o))
      (through (round_left (start_of (length ring) last) (length ring) 0) places rest e (λ p ps r. subst (λ z. LeavesOut size area None z) r h)))

  pub whole_visit : (again : Option (List ℕ)) (opened : ℕ) (last : Option ℕ) (places rest : List ℕ) → AreOf ring members → AreApart ring → IsPlace ring last → 1 ≤ length places → visit_of live (length ring) again opened last ≡ places ++ rest → LeavesOut size area again rest →
      IsVisit size (stations_of ring again) (drop opened ring) (round ring (last_station ring last) members) (stations_at ring places)
  whole_visit (Some same) opened last places [] a d l n e h = ap (stations_at ring) (sym (e ∙ append-nil places))
  whole_visit (Some same) opened last places (p ∷ ps) a d l n e h = absurd h
  whole_visit None opened last places rest a d l n e h = go (nat_lt opened (length ring)) refl e
    where
      one : (qs : List ℕ) → 1 ≤ length qs → opened ∷ [] ≡ qs ++ rest → stations_at ring qs ≡ (stop_at ring opened).station ∷ []
      one [] m f = absurd (omega (arith, m))
      one (c ∷ []) m f = ap (λ z. (stop_at ring z).station ∷ []) (let q : c ≡ opened = cc in q)
      one (c ∷ b ∷ qs) m f = absurd (let q : [] ≡ b ∷ (qs ++ rest) = cc in cc)

      go : (z : Bool) → nat_lt opened (length ring) ≡ z → visited_of z live (if z then drop 0 (opened ∷ []) else round_left (start_of (length ring) last) (length ring) 0) ≡ places ++ rest →
          IsVisit size None (drop opened ring) (round ring (last_station ring last) members) (stations_at ring places)
      go true s f = subst (λ z. IsVisit size None z (round ring (last_station ring last) members) (stations_at ring places)) (sym (drop_here ring opened (ltb-true opened (length ring) s))) (one places n f)
      go false s f =
          let o = ltb-false opened (length ring) s in
          subst (λ z. IsVisit size None z (round ring (last_station ring last) members) (stations_at ring places)) (sym (none_open opened ring o)) (whole_round opened last places rest a d l o n f h)

-- THE STATIONS THAT A FRAME IS ADDRESSED TO
pub visit_whole : (lens : ℕ → Lens) (ring : List Stop) (members : List Member) (made : ℕ) (octets : List ℕ) (as' : List Leads) (us : List Turn) (live : ℕ → Bool) (size : ℕ) (area : ℕ → ℕ) (t : Tour) (visit : List ℕ) → length ring ≤ 16 → length us ≡ length ring → AreAt ring 0 us → AreOf ring members → AreApart ring →
    IsPlace ring t.last → ((k : ℕ) → live k ≡ is_live_in (stop_at ring k).station members) → ((k : ℕ) → area k ≡ (stop_at ring k).area) → IsLedFrame lens made octets as' us → IsOfTour (λ u. turn_share u) live size area t us (length (seen lens octets)) visit →
    IsVisit size (stations_of ring t.again) (drop t.opened ring) (round ring (last_station ring t.last) members) (carried ring (seen lens octets))
visit_whole lens ring members made octets as' us live size area t visit few long at a d p h w f o =
    subst (λ z. IsVisit size (stations_of ring t.again) (drop t.opened ring) (round ring (last_station ring t.last) members) z) (sym (carried_are lens ring made octets as' us live size area t visit (subst (λ n. n ≤ 16) (sym long) few) at f o))
    (whole_visit size ring members live area h w t.again t.opened t.last o.places o.first.rest a d p o.first.some (ap (λ n. visit_of live n t.again t.opened t.last) (sym long) ∙ o.first.split) o.leaves)
