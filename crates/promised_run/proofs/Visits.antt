-- EACH FRAME OF A BOOK is of a visit of the tour.
use Rattle.std.proofs.Common.{◌≡◌, ◌≤◌, ◌<◌, ◌+◌, ◌==◌, ℕ, zero, suc, Bool, true, false, Option, Some, None, List, [], ◌∷◌, map, length, refl, sym, ap, ◌∙◌, subst, arith}
use Rattle.std.specs.Prelude.{nat_lt, if◌then◌else◌, All, ⊤}
use Rattle.std.proofs.lemmas.Bool.{eq-eqb, ne_eqb}
use Rattle.std.proofs.lemmas.List.{length-map}
use Rattle.std.proofs.lemmas.List.Elements.{All-head, All-tail}
use Rattle.seen_slaves.specs.of_frame_view.Shares.{AllFrom}
use Rattle.run_promises.specs.of_datagrams.Datagram as Raw
use Rattle.seen_slaves.specs.of_frame_view.View.{Lens}
use Rattle.seen_slaves.specs.of_frame_view.Seen.{seen}
use Rattle.run_promises.specs.of_life_model.Lives.{Spot}
use Rattle.run_promises.specs.of_life_model.Tours.{Member, is_live_in}
use Rattle.gateway_run.proofs.of_life_runs.First.{apart_from, have_lens}
use Rattle.run_promises.specs.of_life_runs.First.{lens_of, first_leads, spot_of, IsElsewhere, AreApart, HaveLens}
use Rattle.run_promises.specs.of_life_runs.Led.{Exchanged, Leads, Turn, AllTurn, IsLed, IsLedFrame}
use Rattle.run_promises.specs.of_master_node.Shows.{is_live_lead, is_opening_lead}
use Rattle.run_promises.specs.of_master_node.Toured.{turn_share}
use Rattle.run_promises.specs.of_master_node.Rooms.{area_at}
use Rattle.seen_slaves.specs.of_master_side.Again.{larger}
use Rattle.run_promises.specs.of_master_tour.Goes.{holds_at}
use Rattle.run_promises.specs.of_master_tour.Sizes.{frame_size}
use Rattle.run_promises.specs.of_master_tour.Orders.{last_place, last_behind}
use Rattle.run_promises.specs.of_master_tour.Toured.{Tour, IsOfTour, HaveFrom, new_tour, visit_on, goes_on, has_number}
use Rattle.promised_run.specs.Visits.{stop_of, stops_of, members_of, IsVisit, AllVisit}
use Rattle.seen_slaves.specs.of_run_frames.Slaves.{AllCome}
use Rattle.run_promises.specs.of_segment_model.Visits.{Stop, station_at}
use Rattle.run_promises.specs.of_segment_plan.Sound.{IsPlan, IsSlave}
use Rattle.run_promises.specs.of_segment_plan.declared.plan.Scenario.{Scenario}
use Rattle.run_promises.specs.of_segment_plan.declared.slave.SlaveSpec.{SlaveSpec}
use Rattle.run_promises.specs.of_segment_ring.declared.wire.Fate.{Fate}
use Rattle.run_promises.specs.of_segment_ring.declared.wire.Fate.TheVariants as Fates
use Rattle.run_promises.specs.of_packets_heard.Toured.{AreAt, IsToured, tour_behind, lives_behind}
use Rattle.run_promises.specs.of_packets_heard.Visits as Stops
use Rattle.run_promises.specs.of_packets_heard.Visits.{IsPlace, stop_at}
use Rattle.run_promises.proofs.of_packets_heard.Toured.{toured_led}
use Rattle.run_promises.proofs.of_packets_heard.Whole.{visit_whole}

-- THE SLAVES OF A PLAN stand at their places, with what their master has of them
abbrev pub AllStand : ℕ → List SlaveSpec → List Leads → Type 0
AllStand p ss as' = AllFrom (λ (i : ℕ) (s : SlaveSpec) (a : Leads). a.lived.spot ≡ spot_of i s) p ss as'

-- so they do before a frame
abbrev pub AllTurnStand : ℕ → List SlaveSpec → List Turn → Type 0
AllTurnStand p ss us = AllFrom (λ (i : ℕ) (s : SlaveSpec) (u : Turn). u.lived.spot ≡ spot_of i s) p ss us

come_stand : (plan : Scenario) (p : ℕ) (ss : List SlaveSpec) (as' : List Leads) → AllCome plan p ss as' → AllStand p ss as'
come_stand plan p [] [] c = tt
come_stand plan p [] (a ∷ as') c = absurd c
come_stand plan p (s ∷ ss) [] c = absurd c
come_stand plan p (s ∷ ss) (a ∷ as') c = (c.0.spot, come_stand plan (suc p) ss as' c.1)

turns_stand : (lens : ℕ → Lens) (made : ℕ) (ds : List Raw.Datagram) (p : ℕ) (ss : List SlaveSpec) (as' : List Leads) (us : List Turn) → AllStand p ss as' → AllTurn lens made ds as' us → AllTurnStand p ss us
turns_stand lens made ds p [] [] [] c t = tt
turns_stand lens made ds p [] [] (u ∷ us) c t = absurd t
turns_stand lens made ds p [] (a ∷ as') us c t = absurd c
turns_stand lens made ds p (s ∷ ss) [] us c t = absurd c
turns_stand lens made ds p (s ∷ ss) (a ∷ as') [] c t = absurd t
turns_stand lens made ds p (s ∷ ss) (a ∷ as') (u ∷ us) c t = (t.0.next.spot ∙ c.0, turns_stand lens made ds (suc p) ss as' us c.1 t.1)

many_turns : (p : ℕ) (ss : List SlaveSpec) (us : List Turn) → AllTurnStand p ss us → length us ≡ length ss
many_turns p [] [] c = refl
many_turns p [] (u ∷ us) c = absurd c
many_turns p (s ∷ ss) [] c = absurd c
many_turns p (s ∷ ss) (u ∷ us) c = ap suc (many_turns (suc p) ss us c.1)

are_at : (ring : List Stop) (p : ℕ) (ss : List SlaveSpec) (us : List Turn) → ((k : ℕ) → station_at ring (p + k) ≡ station_at (map (λ s. stop_of s) ss) k) → AllTurnStand p ss us → AreAt ring p us
are_at ring p [] [] h c = tt
are_at ring p [] (u ∷ us) h c = absurd c
are_at ring p (s ∷ ss) [] h c = absurd c
are_at ring p (s ∷ ss) (u ∷ us) h c =
    let here : p ≡ p + 0 = omega arith in (
      ap (λ (z : Spot). z.place) c.0,
      ap (station_at ring) here ∙ h 0 ∙ ap (λ (z : Spot). z.station ∷ []) (sym c.0),
      are_at ring (suc p) ss us (λ k. let next : suc p + k ≡ p + suc k = omega arith in ap (station_at ring) next ∙ h (suc k)) c.1,
    )

-- THE STOPS OF A PLAN have different stations
one_apart : (s : SlaveSpec) (ss : List SlaveSpec) → IsElsewhere s.station ss → Stops.IsApart (stop_of s) (map (λ s. stop_of s) ss)
one_apart s [] e = tt
one_apart s (t ∷ ss) e = (e.0, one_apart s ss e.1)

stops_apart : (ss : List SlaveSpec) → AreApart ss → Stops.AreApart (map (λ s. stop_of s) ss)
stops_apart [] a = tt
stops_apart (s ∷ ss) a = (one_apart s ss a.0, stops_apart ss a.1)

not_there : (station : ℕ) (ss : List SlaveSpec) (k : ℕ) → 1 ≤ station → IsElsewhere station ss → (station == (stop_at (map (λ s. stop_of s) ss) k).station) ≡ false
not_there station [] zero some e = ne_eqb station 0 (λ q. omega (arith, q, some))
not_there station [] (suc k) some e = ne_eqb station 0 (λ q. omega (arith, q, some))
not_there station (s ∷ ss) zero some e = e.0
not_there station (s ∷ ss) (suc k) some e = not_there station ss k some e.1

-- ITS MEMBERS are these stops, and a slave is live there by its life
module _ (recover : ℕ) where
  stops_are : (p : ℕ) (ss : List SlaveSpec) (as' : List Leads) → AllStand p ss as' → map (λ (m : Member). m.stop) (members_of recover ss as') ≡ map (λ s. stop_of s) ss
  stops_are p [] [] c = refl
  stops_are p [] (a ∷ as') c = absurd c
  stops_are p (s ∷ ss) [] c = absurd c
  stops_are p (s ∷ ss) (a ∷ as') c = ap (λ z. stop_of s ∷ z) (stops_are (suc p) ss as' c.1)

  live_at : (p : ℕ) (ss : List SlaveSpec) (as' : List Leads) (k : ℕ) → AllStand p ss as' → AreApart ss → All IsSlave ss → holds_at is_live_lead as' k ≡ is_live_in (stop_at (map (λ s. stop_of s) ss) k).station (members_of recover ss as')
  live_at p [] [] k c a x = refl
  live_at p [] (b ∷ as') k c a x = absurd c
  live_at p (s ∷ ss) [] k c a x = absurd c
  live_at p (s ∷ ss) (b ∷ as') zero c a x = sym (ap (λ (z : Bool). if z then is_live_lead b else is_live_in s.station (members_of recover ss as')) (eq-eqb s.station s.station refl))
  live_at p (s ∷ ss) (b ∷ as') (suc k) c a x =
      live_at (suc p) ss as' k c.1 a.1 (All-tail IsSlave s ss x)
      ∙ sym (ap (λ (z : Bool). if z then is_live_lead b else is_live_in (stop_at (map (λ s. stop_of s) ss) k).station (members_of recover ss as')) (not_there s.station ss k (All-head IsSlave s ss x).some_station a.0))

-- THE AREAS OF THE SLAVES are those of the stops
module _ (lens : ℕ → Lens) where
  area_of_place : (p : ℕ) (ss : List SlaveSpec) (as' : List Leads) (k : ℕ) → AllStand p ss as' → HaveLens lens ss → area_at lens as' k ≡ (stop_at (map (λ s. stop_of s) ss) k).area
  area_of_place p [] [] k c h = refl
  area_of_place p [] (a ∷ as') k c h = absurd c
  area_of_place p (s ∷ ss) [] k c h = absurd c
  area_of_place p (s ∷ ss) (a ∷ as') zero c h = (λ i. larger (lens (ap (λ (z : Spot). z.station) c.0 i)).out (lens (ap (λ (z : Spot). z.station) c.0 i)).back) ∙ (λ i. larger (h.0.0 i) (h.0.1 i))
  area_of_place p (s ∷ ss) (a ∷ as') (suc k) c h = area_of_place (suc p) ss as' k c.1 h.1

-- THE PLACES OF A TOUR are those of the ring
abbrev pub AllBelow : ℕ → List ℕ → Type 0
AllBelow n [] = ⊤
AllBelow n (p ∷ ps) = (p < n) × AllBelow n ps

abbrev pub AgainBelow : ℕ → Option (List ℕ) → Type 0
AgainBelow n None = ⊤
AgainBelow n (Some ps) = AllBelow n ps

pub record Placed (ring : List Stop) (t : Tour) : Type 0 where
  pub last : IsPlace ring t.last
  pub again : AgainBelow (length ring) t.again

inside : (test : Turn → Bool) (us : List Turn) (p : ℕ) → holds_at test us p ≡ true → p < length us
inside test [] p e = absurd (let bad : false ≡ true = e in cc)
inside test (u ∷ us) zero e = omega arith
inside test (u ∷ us) (suc p) e = let r = inside test us p e in omega (arith, r)

have_below : (us : List Turn) (k : ℕ) (ps : List ℕ) → HaveFrom (λ u. turn_share u) us k ps → AllBelow (length us) ps
have_below us k [] h = tt
have_below us k (p ∷ ps) h = (inside (λ u. has_number k (turn_share u)) us p h.0, have_below us (suc k) ps h.1)

visit_below : (n : ℕ) (again : Option (List ℕ)) (ps : List ℕ) → AgainBelow n again → AllBelow n ps → AllBelow n (visit_on again ps)
visit_below n (Some same) ps a b = a
visit_below n None ps a b = b

last_below : (n p : ℕ) (ps : List ℕ) → p < n → AllBelow n ps → last_place p ps < n
last_below n p [] l b = l
last_below n p (q ∷ ps) l b = last_below n q ps b.0 b.1

module _ (ring : List Stop) where
  last_placed : (opened count : ℕ) (last : Option ℕ) (visit : List ℕ) → IsPlace ring last → AllBelow (length ring) visit → IsPlace ring (last_behind opened count last visit)
  last_placed opened count last [] l b = l
  last_placed opened count last (p ∷ ps) l b = go (nat_lt opened count)
    where
      go : (z : Bool) → IsPlace ring (if z then None else Some (last_place p ps))
      go true = tt
      go false = last_below (length ring) p ps b.0 b.1

  goes_placed : (as' : List Leads) (t : Tour) (visit : List ℕ) → Placed ring t → AllBelow (length ring) visit → Placed ring (goes_on is_opening_lead as' t visit)
  goes_placed as' t visit h b = record { last = last_placed t.opened (length as') t.last visit h.last b; again = tt }

  behind_placed : (retry : ℕ) (fate : Fate) (as' : List Leads) (t : Tour) (visit : List ℕ) → Placed ring t → AllBelow (length ring) visit → Placed ring (tour_behind retry fate as' t visit)
  behind_placed retry Fates.Pass as' t visit h b = goes_placed as' t visit h b
  behind_placed retry (Fates.Lost after) as' t visit h b = go (nat_lt t.missed retry)
    where
      go : (z : Bool) → Placed ring (if z then record t { again = Some visit; missed = t.missed + 1 } else goes_on is_opening_lead as' t visit)
      go true = record { last = h.last; again = b }
      go false = goes_placed as' t visit h b

-- ONE FRAME
module _ (plan : Scenario) (is : IsPlan plan) where
  abbrev ring : List Stop
  ring = stops_of plan

  abbrev lens : ℕ → Lens
  lens = lens_of plan.slaves

  long : (us : List Turn) → AllTurnStand 0 plan.slaves us → length us ≡ length ring
  long us c = many_turns 0 plan.slaves us c ∙ sym (length-map plan.slaves (λ s. stop_of s))

  pub none_placed : Placed ring new_tour
  none_placed = record { last = tt; again = tt }

  pub frame_placed : (t : Tour) (lives : List Leads) (fate : Fate) (us : List Turn) (live : ℕ → Bool) (size : ℕ) (area : ℕ → ℕ) (many : ℕ) (visit : List ℕ) → AllTurnStand 0 plan.slaves us → Placed ring t → IsOfTour (λ u. turn_share u) live size area t us many visit →
      Placed ring (tour_behind plan.retry fate lives t visit)
  frame_placed t lives fate us live size area many visit c h o =
      let below : AllBelow (length ring) o.places = subst (λ n. AllBelow n o.places) (long us c) (have_below us 0 o.places o.carries.each) in
      behind_placed ring plan.retry fate lives t visit h (subst (λ v. AllBelow (length ring) v) (sym o.comes) (visit_below (length ring) t.again o.places h.again below))

  -- it carries the slaves of its visit by the lives before it (`as'`), whatever lives (`bs`) its datagrams are asked by
  pub one_visit : (made : ℕ) (t : Tour) (as' bs : List Leads) (f : Exchanged) (us : List Turn) (visit : List ℕ) → AllStand 0 plan.slaves as' → AllTurnStand 0 plan.slaves us → Placed ring t → IsLedFrame lens made f.sent bs us →
      IsOfTour (λ u. turn_share u) (λ k. holds_at is_live_lead as' k) (frame_size f.sent) (λ k. area_at lens as' k) t us (length (seen lens f.sent)) visit → IsVisit plan t as' f
  one_visit made t as' bs f us visit c b h l o =
      let apart : AreApart plan.slaves = apart_from [] 0 plan.slaves is.stations in
      let at : AreAt ring 0 us = are_at ring 0 plan.slaves us (λ k. let same : 0 + k ≡ k = omega arith in ap (station_at ring) same) b in
      let few = length-map plan.slaves (λ s. stop_of s) in
      let most = is.laid.few_slaves in
      visit_whole lens ring (members_of plan.recover plan.slaves as') made f.sent bs us (λ k. holds_at is_live_lead as' k) (frame_size f.sent) (λ k. area_at lens as' k) t visit (omega (arith, few, most)) (long us b) at
      (stops_are plan.recover 0 plan.slaves as' c) (stops_apart plan.slaves apart) h.last (λ k. live_at plan.recover 0 plan.slaves as' k c apart is.laid.slaves) (λ k. area_of_place lens 0 plan.slaves as' k c (have_lens plan.slaves apart)) l o

-- what comes into hand of the slaves of a plan
abbrev pub ComeOf : Scenario → Type 0
ComeOf plan = (fs : List Exchanged) (missed : ℕ) (as' : List Leads) → IsLed (lens_of plan.slaves) plan.recover plan.retry (first_leads plan) fs missed as' → AllCome plan 0 plan.slaves as'

-- ALL FRAMES
module _ (plan : Scenario) (is : IsPlan plan) (comes : ComeOf plan) where
  abbrev Toured : List Exchanged → Tour → List Leads → Type 0
  Toured fs t as' = IsToured (lens_of plan.slaves) plan.recover plan.retry (first_leads plan) fs t as'

  stand : (fs : List Exchanged) (t : Tour) (as' : List Leads) → Toured fs t as' → AllStand 0 plan.slaves as'
  stand fs t as' r = come_stand plan 0 plan.slaves as' (comes fs t.missed as' (toured_led (lens_of plan.slaves) plan.recover plan.retry (first_leads plan) fs t as' r))

  under : (fs : List Exchanged) (t : Tour) (as' : List Leads) (f : Exchanged) (us : List Turn) → Toured fs t as' → IsLedFrame (lens_of plan.slaves) (length fs) f.sent as' us → AllTurnStand 0 plan.slaves us
  under fs t as' f us r l = turns_stand (lens_of plan.slaves) (length fs) l.datagrams 0 plan.slaves as' us (stand fs t as' r) l.each

  placed : (fs : List Exchanged) (t : Tour) (as' : List Leads) → Toured fs t as' → Placed (stops_of plan) t
  placed _ _ _ IsToured.start = none_placed plan is
  placed _ _ _ (IsToured.on fs t as' f us visit r l o) =
      frame_placed plan is t (lives_behind (lens_of plan.slaves) plan.recover plan.retry t.missed (length fs) f us) f.fate us (λ k. holds_at is_live_lead as' k) (frame_size f.sent) (λ k. area_at (lens_of plan.slaves) as' k)
      (length (seen (lens_of plan.slaves) f.sent)) visit (under fs t as' f us r l) (placed fs t as' r) o.visits

  pub all_visit : (fs : List Exchanged) (t : Tour) (as' : List Leads) (r : Toured fs t as') → AllVisit plan r
  all_visit _ _ _ IsToured.start = tt
  all_visit _ _ _ (IsToured.on fs t as' f us visit r l o) = (all_visit fs t as' r, one_visit plan is (length fs) t as' as' f us visit (stand fs t as' r) (under fs t as' f us r l) (placed fs t as' r) l o.visits)
