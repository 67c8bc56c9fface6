-- What a frame leaves out of its visit.
use Rattle.std.proofs.Common.{◌≡◌, ◌≤◌, ◌-◌, ℕ, zero, suc, Bool, true, false, Option, None, List, [], ◌∷◌, ◌++◌, refl, sym, ap, ◌∙◌, subst, arith, length, length-append, append-nil}
use Rattle.std.specs.Prelude.{cond, filter, map, nat_lt, if◌then◌else◌}
use Rattle.life_runs.specs.of_frame_view.Shares.{AllFrom, Lived}
use Rattle.life_runs.specs.of_life_model.Lives.{Spot}
use Rattle.life_runs.specs.Led.{Leads}
use Rattle.life_runs.specs.of_frame_view.View.{Lens}
use Rattle.life_runs.specs.of_mailbox_master.Any.{in_area_len}
use Rattle.life_runs.specs.of_master_duty.Reply.{Reply}
use Rattle.life_runs.specs.of_master_hand.Spoken.{Asked}
use Rattle.life_runs.specs.of_master_hand.declared.hand.InHand.{InHand}
use Rattle.life_runs.specs.of_master_side.Again.{HasNoRoom, area_of, larger}
use Rattle.life_runs.specs.of_master_side.declared.hand.Hand.{Ghosts}
use Rattle.life_runs.specs.of_master_tour.Goes.{is_live, holds_at}
use Rattle.life_runs.specs.of_master_tour.Made.{IsPlanned}
use Rattle.life_runs.specs.of_master_tour.Orders.{is_fixed, places_from, round_left, start_of, visited_of, visits_left}
use Rattle.life_runs.specs.of_master_tour.Toured.{LeavesOut, visit_of, visit_on}
use Rattle.life_runs.specs.of_master_tour.declared.stop.Stop.{Stop}
use Rattle.master_node.specs.Rooms.{FitFrom, FitUnder, IsSentStop, LeavesFull, area_at, area_in}
use Rattle.master_node.specs.Shows.{lived_of}
use Rattle.master_node.specs.Toured.{HasVisited, again_of}
use Rattle.master_node.specs.declared.node.MasterNode.{MasterNode}
use Rattle.master_node.proofs.Fits.{fit_wider}
use Rattle.master_node.proofs.Lefts.{true_false}

-- the visits that are left of a frame that was begun so
abbrev pub left_of : MasterNode → ℕ → List ℕ
left_of m passed = visited_of (is_fixed m.tour.again m.tour.opened (length m.tour.stops.items)) (λ k. holds_at (λ s. is_live s.stand) m.tour.stops.items k) (visits_left m.tour.again m.tour.visit.items m.tour.opened (length m.tour.stops.items) m.tour.last passed)

-- WHAT THE FRAME LEAVES OUT of a round: nothing, or it has no room for the first left out
pub leaves_none : {G : Ghosts InHand} (octets : List ℕ) (ss : List (Stop InHand G)) (again : Bool) (rest : List ℕ) → rest ≡ [] → LeavesFull octets ss again rest
leaves_none octets ss again rest h = subst (λ z. LeavesFull octets ss again z) (sym h) tt

pub leaves_one : {G : Ghosts InHand} (octets : List ℕ) (ss : List (Stop InHand G)) (again : Bool) (p : ℕ) (ps : List ℕ) → (again ≡ true → ⊥) → (holds_at (λ s. is_live s.stand) ss p ≡ true → HasNoRoom octets (area_in ss p)) → LeavesFull octets ss again (p ∷ ps)
leaves_one octets ss true p ps a h = absurd (a refl)
leaves_one octets ss false p ps a h = h

-- a visit has no more slaves than there are
filter_fewer : (live : ℕ → Bool) (xs : List ℕ) → length (filter live xs) ≤ length xs
filter_fewer live [] = omega arith
filter_fewer live (x ∷ xs) = go (live x) (filter_fewer live xs)
  where
    go : (z : Bool) → length (filter live xs) ≤ length xs → length (cond z (x ∷ filter live xs) (filter live xs)) ≤ suc (length xs)
    go true l = omega (arith, l)
    go false l = omega (arith, l)

places_long : (start count k n : ℕ) → length (places_from start count k n) ≡ n
places_long start count k zero = refl
places_long start count k (suc n) = ap suc (places_long start count (suc k) n)

visit_fewer : (live : ℕ → Bool) (opened count : ℕ) (last : Option ℕ) (visit : List ℕ) → count ≤ 16 → length (visited_of (is_fixed false opened count) live (visits_left false visit opened count last 0)) ≤ 16
visit_fewer live opened count last visit few = go (nat_lt opened count)
  where
    go : (z : Bool) → length (visited_of z live (if z then opened ∷ [] else round_left (start_of count last) count 0)) ≤ 16
    go true = omega arith
    go false = let a = filter_fewer live (round_left (start_of count last) count 0) in let b = places_long (start_of count last) count 0 (count - 0) in omega (arith, a, b, few)

pub few_stops : (m : MasterNode) → length m.tour.stops.items ≤ 16
few_stops m = let a = m.paired in let b = m.few in let c = m.tour.stops.ok.0 in omega (arith, a, b, c)

-- behind sixteen datagrams none is left
pub none_left : (m : MasterNode) (places rest : List ℕ) → length m.tour.stops.items ≤ 16 → (m.tour.again ≡ true → length m.tour.visit.items ≤ 16) → left_of m 0 ≡ places ++ rest → 16 ≤ length places → rest ≡ []
none_left m places rest few again split many =
    let whole = most m.tour.again refl in
    let both = ap length split ∙ length-append places rest in
    go rest (omega (arith, whole, both, many))
  where
    live : ℕ → Bool
    live k = holds_at (λ s. is_live s.stand) m.tour.stops.items k

    most : (z : Bool) → m.tour.again ≡ z → length (left_of m 0) ≤ 16
    most true e = subst (λ z. length (visited_of (is_fixed z m.tour.opened (length m.tour.stops.items)) live (visits_left z m.tour.visit.items m.tour.opened (length m.tour.stops.items) m.tour.last 0)) ≤ 16) (sym e) (again e)
    most false e = subst (λ z. length (visited_of (is_fixed z m.tour.opened (length m.tour.stops.items)) live (visits_left z m.tour.visit.items m.tour.opened (length m.tour.stops.items) m.tour.last 0)) ≤ 16) (sym e)
        (visit_fewer live m.tour.opened (length m.tour.stops.items) m.tour.last m.tour.visit.items few)

    go : (xs : List ℕ) → length xs ≤ 0 → xs ≡ []
    go [] l = refl
    go (x ∷ xs) l = absurd (omega (arith, l))

-- a slave of a round is live
filter_live : (live : ℕ → Bool) (xs places : List ℕ) (p : ℕ) (ps : List ℕ) → filter live xs ≡ places ++ p ∷ ps → live p ≡ true
filter_live live [] [] p ps e = absurd (cc)
filter_live live [] (q ∷ places) p ps e = absurd (cc)
filter_live live (x ∷ xs) places p ps e = go (live x) refl places (λ qs f. filter_live live xs qs p ps f) e
  where
    go : (z : Bool) → live x ≡ z → (qs : List ℕ) → ((rs : List ℕ) → filter live xs ≡ rs ++ p ∷ ps → live p ≡ true) → cond z (x ∷ filter live xs) (filter live xs) ≡ qs ++ p ∷ ps → live p ≡ true
    go true h [] r e = ap live (sym (let q : x ≡ p = cc in q)) ∙ h
    go true h (q ∷ qs) r e = r qs (let w : filter live xs ≡ qs ++ p ∷ ps = cc in w)
    go false h qs r e = r qs e

pub visit_live : (live : ℕ → Bool) (opened count : ℕ) (last : Option ℕ) (places : List ℕ) (p : ℕ) (ps : List ℕ) → 1 ≤ length places → visit_of live count None opened last ≡ places ++ p ∷ ps → live p ≡ true
visit_live live opened count last places p ps some e = go (nat_lt opened count) e
  where
    go : (z : Bool) → visited_of z live (if z then opened ∷ [] else round_left (start_of count last) count 0) ≡ places ++ p ∷ ps → live p ≡ true
    go true e = let n = ap length e ∙ length-append places (p ∷ ps) in absurd (omega (arith, n, some))
    go false e = filter_live live (round_left (start_of count last) count 0) places p ps e

-- WHAT IT LEAVES OUT, by the length in its header and by the areas of the plan
pub leaves_out : {G : Ghosts InHand} (octets : List ℕ) (ss : List (Stop InHand G)) (again : Bool) (visit rest : List ℕ) (size : ℕ) (area : ℕ → ℕ) → size ≡ length octets - 16 → ((k : ℕ) → area_in ss k ≡ area k) →
    ((p : ℕ) (ps : List ℕ) → again ≡ false → rest ≡ p ∷ ps → holds_at (λ s. is_live s.stand) ss p ≡ true) → LeavesFull octets ss again rest → LeavesOut size area (again_of again visit) rest
leaves_out octets ss again visit [] size area sized areas live l = tt
leaves_out octets ss true visit (p ∷ ps) size area sized areas live l = l
leaves_out octets ss false visit (p ∷ ps) size area sized areas live l = let n = l (live p ps refl refl) in let a = areas p in omega (arith, n, a, sized)

-- THE AREAS OF THE SLAVES are those of the plan
pub areas_from : {G : Ghosts InHand} (lens : ℕ → Lens) (P : ℕ → Lived Asked Reply → Stop InHand G → Type 0) → ((i : ℕ) (a : Lived Asked Reply) (s : Stop InHand G) → P i a s → area_of s.side ≡ larger (lens a.spot.station).out (lens a.spot.station).back) →
    (n : ℕ) (as' : List Leads) (ss : List (Stop InHand G)) → AllFrom P n (map lived_of as') ss → (k : ℕ) → area_in ss k ≡ area_at lens as' k
areas_from lens P h n [] [] e k = refl
areas_from lens P h n [] (s ∷ ss) e k = absurd e
areas_from lens P h n (a ∷ as') [] e k = absurd e
areas_from lens P h n (a ∷ as') (s ∷ ss) e zero = h n a.lived s e.0
areas_from lens P h n (a ∷ as') (s ∷ ss) e (suc k) = areas_from lens P h (suc n) as' ss e.1 k

pub area_planned : {G : Ghosts InHand} (lens : ℕ → Lens) (spot : Spot) (s : Stop InHand G) → IsPlanned lens spot s.side.station s.place s.start s.stand s.side.out.len (in_area_len s.side.inn) → area_of s.side ≡ larger (lens spot.station).out (lens spot.station).back
area_planned lens spot s p = λ i. larger ((sym p.out_is ∙ ap (λ z. (lens z).out) p.stands.station_is) i) ((sym p.back_is ∙ ap (λ z. (lens z).back) p.stands.station_is) i)

-- those that it carries are the ones that come again, should it be lost
pub visits_are : (octets : List ℕ) (m n : MasterNode) (h : HasVisited octets m n) → n.tour.visit.items ≡ h.places
visits_are octets m n h = go m.tour.again refl
  where
    none : (z : Bool) (rest : List ℕ) → z ≡ true → LeavesFull octets n.tour.stops.items z rest → rest ≡ []
    none z [] e l = refl
    none true (p ∷ ps) e l = absurd l
    none false (p ∷ ps) e l = absurd (true_false false e refl)

    go : (z : Bool) → m.tour.again ≡ z → n.tour.visit.items ≡ h.places
    go false e = h.comes ∙ ap (λ z. visit_on (again_of z m.tour.visit.items) h.places) e
    go true e =
        let live = λ (k : ℕ). holds_at (λ s. is_live s.stand) m.tour.stops.items k in
        let same = ap (λ z. visit_of live (length m.tour.stops.items) (again_of z m.tour.visit.items) m.tour.opened m.tour.last) (sym e) ∙ h.split ∙ ap (λ z. h.places ++ z) (none m.tour.again h.rest e h.leaves) ∙ append-nil h.places in
        h.comes ∙ ap (λ z. visit_on (again_of z m.tour.visit.items) h.places) e ∙ same

pub fit_under : (octets : List ℕ) (m n : MasterNode) → length octets ≤ 1514 → HasVisited octets m n → FitUnder n.tour.visit.items n.tour.stops.items
fit_under octets m n small h =
    let visits = visits_are octets m n h in
    record {
      few = let e = ap length visits in let c = h.count in let l = h.most in omega (arith, e, c, l);
      fit = subst (λ z. FitFrom (λ s. IsSentStop s) n.tour.stops.items 1514 16 z) (sym visits) (fit_wider (λ s. IsSentStop s) n.tour.stops.items (length octets) 1514 16 h.places small h.way);
    }
