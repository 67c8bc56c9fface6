-- The visits of a master's tour, by places, are those that the count of frames speaks of.
use Rattle.std.proofs.Common.{◌≡◌, ℕ, zero, suc, ◌+◌, ◌-◌, ◌<◌, ◌≤◌, ◌==◌, ◌&&◌, Bool, true, false, cond, Option, Some, None, List, [], ◌∷◌, ◌++◌, length, filter, refl, sym, ap, ◌∙◌, subst, arith, if◌then◌else◌, eqb-true}
use Rattle.std.specs.Prelude.{nat_lt, not, drop}
use Rattle.std.proofs.lemmas.Bool.{ltb-true, ltb-false}
use Rattle.run_promises.specs.of_life_model.Lives.{Stand}
use Rattle.run_promises.specs.of_life_runs.Led.{Leads, Turn}
use Rattle.run_promises.specs.of_link_mails.Body.{Body}
use Rattle.seen_slaves.specs.of_master_duty.Reply.{Reply}
use Rattle.seen_slaves.specs.of_master_hand.Spoken.{Asked}
use Rattle.run_promises.specs.of_master_node.Shows.{is_led, is_live_lead, is_opening_lead}
use Rattle.run_promises.specs.of_master_node.Toured.{turn_share}
use Rattle.run_promises.specs.of_master_tour.Goes.{holds_at, opened_behind}
use Rattle.run_promises.specs.of_master_tour.Made as Made
use Rattle.run_promises.specs.of_master_tour.Orders as Orders
use Rattle.run_promises.specs.of_master_tour.Stands as Stands
use Rattle.run_promises.specs.of_master_tour.Toured as Tours
use Rattle.run_promises.specs.of_segment_model.Slaves.{Datagram}
use Rattle.seen_slaves.specs.of_run_frames.Clocks.{Clocked, start_of}
use Rattle.seen_slaves.specs.of_run_frames.Led.{AreLed, unders}
use Rattle.seen_slaves.specs.of_run_frames.Orders.{is_live, is_opening, live_at, under_at, is_in, place_in, places_from, live_round, last_of, opened_on}
use Rattle.seen_slaves.specs.of_run_frames.Tours.{VisitOf, PlacesOf, last_lost}

abbrev pub Slave : Type 0
Slave = Clocked Body Asked Reply

-- ---- the slaves of a tour and those that are counted
live_same : (s : Stand) → is_live s ≡ is_led s
live_same (Stand.Opens o) = refl
live_same Stand.Open = refl
live_same Stand.Gone = refl

opening_same : (s : Stand) → is_opening s ≡ Stands.is_opening s
opening_same (Stand.Opens o) = refl
opening_same Stand.Open = refl
opening_same Stand.Gone = refl

pub lives_same : (as' : List Leads) (cs : List Slave) → AreLed as' cs → (k : ℕ) → holds_at is_live_lead as' k ≡ live_at cs k
lives_same [] [] l k = refl
lives_same [] (c ∷ cs) l k = absurd l
lives_same (a ∷ as') [] l k = absurd l
lives_same (a ∷ as') (c ∷ cs) l zero = sym (live_same a.lived.life.stand) ∙ ap (λ z. is_live z.stand) (sym l.1)
lives_same (a ∷ as') (c ∷ cs) l (suc k) = lives_same as' cs l.2 k

opens_same : (a : Leads) (c : Slave) → c.life ≡ a.lived.life → is_opening c.life.stand ≡ is_opening_lead a
opens_same a c e = ap (λ z. is_opening z.stand) e ∙ opening_same a.lived.life.stand

pub long_same : (as' : List Leads) (cs : List Slave) → AreLed as' cs → length as' ≡ length cs
long_same [] [] l = refl
long_same [] (c ∷ cs) l = absurd l
long_same (a ∷ as') [] l = absurd l
long_same (a ∷ as') (c ∷ cs) l = ap suc (long_same as' cs l.2)

-- how many have ended their first bring-up
none_more : (n : ℕ) (cs : List Slave) → length cs ≤ n → opened_on n cs ≡ n
none_more n [] l = refl
none_more zero (c ∷ cs) l = absurd (omega (arith, l))
none_more (suc n) (c ∷ cs) l = ap suc (none_more n cs (omega (arith, l)))

one_more : (n : ℕ) (as' : List Leads) (cs : List Slave) → AreLed as' cs → n < length cs → opened_on n cs ≡ (if holds_at is_opening_lead as' n then n else suc n)
one_more n [] [] l less = absurd (omega (arith, less))
one_more n [] (c ∷ cs) l less = absurd l
one_more n (a ∷ as') [] l less = absurd l
one_more zero (a ∷ as') (c ∷ cs) l less = ap (λ (b : Bool). if b then 0 else 1) (opens_same a c l.1)
one_more (suc n) (a ∷ as') (c ∷ cs) l less = ap suc (one_more n as' cs l.2 (omega (arith, less))) ∙ out (holds_at is_opening_lead as' n)
  where
    out : (b : Bool) → suc (if b then n else suc n) ≡ (if b then suc n else suc (suc n))
    out true = refl
    out false = refl

pub opened_same : (n : ℕ) (as' : List Leads) (cs : List Slave) → AreLed as' cs → opened_on n cs ≡ opened_behind is_opening_lead n as'
opened_same n as' cs l = go (nat_lt n (length as')) refl
  where
    one : (b : Bool) → (if b then n else suc n) ≡ (if not b then n + 1 else n)
    one true = refl
    one false = (let sum : suc n ≡ n + 1 = omega arith in sum)

    go : (b : Bool) → nat_lt n (length as') ≡ b → opened_on n cs ≡ (if b && not (holds_at is_opening_lead as' n) then n + 1 else n)
    go true e = one_more n as' cs l (let less = ltb-true n (length as') e in omega (arith, less, long_same as' cs l)) ∙ one (holds_at is_opening_lead as' n)
    go false e = none_more n cs (let more = ltb-false n (length as') e in omega (arith, more, long_same as' cs l))

-- ---- the places of a round
start_same : (count : ℕ) (last : Option ℕ) → Orders.start_of count last ≡ start_of count last
start_same count None = refl
start_same count (Some p) = refl

places_same : (start count k n : ℕ) → Orders.places_from start count k n ≡ places_from start count k n
places_same start count k zero = refl
places_same start count k (suc n) = ap (λ z. place_in start count k ∷ z) (places_same start count (suc k) n)

filtered : (f g : ℕ → Bool) (xs : List ℕ) → ((k : ℕ) → f k ≡ g k) → filter f xs ≡ filter g xs
filtered f g [] e = refl
filtered f g (x ∷ xs) e = ap (λ b. cond b (x ∷ filter f xs) (filter f xs)) (e x) ∙ ap (λ z. cond (g x) (x ∷ z) z) (filtered f g xs e)

round_same : (live : ℕ → Bool) (count : ℕ) (last : Option ℕ) (cs : List Slave) → ((k : ℕ) → live k ≡ live_at cs k) → filter live (Orders.round_left (Orders.start_of count last) count 0) ≡ live_round count last cs
round_same live count last cs h =
    filtered live (live_at cs) (Orders.round_left (Orders.start_of count last) count 0) h
    ∙ ap (λ s. filter (live_at cs) (Orders.places_from s count 0 (count - 0))) (start_same count last)
    ∙ ap (λ n. filter (live_at cs) (Orders.places_from (start_of count last) count 0 n)) (let none : count - 0 ≡ count = omega arith in none)
    ∙ ap (filter (live_at cs)) (places_same (start_of count last) count 0 count)

-- ---- the slaves of a visit
no_rest : (ps : List ℕ) → ps ++ [] ≡ ps
no_rest [] = refl
no_rest (p ∷ ps) = ap (λ z. p ∷ z) (no_rest ps)

just_one : (n : ℕ) (ps rest : List ℕ) → n ∷ [] ≡ ps ++ rest → 1 ≤ length ps → ps ≡ n ∷ []
just_one n [] rest e l = absurd (omega (arith, l))
just_one n (p ∷ []) rest e l = (let h : n ≡ p = cc in ap (λ z. z ∷ []) (sym h))
just_one n (p ∷ q ∷ ps) rest e l = absurd (cc)

pub all_again : (same ps : List ℕ) (size : ℕ) (area : ℕ → ℕ) → (r : Tours.AreFirst ps same) → Tours.LeavesOut size area (Some same) r.rest → ps ≡ same
all_again same ps size area r leaves = go r.rest r.split leaves
  where
    go : (rest : List ℕ) → same ≡ ps ++ rest → Tours.LeavesOut size area (Some same) rest → ps ≡ same
    go [] e l = sym (e ∙ no_rest ps)
    go (p ∷ rest) e l = absurd l

pub places_are : (again : Option (List ℕ)) (live : ℕ → Bool) (size : ℕ) (area : ℕ → ℕ) (count opened : ℕ) (last : Option ℕ) (cs : List Slave) (ps : List ℕ) → ((k : ℕ) → live k ≡ live_at cs k) →
    (r : Tours.AreFirst ps (Tours.visit_of live count again opened last)) → Tours.LeavesOut size area again r.rest → PlacesOf again count opened last cs ps
places_are (Some same) live size area count opened last cs ps h r leaves = all_again same ps size area r leaves
places_are None live size area count opened last cs ps h r leaves = go (nat_lt opened count) r.split
  where
    go : (b : Bool) → Orders.visited_of b live (if b then drop 0 (opened ∷ []) else Orders.round_left (Orders.start_of count last) count 0) ≡ ps ++ r.rest → VisitOf b count opened last cs ps
    go true e = just_one opened ps r.rest e r.some
    go false e = record { rest = r.rest; whole = sym (round_same live count last cs h) ∙ e; some = r.some }

-- those that come again, should the frame be lost
pub comes_again : (again : Option (List ℕ)) (count opened : ℕ) (last : Option ℕ) (cs : List Slave) (ps : List ℕ) → PlacesOf again count opened last cs ps → Tours.visit_on again ps ≡ ps
comes_again (Some same) count opened last cs ps p = sym p
comes_again None count opened last cs ps p = refl

-- ---- the frame has a datagram for these, and for no other
in_same : (k : ℕ) (ps : List ℕ) → Made.is_in k ps ≡ is_in k ps
in_same k [] = refl
in_same k (p ∷ ps) = ap (λ z. if k == p then true else z) (in_same k ps)

pub under_same : (back : List (Datagram Body)) (us : List Turn) (k : ℕ) → under_at (unders back us) k ≡ holds_at (λ u. u.share.under) us k
under_same back [] k = refl
under_same back (u ∷ us) zero = refl
under_same back (u ∷ us) (suc k) = under_same back us k

left_of : (a b : Bool) → (a && b) ≡ true → a ≡ true
left_of true b e = refl
left_of false b e = absurd (cc)

numbered : (n : ℕ) (us : List Turn) (k : ℕ) → holds_at (λ u. Tours.has_number n (turn_share u)) us k ≡ true → holds_at (λ u. u.share.under) us k ≡ true
numbered n [] k e = absurd (cc)
numbered n (u ∷ us) zero e = left_of u.share.under (u.share.at == n) e
numbered n (u ∷ us) (suc k) e = numbered n us k e

each_under : (us : List Turn) (n : ℕ) (ps : List ℕ) (k : ℕ) → Tours.HaveFrom (λ u. turn_share u) us n ps → is_in k ps ≡ true → holds_at (λ u. u.share.under) us k ≡ true
each_under us n [] k h e = absurd (cc)
each_under us n (p ∷ ps) k h e = go (k == p) refl e (λ i. each_under us (suc n) ps k h.1 i)
  where
    go : (b : Bool) → (k == p) ≡ b → (if b then true else is_in k ps) ≡ true → (is_in k ps ≡ true → holds_at (λ u. u.share.under) us k ≡ true) → holds_at (λ u. u.share.under) us k ≡ true
    go true same i rest = subst (λ z. holds_at (λ u. u.share.under) us z ≡ true) (sym (eqb-true k p same)) (numbered n us p h.0)
    go false same i rest = rest i

both_ways : (a b : Bool) → (a ≡ true → b ≡ true) → (b ≡ true → a ≡ true) → a ≡ b
both_ways true b f g = sym (f refl)
both_ways false true f g = g refl
both_ways false false f g = refl

pub shares_are : (back : List (Datagram Body)) (us : List Turn) (ps : List ℕ) → Tours.Carries (λ u. turn_share u) us ps → (k : ℕ) → under_at (unders back us) k ≡ is_in k ps
shares_are back us ps c k =
    under_same back us k
    ∙ both_ways (holds_at (λ u. u.share.under) us k) (is_in k ps) (λ e. sym (in_same k ps) ∙ c.only k e) (λ e. each_under us 0 ps k c.each e)

-- ---- the slave carried last
place_last : (p : ℕ) (ps : List ℕ) (last : Option ℕ) → last_of last (p ∷ ps) ≡ Some (Orders.last_place p ps)
place_last p [] last = refl
place_last p (q ∷ ps) last = place_last q ps (Some p)

pub last_round : (opened count : ℕ) (last : Option ℕ) (ps : List ℕ) → count ≤ opened → last_of last ps ≡ Orders.last_behind opened count last ps
last_round opened count last [] l = refl
last_round opened count last (p ∷ ps) l = place_last p ps last ∙ go (nat_lt opened count) refl
  where
    go : (b : Bool) → nat_lt opened count ≡ b → Some (Orders.last_place p ps) ≡ (if b then None else Some (Orders.last_place p ps))
    go true e = absurd (let less = ltb-true opened count e in omega (arith, less, l))
    go false e = refl

pub last_first : (opened count : ℕ) (last : Option ℕ) (ps : List ℕ) → opened < count → 1 ≤ length ps → None ≡ Orders.last_behind opened count last ps
last_first opened count last [] l some = absurd (omega (arith, some))
last_first opened count last (p ∷ ps) l some = go (nat_lt opened count) refl
  where
    go : (b : Bool) → nat_lt opened count ≡ b → None ≡ (if b then None else Some (Orders.last_place p ps))
    go true e = refl
    go false e = absurd (let more = ltb-false opened count e in omega (arith, more, l))

-- ---- behind a lost frame by which no slave is given up
-- the place from which on slaves are opened stays, where the slave there opens again
pub opened_kept : (opened : ℕ) (as' : List Leads) → (opened < length as' → holds_at is_opening_lead as' opened ≡ true) → opened_behind is_opening_lead opened as' ≡ opened
opened_kept opened as' opens = go (nat_lt opened (length as')) refl (holds_at is_opening_lead as' opened) refl
  where
    go : (z : Bool) → nat_lt opened (length as') ≡ z → (y : Bool) → holds_at is_opening_lead as' opened ≡ y → (if z && not y then opened + 1 else opened) ≡ opened
    go false e y d = refl
    go true e true d = refl
    go true e false d = absurd (let yes = opens (ltb-true opened (length as') e) in cc)

-- so does the place that was last in turn
pub last_kept : (opened many : ℕ) (old last : Option ℕ) (ps : List ℕ) → (opened < many → last ≡ None) → old ≡ last → last_lost (nat_lt opened many) false old ps ≡ last
last_kept opened many old last ps early same = go (nat_lt opened many) refl
  where
    go : (z : Bool) → nat_lt opened many ≡ z → last_lost z false old ps ≡ last
    go true e = sym (early (ltb-true opened many e))
    go false e = same
