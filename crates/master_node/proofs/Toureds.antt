-- THE VISITS OF A FRAME are the first of the tour's, one behind the other.
use Rattle.std.proofs.Common.{◌≡◌, ◌⊎◌, inl, inr, ◌<◌, ◌≤◌, ◌+◌, ◌==◌, ℕ, zero, suc, Bool, true, false, Option, Some, None, List, [], ◌∷◌, ◌++◌, refl, sym, ap, ◌∙◌, subst, arith, length, append_assoc, ◌-◌, drop}
use Rattle.std.specs.Prelude.{nat_lt, ◌&&◌, not, if◌then◌else◌, IfSome, slice_get}
use Rattle.std.proofs.lemmas.Bool.{eq-eqb, eqb-true, lt-ltb, le-ltb, ltb-true, ltb-false}
use Rattle.life_runs.specs.of_frame_view.Frames.{Share}
use Rattle.life_runs.specs.of_master_hand.contracts.hand.InHandHand.TheImpl as Impl
use Rattle.life_runs.specs.of_master_hand.declared.hand.InHand.{InHand}
use Rattle.life_runs.specs.of_master_tour.declared.tour.Tour as Tours
use Rattle.life_runs.specs.of_master_side.declared.hand.Hand.{Ghosts}
use Rattle.life_runs.specs.of_master_tour.Goes.{is_live, holds_at, opened_behind}
use Rattle.life_runs.specs.of_master_tour.Made.{is_in}
use Rattle.life_runs.specs.of_master_tour.Rooms.{StopRepeats, stop_len}
use Rattle.life_runs.proofs.of_master_tour.Walks.{steps_both}
use Rattle.master_node.specs.Rooms.{FitFrom, IsSentStop, Takes, len_in, LeavesFull, area_in}
use Rattle.master_node.proofs.Fits.{again_here, fit_else, fit_ends, fit_less, fit_more, fit_most, stays_here, way_here}
use Rattle.master_node.proofs.Lists.{steps_map, steps_trans, steps_holds, both_holds, both_length}
use Rattle.life_runs.specs.of_master_side.Again.{HasNoRoom}
use Rattle.life_runs.specs.of_master_tour.Orders.{visits_left, visited_of, is_fixed, AreOnce, IsCarried, last_behind}
use Rattle.life_runs.specs.of_master_tour.Toured.{Tour, HaveFrom, Carries, IsOfTour, has_number, visit_of, visit_on, goes_on, lost_on}
use Rattle.life_runs.specs.of_master_tour.Walks.{StepsAt, EachPair}
use Rattle.life_runs.specs.of_master_tour.declared.stop.Stop.{Stop}
use Rattle.life_runs.proofs.of_master_tour.Firsts.{visits_once, visited_same}
use Rattle.master_node.specs.Kept.{TourOn}
use Rattle.master_node.specs.Toured.{stop_share, turn_share, again_of, tour_of, StaysPut, TakesPart, IsBare, HasVisited}
use Rattle.master_node.specs.Shows.{IsOnFrame}
use Rattle.life_runs.specs.of_frame_view.View.{Lens}
use Rattle.life_runs.specs.of_frame_view.Shares.{AllBoth}
use Rattle.life_runs.specs.Led.{Turn}
use Rattle.master_node.specs.declared.node.MasterNode.{MasterNode}
use Rattle.master_node.proofs.Leaves.{leaves_none, leaves_one, leaves_out, left_of, none_left, visit_live}
use Rattle.master_node.proofs.Roundings.{SameTour}
use Rattle.master_node.proofs.Lefts.{true_false, in_here, in_there, in_last, in_first, not_in}

-- ONE PLACE GOES ON
steps_else : {S : Type 0} (test : S → Bool) (P : S → S → Type 0) (i : ℕ) (xs ys : List S) → StepsAt P i xs ys → (k : ℕ) → (k ≡ i → ⊥) → holds_at test ys k ≡ holds_at test xs k
steps_else test P zero [] ys e k n = absurd e
steps_else test P (suc i) [] ys e k n = absurd e
steps_else test P zero (x ∷ xs) [] e k n = absurd e
steps_else test P (suc i) (x ∷ xs) [] e k n = absurd e
steps_else test P zero (x ∷ xs) (y ∷ ys) e zero n = absurd (n refl)
steps_else test P zero (x ∷ xs) (y ∷ ys) e (suc k) n = ap (λ z. holds_at test z k) e.1
steps_else test P (suc i) (x ∷ xs) (y ∷ ys) e zero n = ap test e.0
steps_else test P (suc i) (x ∷ xs) (y ∷ ys) e (suc k) n = steps_else test P i xs ys e.1 k (λ q. n (ap suc q))

steps_here : {S : Type 0} (test : S → Bool) (P : S → S → Type 0) (i : ℕ) (xs ys : List S) → ((x y : S) → P x y → test y ≡ true) → StepsAt P i xs ys → holds_at test ys i ≡ true
steps_here test P zero [] ys h e = absurd e
steps_here test P (suc i) [] ys h e = absurd e
steps_here test P zero (x ∷ xs) [] h e = absurd e
steps_here test P (suc i) (x ∷ xs) [] h e = absurd e
steps_here test P zero (x ∷ xs) (y ∷ ys) h e = h x y e.0
steps_here test P (suc i) (x ∷ xs) (y ∷ ys) h e = steps_here test P i xs ys h e.1

steps_back : {S : Type 0} (test : S → Bool) (P : S → S → Type 0) (i : ℕ) (xs ys : List S) → ((x y : S) → P x y → test y ≡ true → test x ≡ true) → StepsAt P i xs ys → (k : ℕ) → holds_at test ys k ≡ true → holds_at test xs k ≡ true
steps_back test P zero [] ys h e k t = absurd e
steps_back test P (suc i) [] ys h e k t = absurd e
steps_back test P zero (x ∷ xs) [] h e k t = absurd e
steps_back test P (suc i) (x ∷ xs) [] h e k t = absurd e
steps_back test P zero (x ∷ xs) (y ∷ ys) h e zero t = h x y e.0 t
steps_back test P zero (x ∷ xs) (y ∷ ys) h e (suc k) t = sym (ap (λ z. holds_at test z k) e.1) ∙ t
steps_back test P (suc i) (x ∷ xs) (y ∷ ys) h e zero t = sym (ap test e.0) ∙ t
steps_back test P (suc i) (x ∷ xs) (y ∷ ys) h e (suc k) t = steps_back test P i xs ys h e.1 k t

steps_long : {S : Type 0} (P : S → S → Type 0) (i : ℕ) (xs ys : List S) → StepsAt P i xs ys → length ys ≡ length xs
steps_long P zero [] ys e = absurd e
steps_long P (suc i) [] ys e = absurd e
steps_long P zero (x ∷ xs) [] e = absurd e
steps_long P (suc i) (x ∷ xs) [] e = absurd e
steps_long P zero (x ∷ xs) (y ∷ ys) e = ap (λ z. suc (length z)) e.1
steps_long P (suc i) (x ∷ xs) (y ∷ ys) e = ap suc (steps_long P i xs ys e.1)

pub each_none : {S : Type 0} (P : S → S → Type 0) (test : S → Bool) → ((s t : S) → P s t → test t ≡ false) → (ss ts : List S) → EachPair P ss ts → (k : ℕ) → holds_at test ts k ≡ false
each_none P test h [] [] e k = refl
each_none P test h [] (t ∷ ts) e k = absurd e
each_none P test h (s ∷ ss) [] e k = absurd e
each_none P test h (s ∷ ss) (t ∷ ts) e zero = h s t e.0
each_none P test h (s ∷ ss) (t ∷ ts) e (suc k) = each_none P test h ss ts e.1 k

-- what a visit gives a slave, by its stop
pub takes_part : {G : Ghosts InHand} (s t : Stop InHand G) (n c : ℕ) → t.stand ≡ s.stand → (t.under ≡ true → t.at ≡ n) → (t.under ≡ true → c ≡ n + 1) → (t.under ≡ false → c ≡ n) → TakesPart (nat_lt n c) n s t
takes_part s t n c a b d e = go t.under refl
  where
    go : (z : Bool) → t.under ≡ z → TakesPart (nat_lt n c) n s t
    go true u = let l = d u in subst (λ z. TakesPart z n s t) (sym (lt-ltb n c (omega (arith, l)))) (a, u, b u)
    go false u = let l = e u in subst (λ z. TakesPart z n s t) (sym (le-ltb n c (omega (arith, l)))) (a, λ w. absurd (true_false t.under w u))

put_part : {G : Ghosts InHand} (b : Bool) (n : ℕ) (s t w : Stop InHand G) → StaysPut s t → TakesPart b n t w → TakesPart b n s w
put_part true n s t w p q = (q.0 ∙ p.0, q.1, q.2)
put_part false n s t w p q = (q.0 ∙ p.0, λ u. sym p.1 ∙ q.1 u)

part_put : {G : Ghosts InHand} (b : Bool) (n : ℕ) (s t w : Stop InHand G) → TakesPart b n s t → StaysPut t w → TakesPart b n s w
part_put true n s t w p q = (q.0 ∙ p.0, q.1 ∙ p.1, q.2 ∙ p.2)
part_put false n s t w p q = (q.0 ∙ p.0, λ u. p.1 (sym q.1 ∙ u))

pub part_steps : {G : Ghosts InHand} (n : ℕ) (b : Bool) (p : ℕ) (as' bs cs ds es : List (Stop InHand G)) → StepsAt (λ s t. StaysPut s t) p as' bs → StepsAt (λ s t. StaysPut s t) p bs cs → StepsAt (λ s t. TakesPart b n s t) p cs ds → StepsAt (λ s t. StaysPut s t) p ds es → StepsAt (λ s t. TakesPart b n s t) p as' es
part_steps n b p as' bs cs ds es e f g h =
    steps_trans (λ s t. StaysPut s t) (λ s t. TakesPart b n s t) (λ s t. TakesPart b n s t) p as' bs es (λ s t w x y. put_part b n s t w x y) e
    (steps_trans (λ s t. StaysPut s t) (λ s t. TakesPart b n s t) (λ s t. TakesPart b n s t) p bs cs es (λ s t w x y. put_part b n s t w x y) f
    (steps_trans (λ s t. TakesPart b n s t) (λ s t. StaysPut s t) (λ s t. TakesPart b n s t) p cs ds es (λ s t w x y. part_put b n s t w x y) g h))

-- THOSE THAT A FRAME CARRIES
have_same : {A B : Type 0} (f : A → Share) (g : B → Share) (as' : List A) (bs : List B) (n : ℕ) (cs : List ℕ) → ((k p : ℕ) → is_in p cs ≡ true → holds_at (λ s. has_number k (g s)) bs p ≡ holds_at (λ s. has_number k (f s)) as' p) → HaveFrom f as' n cs → HaveFrom g bs n cs
have_same f g as' bs n [] h e = tt
have_same f g as' bs n (p ∷ ps) h e = (h n p (in_here p p ps (eq-eqb p p refl)) ∙ e.0, have_same f g as' bs (suc n) ps (λ k q t. h k q (in_there q p ps t)) e.1)

have_more : {S : Type 0} (f : S → Share) (ss : List S) (n : ℕ) (cs : List ℕ) (k p : ℕ) → k ≡ n + length cs → HaveFrom f ss n cs → holds_at (λ s. has_number k (f s)) ss p ≡ true → HaveFrom f ss n (cs ++ p ∷ [])
have_more f ss n [] k p e h t = (subst (λ z. holds_at (λ s. has_number z (f s)) ss p ≡ true) (let q : k ≡ n = omega (arith, e) in q) t, tt)
have_more f ss n (c ∷ cs) k p e h t = (h.0, have_more f ss (suc n) cs k p (omega (arith, e)) h.1 t)

-- the same by shares that are the same
pub carries_same : {A B : Type 0} (f : A → Share) (g : B → Share) (as' : List A) (bs : List B) (cs : List ℕ) → ((t : Share → Bool) (p : ℕ) → holds_at (λ s. t (g s)) bs p ≡ holds_at (λ s. t (f s)) as' p) → Carries f as' cs → Carries g bs cs
carries_same f g as' bs cs h c = record {
  each = have_same f g as' bs 0 cs (λ k p t. h (has_number k) p) c.each;
  only = λ p t. c.only p (sym (h (λ s. s.under) p) ∙ t);
}

-- among different places no one stands twice
once_mid : (xs : List ℕ) (p : ℕ) (ys : List ℕ) → AreOnce (xs ++ p ∷ ys) → is_in p xs ≡ false
once_mid [] p ys o = refl
once_mid (x ∷ xs) p ys o = go (p == x) refl (once_mid xs p ys o.1)
  where
    go : (z : Bool) → (p == x) ≡ z → is_in p xs ≡ false → is_in p (x ∷ xs) ≡ false
    go true e r = absurd (true_false (is_in x (xs ++ p ∷ ys)) (in_last x xs (p ∷ ys) (in_here x p ys (eq-eqb x p (sym (eqb-true p x e))))) o.0)
    go false e r = not_in p (x ∷ xs) (λ t. true_false (is_in p xs) (sym (ap (λ (z : Bool). if z then true else is_in p xs) e) ∙ t) r)

once_behind : (xs : List ℕ) (p : ℕ) (ys : List ℕ) → AreOnce (xs ++ p ∷ ys) → is_in p ys ≡ false
once_behind [] p ys o = o.0
once_behind (x ∷ xs) p ys o = once_behind xs p ys o.1

differs : (q p : ℕ) (cs : List ℕ) → is_in q cs ≡ true → is_in p cs ≡ false → q ≡ p → ⊥
differs q p cs a b e = true_false (is_in p cs) (subst (λ z. is_in z cs ≡ true) e a) b

-- the datagram that a visit adds, and one that it doesn't
module _ {G : Ghosts InHand} (n p : ℕ) (xs ys : List (Stop InHand G)) (cs : List ℕ) (new : is_in p cs ≡ false) (c : Carries (λ s. stop_share s) xs cs) where
  pub carries_more : length cs ≡ n → StepsAt (λ s t. TakesPart true n s t) p xs ys → Carries (λ s. stop_share s) ys (cs ++ p ∷ [])
  carries_more l e = record {
    each = have_more (λ s. stop_share s) ys 0 cs n p (omega (arith, l))
        (have_same (λ s. stop_share s) (λ s. stop_share s) xs ys 0 cs (λ k q t. steps_else (λ s. has_number k (stop_share s)) (λ s t. TakesPart true n s t) p xs ys e q (differs q p cs t new)) c.each)
        (steps_here (λ s. has_number n (stop_share s)) (λ s t. TakesPart true n s t) p xs ys (λ s t r. (λ i. r.1 i && (r.2 i == n)) ∙ eq-eqb n n refl) e);
    only = λ q t. go q t (q == p) refl;
  }
    where
      go : (q : ℕ) → holds_at (λ s. (stop_share s).under) ys q ≡ true → (z : Bool) → (q == p) ≡ z → is_in q (cs ++ p ∷ []) ≡ true
      go q t true f = in_last q cs (p ∷ []) (in_here q p [] f)
      go q t false f = in_first q cs (p ∷ []) (c.only q (sym (steps_else (λ s. (stop_share s).under) (λ s t. TakesPart true n s t) p xs ys e q (λ d. true_false (q == p) (eq-eqb q p d) f)) ∙ t))

  pub carries_still : StepsAt (λ s t. TakesPart false n s t) p xs ys → Carries (λ s. stop_share s) ys cs
  carries_still e = record {
    each = have_same (λ s. stop_share s) (λ s. stop_share s) xs ys 0 cs (λ k q t. steps_else (λ s. has_number k (stop_share s)) (λ s t. TakesPart false n s t) p xs ys e q (differs q p cs t new)) c.each;
    only = λ q t. c.only q (steps_back (λ s. (stop_share s).under) (λ s t. TakesPart false n s t) p xs ys (λ s t r. r.1) e q t);
  }

-- BEHIND SO MANY VISITS
pub record Visiting (octets : List ℕ) (m n : MasterNode) : Type 0 where
  pub places : List ℕ
  pub long : length n.tour.stops.items ≡ length m.tour.stops.items
  pub live : (k : ℕ) → holds_at (λ s. is_live s.stand) n.tour.stops.items k ≡ holds_at (λ s. is_live s.stand) m.tour.stops.items k
  pub count : length places ≡ n.tour.count
  pub carries : Carries (λ s. stop_share s) n.tour.stops.items places
  pub once : AreOnce (left_of m 0)
  pub split : left_of m 0 ≡ places ++ left_of m n.tour.passed
  pub comes : n.tour.visit.items ≡ visit_on (again_of m.tour.again m.tour.visit.items) places
  pub way : FitFrom (λ s. IsSentStop s) n.tour.stops.items (length octets) 16 places
  pub fits : m.tour.again ≡ true → FitFrom (λ s. StopRepeats s) n.tour.stops.items 1514 (length octets) (left_of m n.tour.passed)
  pub few : m.tour.again ≡ true → length m.tour.visit.items ≤ 16

-- where the same slaves come again
left_again : (m : MasterNode) (i : ℕ) → m.tour.again ≡ true → left_of m i ≡ drop i m.tour.visit.items
left_again m i e = ap (λ z. visited_of (is_fixed z m.tour.opened (length m.tour.stops.items)) (λ k. holds_at (λ s. is_live s.stand) m.tour.stops.items k) (visits_left z m.tour.visit.items m.tour.opened (length m.tour.stops.items) m.tour.last i)) e

pub visiting_first : (octets : List ℕ) (m : MasterNode) → length octets ≡ 16 → IsBare m → Visiting octets m m
visiting_first octets m short b = record {
  places = [];
  long = refl;
  live = λ k. refl;
  count = sym b.count;
  carries = record { each = tt; only = λ p t. absurd (true_false (holds_at (λ s. s.under) m.tour.stops.items p) t (b.under p)) };
  once = visits_once (λ k. holds_at (λ s. is_live s.stand) m.tour.stops.items k) m.tour.again m.tour.visit.items m.tour.opened (length m.tour.stops.items) m.tour.last b.again;
  split = ap (left_of m) (sym b.passed);
  comes = go m.tour.again refl;
  way = omega (arith, short);
  fits = λ e. subst (λ n. FitFrom (λ s. StopRepeats s) m.tour.stops.items 1514 n (left_of m m.tour.passed)) (sym short)
      (subst (λ z. FitFrom (λ s. StopRepeats s) m.tour.stops.items 1514 16 z) (sym (ap (left_of m) b.passed ∙ left_again m 0 e)) (b.fits e).fit);
  few = λ e. (b.fits e).few;
}
  where
    go : (z : Bool) → m.tour.again ≡ z → m.tour.visit.items ≡ visit_on (again_of m.tour.again m.tour.visit.items) []
    go true e = sym (ap (λ z. visit_on (again_of z m.tour.visit.items) []) e)
    go false e = b.anew e ∙ sym (ap (λ z. visit_on (again_of z m.tour.visit.items) []) e)

-- the visit of the tour, before any was passed
whole : (m : MasterNode) → left_of m 0 ≡ visit_of (λ k. holds_at (λ s. is_live s.stand) m.tour.stops.items k) (length m.tour.stops.items) (again_of m.tour.again m.tour.visit.items) m.tour.opened m.tour.last
whole m = go m.tour.again
  where
    go : (z : Bool) → visited_of (is_fixed z m.tour.opened (length m.tour.stops.items)) (λ k. holds_at (λ s. is_live s.stand) m.tour.stops.items k) (visits_left z m.tour.visit.items m.tour.opened (length m.tour.stops.items) m.tour.last 0)
        ≡ visit_of (λ k. holds_at (λ s. is_live s.stand) m.tour.stops.items k) (length m.tour.stops.items) (again_of z m.tour.visit.items) m.tour.opened m.tour.last
    go true = refl
    go false = refl

pub visiting_last : (octets : List ℕ) (m n : MasterNode) → length m.tour.stops.items ≤ 16 → n.tour.count ≡ 16 → Visiting octets m n → HasVisited octets m n
visiting_last octets m n few many v = record {
  places = v.places;
  rest = left_of m n.tour.passed;
  count = v.count;
  long = v.long;
  alive = v.live;
  carries = v.carries;
  split = sym (whole m) ∙ v.split;
  comes = v.comes;
  leaves = leaves_none octets n.tour.stops.items m.tour.again (left_of m n.tour.passed) (none_left m v.places (left_of m n.tour.passed) few v.few v.split (let e = v.count in omega (arith, e, many)));
  most = omega (arith, many);
  way = v.way;
}

left_same : (again : Bool) (visit visit' : List ℕ) (opened count : ℕ) (last : Option ℕ) (passed : ℕ) → (again ≡ true → visit' ≡ visit) → visits_left again visit' opened count last passed ≡ visits_left again visit opened count last passed
left_same true visit visit' opened count last passed e = ap (λ z. visits_left true z opened count last passed) (e refl)
left_same false visit visit' opened count last passed e = refl

-- the visits that are left, by the tour as it stands now
abbrev pub left_now : MasterNode → ℕ → List ℕ
left_now n passed = visited_of (is_fixed n.tour.again n.tour.opened (length n.tour.stops.items)) (λ j. holds_at (λ s. is_live s.stand) n.tour.stops.items j) (visits_left n.tour.again n.tour.visit.items n.tour.opened (length n.tour.stops.items) n.tour.last passed)

pub left_here : {octets : List ℕ} (m n : MasterNode) → Visiting octets m n → TourOn m n → (i : ℕ) → left_now n i ≡ left_of m i
left_here m n v since i =
    visited_same (is_fixed n.tour.again n.tour.opened (length n.tour.stops.items)) (λ j. holds_at (λ s. is_live s.stand) n.tour.stops.items j) (λ j. holds_at (λ s. is_live s.stand) m.tour.stops.items j)
    (visits_left n.tour.again n.tour.visit.items n.tour.opened (length n.tour.stops.items) n.tour.last i) v.live
    ∙ (λ j. visited_of (is_fixed (since.again j) (since.opened j) (v.long j)) (λ k. holds_at (λ s. is_live s.stand) m.tour.stops.items k) (visits_left (since.again j) n.tour.visit.items (since.opened j) (v.long j) (since.last j) i))
    ∙ ap (visited_of (is_fixed m.tour.again m.tour.opened (length m.tour.stops.items)) (λ k. holds_at (λ s. is_live s.stand) m.tour.stops.items k)) (left_same m.tour.again m.tour.visit.items n.tour.visit.items m.tour.opened (length m.tour.stops.items) m.tour.last i
    (λ e. v.comes ∙ ap (λ z. visit_on (again_of z m.tour.visit.items) v.places) e))

pub visiting_same : (octets : List ℕ) (m n o : MasterNode) → length m.tour.stops.items ≤ 16 → n.tour.count ≤ 16 → TourOn m n → SameTour n o → (n.tour.count < 16 → n.tour.again ≡ false → left_now n n.tour.passed ≡ []) →
    (n.tour.count < 16 → n.tour.again ≡ true → IfSome (slice_get n.tour.visit.items n.tour.passed) (λ p. length n.tour.stops.items ≤ p)) → Visiting octets m n → HasVisited octets m o
visiting_same octets m n o few most since k none ends v = record {
  places = v.places;
  rest = left_of m n.tour.passed;
  count = v.count ∙ sym k.count;
  long = ap (λ z. length z.items) k.stops ∙ v.long;
  alive = λ j. ap (λ z. holds_at (λ s. is_live s.stand) z.items j) k.stops ∙ v.live j;
  carries = subst (λ z. Carries (λ s. stop_share s) z.items v.places) (sym k.stops) v.carries;
  split = sym (whole m) ∙ v.split;
  comes = ap (λ z. z.items) k.visit ∙ v.comes;
  leaves = leaves_none octets o.tour.stops.items m.tour.again (left_of m n.tour.passed) (go (nat_lt n.tour.count 16) refl);
  most = let e = k.count in omega (arith, e, most);
  way = subst (λ z. FitFrom (λ s. IsSentStop s) z.items (length octets) 16 v.places) (sym k.stops) v.way;
}
  where
    by : n.tour.count < 16 → (z : Bool) → m.tour.again ≡ z → left_of m n.tour.passed ≡ []
    by l false e = sym (left_here m n v since n.tour.passed) ∙ none l (since.again ∙ e)
    by l true e =
        let now = left_again n n.tour.passed (since.again ∙ e) in
        sym (left_here m n v since n.tour.passed) ∙ now
        ∙ fit_ends (λ s. StopRepeats s) n.tour.stops.items 1514 (length octets) n.tour.visit.items n.tour.passed (ends l (since.again ∙ e))
        (subst (λ z. FitFrom (λ s. StopRepeats s) n.tour.stops.items 1514 (length octets) z) (sym (left_here m n v since n.tour.passed) ∙ now) (v.fits e))

    go : (z : Bool) → nat_lt n.tour.count 16 ≡ z → left_of m n.tour.passed ≡ []
    go true l = by (ltb-true n.tour.count 16 l) m.tour.again refl
    go false l = none_left m v.places (left_of m n.tour.passed) few v.few v.split (let c = v.count in let g = ltb-false n.tour.count 16 l in omega (arith, c, g))

-- where the tour stands once that is known: as before, but for the visits that were passed
abbrev pub TourStops : Type 0
TourStops = Tours.Tour InHand Impl.ghosts

pub record IsDue (n : MasterNode) (t : TourStops) : Type 0 where
  pub stops : t.stops ≡ n.tour.stops
  pub count : t.count ≡ n.tour.count
  pub again : t.again ≡ n.tour.again
  pub visit : t.visit ≡ n.tour.visit

-- ONE VISIT MORE, of the slave that comes next
more_on : (again : Bool) (visit cs : List ℕ) (p : ℕ) (old new : List ℕ) → old ≡ visit_on (again_of again visit) cs → IsCarried true again p old new → new ≡ visit_on (again_of again visit) (cs ++ p ∷ [])
more_on true visit cs p old new e c = c ∙ e
more_on false visit cs p old new e c = c ∙ ap (λ z. z ++ p ∷ []) e

kept_on : (again : Bool) (p : ℕ) (old new : List ℕ) → IsCarried false again p old new → new ≡ old
kept_on again p old new c = c

module _ (before behind : List ℕ) (m n n2 : MasterNode) (t1 : TourStops) (p : ℕ) (v : Visiting before m n) (since : TourOn m n) (k : IsDue n t1)
    (order : visited_of (is_fixed n.tour.again n.tour.opened (length n.tour.stops.items)) (λ j. holds_at (λ s. is_live s.stand) n.tour.stops.items j) (visits_left n.tour.again n.tour.visit.items n.tour.opened (length n.tour.stops.items) n.tour.last n.tour.passed)
    ≡ p ∷ visited_of (is_fixed n.tour.again n.tour.opened (length n.tour.stops.items)) (λ j. holds_at (λ s. is_live s.stand) n.tour.stops.items j) (visits_left n.tour.again n.tour.visit.items n.tour.opened (length n.tour.stops.items) n.tour.last t1.passed))
    (space : t1.count < 16) (passed : n2.tour.passed ≡ t1.passed)
    (takes : (t1.again ≡ false → length t1.visit.items < 16) → IsCarried (nat_lt t1.count n2.tour.count) t1.again p t1.visit.items n2.tour.visit.items)
    (shares : StepsAt (λ s t. TakesPart (nat_lt t1.count n2.tour.count) t1.count s t) p t1.stops.items n2.tour.stops.items)
    (gets : StepsAt (λ s t. Takes before behind (nat_lt t1.count n2.tour.count) s t) p t1.stops.items n2.tour.stops.items) where
  here : left_of m 0 ≡ v.places ++ p ∷ left_of m t1.passed
  here = v.split ∙ ap (λ z. v.places ++ z) (sym (left_here m n v since n.tour.passed) ∙ order ∙ ap (λ z. p ∷ z) (left_here m n v since t1.passed))

  new : is_in p v.places ≡ false
  new = once_mid v.places p (left_of m t1.passed) (subst AreOnce here v.once)

  -- the slave has no datagram of the frame before its visit
  pub unvisited : holds_at (λ s. s.under) t1.stops.items p ≡ false
  unvisited = by (holds_at (λ s. s.under) t1.stops.items p) refl
    where
      by : (z : Bool) → holds_at (λ s. s.under) t1.stops.items p ≡ z → z ≡ false
      by false e = refl
      by true e = absurd (true_false (is_in p v.places) ((subst (λ z. Carries (λ s. stop_share s) z.items v.places) (sym k.stops) v.carries).only p e) new)

  later : is_in p (left_of m t1.passed) ≡ false
  later = once_behind v.places p (left_of m t1.passed) (subst AreOnce here v.once)

  next : left_of m n.tour.passed ≡ p ∷ left_of m t1.passed
  next = sym (left_here m n v since n.tour.passed) ∙ order ∙ ap (λ z. p ∷ z) (left_here m n v since t1.passed)

  way1 : FitFrom (λ s. IsSentStop s) n2.tour.stops.items (length before) 16 v.places
  way1 = fit_else (λ s. IsSentStop s) _ p t1.stops.items n2.tour.stops.items (length before) 16 v.places gets new (subst (λ z. FitFrom (λ s. IsSentStop s) z.items (length before) 16 v.places) (sym k.stops) v.way)

  -- behind a lost frame
  fits1 : m.tour.again ≡ true → FitFrom (λ s. StopRepeats s) t1.stops.items 1514 (length before) (p ∷ left_of m t1.passed)
  fits1 e = subst (λ z. FitFrom (λ s. StopRepeats s) z.items 1514 (length before) (p ∷ left_of m t1.passed)) (sym k.stops) (subst (λ z. FitFrom (λ s. StopRepeats s) n.tour.stops.items 1514 (length before) z) next (v.fits e))

  carries1 : Carries (λ s. stop_share s) t1.stops.items v.places
  carries1 = subst (λ z. Carries (λ s. stop_share s) z.items v.places) (sym k.stops) v.carries

  count1 : length v.places ≡ t1.count
  count1 = v.count ∙ sym k.count

  again1 : t1.again ≡ m.tour.again
  again1 = k.again ∙ since.again

  comes1 : t1.visit.items ≡ visit_on (again_of m.tour.again m.tour.visit.items) v.places
  comes1 = ap (λ z. z.items) k.visit ∙ v.comes

  room : t1.again ≡ false → length t1.visit.items < 16
  room e =
      let w = ap length (comes1 ∙ ap (λ z. visit_on (again_of z m.tour.visit.items) v.places) (sym again1 ∙ e)) in
      let u = count1 in
      omega (arith, w, u, space)

  carried : IsCarried (nat_lt t1.count n2.tour.count) m.tour.again p t1.visit.items n2.tour.visit.items
  carried = subst (λ z. IsCarried (nat_lt t1.count n2.tour.count) z p t1.visit.items n2.tour.visit.items) again1 (takes room)

  long2 : length n2.tour.stops.items ≡ length m.tour.stops.items
  long2 = steps_long _ p t1.stops.items n2.tour.stops.items shares ∙ ap (λ z. length z.items) k.stops ∙ v.long

  alive2 : (j : ℕ) → holds_at (λ s. is_live s.stand) n2.tour.stops.items j ≡ holds_at (λ s. is_live s.stand) m.tour.stops.items j
  alive2 j = go (nat_lt t1.count n2.tour.count) shares ∙ ap (λ z. holds_at (λ s. is_live s.stand) z.items j) k.stops ∙ v.live j
    where
      go : (z : Bool) → StepsAt (λ s t. TakesPart z t1.count s t) p t1.stops.items n2.tour.stops.items → holds_at (λ s. is_live s.stand) n2.tour.stops.items j ≡ holds_at (λ s. is_live s.stand) t1.stops.items j
      go true e = steps_holds (λ s. is_live s.stand) (λ s t. TakesPart true t1.count s t) p t1.stops.items n2.tour.stops.items (λ s t r. ap is_live r.0) e j
      go false e = steps_holds (λ s. is_live s.stand) (λ s t. TakesPart false t1.count s t) p t1.stops.items n2.tour.stops.items (λ s t r. ap is_live r.0) e j

  -- it has the next datagram
  pub visiting_more : n2.tour.count ≡ t1.count + 1 → Visiting behind m n2
  visiting_more c =
      let yes = lt-ltb t1.count n2.tour.count (omega (arith, c)) in
      let part = subst (λ z. StepsAt (λ s t. TakesPart z t1.count s t) p t1.stops.items n2.tour.stops.items) yes shares in
      let sent = way_here before behind p t1.stops.items n2.tour.stops.items (steps_map _ (λ s t. IsSentStop t × (length behind ≡ length before + (12 + stop_len t))) p t1.stops.items n2.tour.stops.items (λ s t r. let w = r.1.way yes in ((r.0.1, w.0), w.1)) (steps_both _ _ p t1.stops.items n2.tour.stops.items part gets)) in
      let l = more_long v.places in
      let u = count1 in
      record {
        places = v.places ++ p ∷ [];
        long = long2;
        live = alive2;
        count = omega (arith, l, u, c);
        carries = carries_more t1.count p t1.stops.items n2.tour.stops.items v.places new carries1 count1 part;
        once = v.once;
        split = here ∙ sym (append_assoc v.places (p ∷ []) (left_of m t1.passed)) ∙ ap (λ z. (v.places ++ p ∷ []) ++ left_of m z) (sym passed);
        way = fit_more (λ s. IsSentStop s) n2.tour.stops.items (length before) (length behind) 16 p v.places sent.0 (let e = sent.1 in omega (arith, e)) way1;
        fits = λ e.
            let f = fits1 e in
            let a = (again_here before behind (nat_lt t1.count n2.tour.count) p t1.stops.items n2.tour.stops.items gets f.0).0 yes in
            let g = sent.1 in
            subst (λ z. FitFrom (λ s. StopRepeats s) n2.tour.stops.items 1514 (length behind) (left_of m z)) (sym passed)
            (fit_else (λ s. StopRepeats s) _ p t1.stops.items n2.tour.stops.items 1514 (length behind) (left_of m t1.passed) gets later
            (fit_less (λ s. StopRepeats s) t1.stops.items 1514 (length before + (12 + len_in t1.stops.items p)) (length behind) (left_of m t1.passed) (omega (arith, a, g)) f.1));
        few = v.few;
        comes = more_on m.tour.again m.tour.visit.items v.places p t1.visit.items n2.tour.visit.items comes1 (subst (λ z. IsCarried z m.tour.again p t1.visit.items n2.tour.visit.items) yes carried);
      }
    where
      more_long : (xs : List ℕ) → length (xs ++ p ∷ []) ≡ length xs + 1
      more_long [] = refl
      more_long (x ∷ xs) = let e = more_long xs in omega (arith, e)

  -- the frame has no room for it
  pub visiting_still : (holds_at (λ s. is_live s.stand) n2.tour.stops.items p ≡ true → HasNoRoom behind (area_in n2.tour.stops.items p)) → n2.tour.count ≡ t1.count → HasVisited behind m n2
  visiting_still full c =
      let no = le-ltb t1.count n2.tour.count (omega (arith, c)) in
      record {
        places = v.places;
        rest = p ∷ left_of m t1.passed;
        count = count1 ∙ sym c;
        long = long2;
        alive = alive2;
        carries = carries_still t1.count p t1.stops.items n2.tour.stops.items v.places new carries1 (subst (λ z. StepsAt (λ s t. TakesPart z t1.count s t) p t1.stops.items n2.tour.stops.items) no shares);
        split = sym (whole m) ∙ here;
        comes = kept_on m.tour.again p t1.visit.items n2.tour.visit.items (subst (λ z. IsCarried z m.tour.again p t1.visit.items n2.tour.visit.items) no carried) ∙ comes1;
        leaves = leaves_one behind n2.tour.stops.items m.tour.again p (left_of m t1.passed)
            (λ e.
            let f = fits1 e in
            let a = (again_here before behind (nat_lt t1.count n2.tour.count) p t1.stops.items n2.tour.stops.items gets f.0).1 no in
            let b = fit_most (λ s. StopRepeats s) t1.stops.items 1514 (length before + (12 + len_in t1.stops.items p)) (left_of m t1.passed) f.1 in
            omega (arith, a, b))
            full;
        most = omega (arith, c, space);
        way = subst (λ z. FitFrom (λ s. IsSentStop s) n2.tour.stops.items (length z) 16 v.places) (sym (stays_here before behind (nat_lt t1.count n2.tour.count) p t1.stops.items n2.tour.stops.items no gets)) way1;
      }

-- THE FRAME IS OF THE TOUR as it stood before
visit_same : (live was : ℕ → Bool) (count n : ℕ) (again was_again : Option (List ℕ)) (opened was_opened : ℕ) (last was_last : Option ℕ) → ((k : ℕ) → live k ≡ was k) → count ≡ n → again ≡ was_again → opened ≡ was_opened → last ≡ was_last → visit_of live count again opened last ≡ visit_of was n was_again was_opened was_last
visit_same live was count n again was_again opened was_opened last was_last h a b c d = (λ i. visit_of live (a i) (b i) (c i) (d i)) ∙ go was_again
  where
    go : (o : Option (List ℕ)) → visit_of live n o was_opened was_last ≡ visit_of was n o was_opened was_last
    go (Some same) = refl
    go None = visited_same (nat_lt was_opened n) live was (visits_left false [] was_opened n was_last 0) h

module _ (octets : List ℕ) (m m1 m2 : MasterNode) (h : HasVisited octets m1 m2) (again : m1.tour.again ≡ m.tour.again) (visit : m.tour.again ≡ true → m1.tour.visit.items ≡ m.tour.visit.items) (opened : m1.tour.opened ≡ m.tour.opened) (last : m1.tour.last ≡ m.tour.last) (missed : m1.tour.missed ≡ m.tour.missed) (on : TourOn m1 m2) where
  again_first : again_of m1.tour.again m1.tour.visit.items ≡ again_of m.tour.again m.tour.visit.items
  again_first = ap (λ z. again_of z m1.tour.visit.items) again ∙ go m.tour.again refl
    where
      go : (z : Bool) → m.tour.again ≡ z → again_of m.tour.again m1.tour.visit.items ≡ again_of m.tour.again m.tour.visit.items
      go true e = ap (again_of m.tour.again) (visit e)
      go false e = ap (λ z. again_of z m1.tour.visit.items) e ∙ sym (ap (λ z. again_of z m.tour.visit.items) e)

  again_same : again_of m2.tour.again m2.tour.visit.items ≡ again_of m.tour.again m.tour.visit.items
  again_same = go m1.tour.again refl ∙ again_first
    where
      go : (z : Bool) → m1.tour.again ≡ z → again_of m2.tour.again m2.tour.visit.items ≡ again_of m1.tour.again m1.tour.visit.items
      go true e = ap (λ z. again_of z m2.tour.visit.items) on.again ∙ ap (again_of m1.tour.again) (h.comes ∙ ap (λ z. visit_on (again_of z m1.tour.visit.items) h.places) e)
      go false e = ap (λ z. again_of z m2.tour.visit.items) (on.again ∙ e) ∙ sym (ap (λ z. again_of z m1.tour.visit.items) e)

  pub tour_same : tour_of m2 ≡ tour_of m
  tour_same = λ i. record { again = again_same i; opened = (on.opened ∙ opened) i; last = (on.last ∙ last) i; missed = (on.missed ∙ missed) i }

  first_rest : (live : ℕ → Bool) → ((k : ℕ) → holds_at (λ s. is_live s.stand) m1.tour.stops.items k ≡ live k) → visit_of live (length m2.tour.stops.items) (again_of m.tour.again m.tour.visit.items) m.tour.opened m.tour.last ≡ h.places ++ h.rest
  first_rest live alive = sym (visit_same (λ k. holds_at (λ s. is_live s.stand) m1.tour.stops.items k) live (length m1.tour.stops.items) (length m2.tour.stops.items) (again_of m1.tour.again m1.tour.visit.items) (again_of m.tour.again m.tour.visit.items) m1.tour.opened m.tour.opened m1.tour.last m.tour.last alive (sym h.long) again_first opened last) ∙ h.split

  pub of_tour : (live : ℕ → Bool) → ((k : ℕ) → holds_at (λ s. is_live s.stand) m1.tour.stops.items k ≡ live k) → ((k : ℕ) → holds_at (λ s. is_live s.stand) m2.tour.stops.items k ≡ live k) → (size : ℕ) (area : ℕ → ℕ) → size ≡ length octets - 16 → ((k : ℕ) → area_in m2.tour.stops.items k ≡ area k) →
      (many : ℕ) → many ≡ m2.tour.count → 1 ≤ m2.tour.count → IsOfTour (λ s. stop_share s) live size area (tour_of m) m2.tour.stops.items many m2.tour.visit.items
  of_tour live alive still size area sized areas many is some = record {
    places = h.places;
    whole = h.count ∙ sym is;
    carries = h.carries;
    first = record {
      rest = h.rest;
      split = first_rest live alive;
      some = let c = h.count in omega (arith, c, some);
    };
    comes = h.comes ∙ ap (λ z. visit_on z h.places) again_first;
    leaves = leaves_out octets m2.tour.stops.items m.tour.again m.tour.visit.items h.rest size area sized areas
        (λ p ps e r. still p ∙ visit_live live m.tour.opened (length m2.tour.stops.items) m.tour.last h.places p ps (let c = h.count in omega (arith, c, some))
        (ap (λ z. visit_of live (length m2.tour.stops.items) (again_of z m.tour.visit.items) m.tour.opened m.tour.last) (sym e) ∙ first_rest live alive ∙ ap (λ z. h.places ++ z) r))
        (subst (λ z. LeavesFull octets m2.tour.stops.items z h.rest) again h.leaves);
  }

-- and by the lives of the slaves
pub turns_tour : {G : Ghosts InHand} (lens : ℕ → Lens) (recover : ℕ) (octets : List ℕ) (live : ℕ → Bool) (size : ℕ) (area : ℕ → ℕ) (t : Tour) (us : List Turn) (ss : List (Stop InHand G)) (many : ℕ) (visit : List ℕ) → AllBoth (λ u s. IsOnFrame lens recover octets u s) us ss → IsOfTour (λ s. stop_share s) live size area t ss many visit → IsOfTour (λ u. turn_share u) live size area t us many visit
turns_tour lens recover octets live size area t us ss many visit e o = record {
  places = o.places;
  whole = o.whole;
  carries = carries_same (λ s. stop_share s) (λ u. turn_share u) ss us o.places
      (λ test p. sym (both_holds (λ u s. IsOnFrame lens recover octets u s) (λ u. test (turn_share u)) (λ s. test (stop_share s)) (λ u s i. ap test (λ j. record { under = sym i.under j; at = sym i.at j })) us ss e p)) o.carries;
  first = record { rest = o.first.rest; split = ap (λ z. visit_of live z t.again t.opened t.last) (both_length (λ u s. IsOnFrame lens recover octets u s) us ss e) ∙ o.first.split; some = o.first.some };
  comes = o.comes;
  leaves = o.leaves;
}

-- WHERE IT STANDS BEHIND THE FRAME
pub opened_same : {A B : Type 0} (f : A → Bool) (g : B → Bool) (opened : ℕ) (as' : List A) (bs : List B) → length as' ≡ length bs → ((k : ℕ) → holds_at f as' k ≡ holds_at g bs k) → opened_behind f opened as' ≡ opened_behind g opened bs
opened_same f g opened as' bs n h = λ i. if nat_lt opened (n i) && not (h opened i) then opened + 1 else opened

pub goes_same : {A : Type 0} (opens : A → Bool) (as' : List A) (m n : MasterNode) → n.tour.again ≡ false → n.tour.opened ≡ opened_behind opens m.tour.opened as' → n.tour.last ≡ last_behind m.tour.opened (length as') m.tour.last m.tour.visit.items → n.tour.missed ≡ 0 → tour_of n ≡ goes_on opens as' (tour_of m) m.tour.visit.items
goes_same opens as' m n a b c d = λ i. record { again = ap (λ z. again_of z n.tour.visit.items) a i; opened = b i; last = c i; missed = d i }

pub lost_same : {A : Type 0} (opens : A → Bool) (retry : ℕ) (as' : List A) (m n : MasterNode) → n.tour.visit.items ≡ m.tour.visit.items → n.tour.again ≡ nat_lt m.tour.missed retry → n.tour.missed ≡ (if nat_lt m.tour.missed retry then m.tour.missed + 1 else 0) →
    n.tour.opened ≡ (if nat_lt m.tour.missed retry then m.tour.opened else opened_behind opens m.tour.opened as') → n.tour.last ≡ (if nat_lt m.tour.missed retry then m.tour.last else last_behind m.tour.opened (length as') m.tour.last m.tour.visit.items) →
    tour_of n ≡ lost_on opens retry as' (tour_of m) m.tour.visit.items
lost_same opens retry as' m n v a b c d = go (nat_lt m.tour.missed retry) a b c d
  where
    go : (z : Bool) → n.tour.again ≡ z → n.tour.missed ≡ (if z then m.tour.missed + 1 else 0) → n.tour.opened ≡ (if z then m.tour.opened else opened_behind opens m.tour.opened as') → n.tour.last ≡ (if z then m.tour.last else last_behind m.tour.opened (length as') m.tour.last m.tour.visit.items) →
        tour_of n ≡ (if z then record (tour_of m) { again = Some m.tour.visit.items; missed = m.tour.missed + 1 } else goes_on opens as' (tour_of m) m.tour.visit.items)
    go true a b c d = λ i. record { again = (ap (λ z. again_of z n.tour.visit.items) a ∙ ap Some v) i; opened = c i; last = d i; missed = b i }
    go false a b c d = goes_same opens as' m n a c d b

-- a datagram more, or none
pub counts_more : (n c : ℕ) → (c ≡ n) ⊎ (c ≡ n + 1) → (c ≡ n → ⊥) → c ≡ n + 1
counts_more n c (inl e) h = absurd (h e)
counts_more n c (inr e) h = e

-- the tour as the master has it
abbrev tour_at : TourStops → Tour
tour_at t = record { again = again_of t.again t.visit.items; opened = t.opened; last = t.last; missed = t.missed }

pub tour_by : (m n : MasterNode) (a : TourStops) → m.tour ≡ a → n.tour ≡ a → tour_of n ≡ tour_of m
tour_by m n a d e = ap tour_at e ∙ sym (ap tour_at d)
