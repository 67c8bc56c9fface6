-- THE VISITS OF A FRAME, one after the other, whatever a visit keeps of the slaves.
use Rattle.std.proofs.Common.{◌≡◌, ◌⊎◌, inl, inr, ◌<◌, ◌≤◌, ◌+◌, ℕ, zero, suc, Bool, true, false, Option, Some, None, List, [], ◌∷◌, ◌++◌, refl, sym, ap, ◌∙◌, subst, arith, length}
use Rattle.std.specs.Prelude.{nat_lt}
use Rattle.std.specs.List.{list_any}
use Rattle.std.proofs.lemmas.Bool.{lt-ltb, le-ltb}
use Rattle.life_runs.specs.Led.{Leads}
use Rattle.life_runs.specs.of_master_tour.Goes.{is_live, holds_at, BeginsLive, Passes}
use Rattle.life_runs.specs.of_master_tour.Made.{is_in}
use Rattle.life_runs.specs.of_master_tour.Orders.{visits_left, AreOnce, IsNextOf, IsCarried}
use Rattle.master_node.specs.Kept.{TourOn}
use Rattle.master_node.specs.Passes.{BeginsFrame, EndsFrame}
use Rattle.master_node.specs.Shows.{HoldsFirst, IsAlone, ComeAgain, is_live_lead}
use Rattle.master_node.specs.declared.node.MasterNode.{MasterNode}
use Rattle.master_node.proofs.Lefts.{true_false, without, without_not, without_fewer, without_other, below, below_in, in_first, in_last, in_more, not_in, once_more, left_alone}

-- where the tour stands, but for the visits that were passed
pub record SameTour (m n : MasterNode) : Type 0 where
  pub stops : n.tour.stops ≡ m.tour.stops
  pub count : n.tour.count ≡ m.tour.count
  pub again : n.tour.again ≡ m.tour.again
  pub visit : n.tour.visit ≡ m.tour.visit
  pub opened : n.tour.opened ≡ m.tour.opened
  pub last : n.tour.last ≡ m.tour.last
  pub made : n.made ≡ m.made
  pub posts : n.posts ≡ m.posts
  pub list : n.list ≡ m.list
  pub lan : n.lan ≡ m.lan

-- before any datagram stands in the frame
pub record NoneYet (m : MasterNode) (octets : List ℕ) (as' : List Leads) : Type 0 where
  pub count : m.tour.count ≡ 0
  pub passed : m.tour.passed ≡ 0
  pub short : length octets ≡ 16
  pub begins : BeginsLive (λ s. is_live s.stand) m.tour.again m.tour.visit.items m.tour.opened m.tour.stops.items
  pub some : list_any (λ s. is_live s.stand) m.tour.stops.items ≡ true
  pub lives : (k : ℕ) → holds_at (λ s. is_live s.stand) m.tour.stops.items k ≡ holds_at is_live_lead as' k

-- BEHIND SO MANY VISITS
pub record Rounds (as' : List Leads) (F : List ℕ → MasterNode → List ℕ → Type 0) (n : ℕ) (m : MasterNode) (octets : List ℕ) : Type 0 where
  pub left : List ℕ
  pub filling : F left m octets
  pub most : (k : ℕ) → is_in k (visits_left m.tour.again m.tour.visit.items m.tour.opened (length m.tour.stops.items) m.tour.last m.tour.passed) ≡ true → is_in k left ≡ true
  pub apart : m.tour.opened < length as' → (k : ℕ) → k < length as' → (k ≡ m.tour.opened → ⊥) → is_in k left ≡ true
  pub once : AreOnce m.tour.visit.items
  pub behind : m.tour.again ≡ false → (k : ℕ) → is_in k m.tour.visit.items ≡ true → is_in k left ≡ false
  pub alone : IsAlone m.tour.opened (length as') m.tour.visit.items
  pub few : m.tour.again ≡ false → length m.tour.visit.items ≡ m.tour.count
  pub none : n ≡ 0 → NoneYet m octets as'
  pub some : 1 ≤ n → 1 ≤ m.tour.count
  pub repeats : m.tour.again ≡ true → HoldsFirst is_live_lead as' m.tour.visit.items
  pub first : 1 ≤ n → HoldsFirst is_live_lead as' m.tour.visit.items

-- BEHIND THE LAST
pub record HasEnded (as' : List Leads) (F : List ℕ → MasterNode → List ℕ → Type 0) (m : MasterNode) (octets : List ℕ) : Type 0 where
  pub left : List ℕ
  pub filling : F left m octets
  pub ends : EndsFrame left m as'

module _ (as' : List Leads) (F : List ℕ → MasterNode → List ℕ → Type 0) (many : (left : List ℕ) (m : MasterNode) (octets : List ℕ) → F left m octets → length m.tour.stops.items ≡ length as')
    (same : (left : List ℕ) (m n : MasterNode) (octets : List ℕ) → SameTour m n → F left m octets → F left n octets) where
  -- before the first visit
  nothing_in : (ps : List ℕ) → ps ≡ [] → (k : ℕ) → is_in k ps ≡ true → ⊥
  nothing_in [] e k t = cc
  nothing_in (p ∷ ps) e k t = cc

  once_of : (again : Bool) (visit : List ℕ) (opened : ℕ) → (again ≡ true → ComeAgain is_live_lead visit opened as') → (again ≡ false → visit ≡ []) → AreOnce visit
  once_of true visit opened a b = (a refl).once
  once_of false visit opened a b = subst AreOnce (sym (b refl)) tt

  alone_of : (again : Bool) (visit : List ℕ) (opened : ℕ) → (again ≡ true → ComeAgain is_live_lead visit opened as') → (again ≡ false → visit ≡ []) → IsAlone opened (length as') visit
  alone_of true visit opened a b = (a refl).alone
  alone_of false visit opened a b = λ l k e. absurd (nothing_in visit (b refl) k e)

  pub rounds_first : (m : MasterNode) (octets : List ℕ) → ((left : List ℕ) → F left m octets) → BeginsFrame m octets as' → Rounds as' F 0 m octets
  rounds_first m octets filling e =
      let rest = visits_left m.tour.again m.tour.visit.items m.tour.opened (length m.tour.stops.items) m.tour.last m.tour.passed in
      let left = below (length as') ++ rest in
      record {
        left = left;
        filling = filling left;
        most = λ k t. in_last k (below (length as')) rest t;
        apart = λ l k a n. in_first k (below (length as')) rest (below_in (length as') k a);
        once = once_of m.tour.again m.tour.visit.items m.tour.opened e.again e.anew;
        behind = λ a k t. absurd (nothing_in m.tour.visit.items (e.anew a) k t);
        alone = alone_of m.tour.again m.tour.visit.items m.tour.opened e.again e.anew;
        few = λ a. ap length (e.anew a) ∙ sym e.count;
        none = λ z. record { count = e.count; passed = e.passed; short = e.short; begins = e.begins; some = e.some; lives = e.lives };
        some = λ l. absurd (omega (arith, l));
        repeats = λ a. (e.again a).first;
        first = λ l. absurd (omega (arith, l));
      }

  -- behind the last one
  pub rounds_last : (n : ℕ) (m : MasterNode) (octets : List ℕ) → 1 ≤ n → Rounds as' F n m octets → HasEnded as' F m octets
  rounds_last n m octets l f = record {
    left = f.left;
    filling = f.filling;
    ends = record { some = f.some l; apart = f.apart; comes = record { once = f.once; first = f.first l; alone = f.alone } };
  }

  pub rounds_same : (k : ℕ) (m n : MasterNode) (octets : List ℕ) → SameTour m n → Rounds as' F k m octets → 1 ≤ k → HasEnded as' F n octets
  rounds_same k m n octets s f l = record {
    left = f.left;
    filling = same f.left m n octets s f.filling;
    ends = record {
      some = subst (λ z. 1 ≤ z) (sym s.count) (f.some l);
      apart = subst (λ z. z < length as' → (j : ℕ) → j < length as' → (j ≡ z → ⊥) → is_in j f.left ≡ true) (sym s.opened) f.apart;
      comes = subst (λ z. ComeAgain is_live_lead z.items n.tour.opened as') (sym s.visit) (subst (λ z. ComeAgain is_live_lead m.tour.visit.items z as') (sym s.opened) (record { once = f.once; first = f.first l; alone = f.alone }));
    };
  }

  -- the places that a frame carries
  module _ (p : ℕ) (old left : List ℕ) where
    carried_once : (under again : Bool) (new : List ℕ) → IsCarried under again p old new → AreOnce old → (again ≡ false → is_in p old ≡ false) → AreOnce new
    carried_once true false new c o n = subst AreOnce (sym c) (once_more p old o (n refl))
    carried_once true true new c o n = subst AreOnce (sym c) o
    carried_once false again new c o n = subst AreOnce (sym c) o

    carried_or : (under again : Bool) (new : List ℕ) (k : ℕ) (P : Type 0) → IsCarried under again p old new → (is_in k old ≡ true → P) → (k ≡ p → P) → is_in k new ≡ true → P
    carried_or true false new k P c a b e = in_more k p old P a b (subst (λ z. is_in k z ≡ true) c e)
    carried_or true true new k P c a b e = a (subst (λ z. is_in k z ≡ true) c e)
    carried_or false again new k P c a b e = a (subst (λ z. is_in k z ≡ true) c e)

    carried_again : (under : Bool) (again : Bool) (new : List ℕ) → IsCarried under again p old new → again ≡ true → new ≡ old
    carried_again true true new c e = c
    carried_again true false new c e = absurd (cc)
    carried_again false again new c e = c

    more_length : (xs : List ℕ) → length (xs ++ p ∷ []) ≡ length xs + 1
    more_length [] = refl
    more_length (x ∷ xs) = let e = more_length xs in omega (arith, e)

    carried_count : (again : Bool) (new : List ℕ) (n c : ℕ) → IsCarried (nat_lt n c) again p old new → (c ≡ n) ⊎ (c ≡ n + 1) → again ≡ false → length old ≡ n → length new ≡ c
    carried_count again new n c i (inl e) a l =
        ap length (subst (λ z. IsCarried z again p old new) (le-ltb n c (omega (arith, e))) i) ∙ l ∙ sym e
    carried_count again new n c i (inr e) a l =
        let j = subst (λ z. IsCarried true z p old new) a (subst (λ z. IsCarried z again p old new) (lt-ltb n c (omega (arith, e))) i) in
        let w = more_length old in ap length j ∙ (let u : length (old ++ p ∷ []) ≡ c = omega (arith, w, l, e) in u)

    first_more : (xs : List ℕ) → HoldsFirst is_live_lead as' xs → HoldsFirst is_live_lead as' (xs ++ p ∷ [])
    first_more [] h = absurd h
    first_more (x ∷ xs) h = h

    carried_first : (under again : Bool) (new : List ℕ) → IsCarried under again p old new → HoldsFirst is_live_lead as' old → HoldsFirst is_live_lead as' new
    carried_first true false new c h = subst (λ z. HoldsFirst is_live_lead as' z) (sym c) (first_more old h)
    carried_first true true new c h = subst (λ z. HoldsFirst is_live_lead as' z) (sym c) h
    carried_first false again new c h = subst (λ z. HoldsFirst is_live_lead as' z) (sym c) h

    carried_one : (again : Bool) (new : List ℕ) → IsCarried true again p old new → again ≡ false → length old ≡ 0 → holds_at is_live_lead as' p ≡ true → HoldsFirst is_live_lead as' new
    carried_one again new c a l h = by old l (subst (λ z. IsCarried true z p old new) a c)
      where
        by : (xs : List ℕ) → length xs ≡ 0 → new ≡ xs ++ p ∷ [] → HoldsFirst is_live_lead as' new
        by [] l e = subst (λ z. HoldsFirst is_live_lead as' z) (sym e) h
        by (x ∷ xs) l e = absurd (cc)

  left_same : (again : Bool) (visit visit' : List ℕ) (opened count : ℕ) (last : Option ℕ) (passed : ℕ) → (again ≡ true → visit' ≡ visit) → visits_left again visit' opened count last passed ≡ visits_left again visit opened count last passed
  left_same true visit visit' opened count last passed e = ap (λ z. visits_left true z opened count last passed) (e refl)
  left_same false visit visit' opened count last passed e = refl

  -- ONE VISIT MORE: of the slave at this place, which comes next
  module _ (n : ℕ) (m m1 m2 : MasterNode) (octets octets2 : List ℕ) (p : ℕ) (f : Rounds as' F n m octets) (k : SameTour m m1)
      (due : (m.tour.again ≡ true → AreOnce m.tour.visit.items) → IsNextOf p (visits_left m.tour.again m.tour.visit.items m.tour.opened (length m.tour.stops.items) m.tour.last m.tour.passed) (visits_left m.tour.again m.tour.visit.items m.tour.opened (length m.tour.stops.items) m.tour.last m1.tour.passed))
      (leads : m.tour.count ≡ 0 → m.tour.passed ≡ 0 → BeginsLive (λ s. is_live s.stand) m.tour.again m.tour.visit.items m.tour.opened m.tour.stops.items → list_any (λ s. is_live s.stand) m.tour.stops.items ≡ true → holds_at (λ s. is_live s.stand) m.tour.stops.items p ≡ true)
      (space : m1.tour.count < 16) (on : TourOn m1 m2) (passed : m2.tour.passed ≡ m1.tour.passed)
      (carries : (m1.tour.again ≡ false → length m1.tour.visit.items < 16) → IsCarried (nat_lt m1.tour.count m2.tour.count) m1.tour.again p m1.tour.visit.items m2.tour.visit.items)
      (counts : (m2.tour.count ≡ m1.tour.count) ⊎ (m2.tour.count ≡ m1.tour.count + 1)) (adds : length octets ≡ 16 → holds_at (λ s. is_live s.stand) m1.tour.stops.items p ≡ true → m2.tour.count ≡ m1.tour.count + 1)
      (led : (left next : List ℕ) → is_in p left ≡ true → is_in p next ≡ false → ((j : ℕ) → is_in j next ≡ true → is_in j left ≡ true) → F left m1 octets → F next m2 octets2) where
    comes_next : IsNextOf p (visits_left m.tour.again m.tour.visit.items m.tour.opened (length m.tour.stops.items) m.tour.last m.tour.passed) (visits_left m.tour.again m.tour.visit.items m.tour.opened (length m.tour.stops.items) m.tour.last m1.tour.passed)
    comes_next = due (λ e. f.once)

    at : is_in p f.left ≡ true
    at = f.most p comes_next.among

    filling2 : F (without p f.left) m2 octets2
    filling2 = led f.left (without p f.left) at (without_not p f.left) (λ j e. without_fewer p j f.left e) (same f.left m m1 octets k f.filling)

    count1 : m1.tour.count ≡ m.tour.count
    count1 = k.count

    carried : IsCarried (nat_lt m.tour.count m2.tour.count) m.tour.again p m.tour.visit.items m2.tour.visit.items
    carried =
        let c = carries (λ e. let w = ap (λ z. length z.items) k.visit in let u = f.few (sym k.again ∙ e) in omega (arith, w, u, space, count1)) in
        subst (λ z. IsCarried (nat_lt m.tour.count m2.tour.count) m.tour.again p z.items m2.tour.visit.items) k.visit
        (subst (λ z. IsCarried (nat_lt m.tour.count m2.tour.count) z p m1.tour.visit.items m2.tour.visit.items) k.again
        (subst (λ z. IsCarried (nat_lt z m2.tour.count) m1.tour.again p m1.tour.visit.items m2.tour.visit.items) count1 c))

    again2 : m2.tour.again ≡ m.tour.again
    again2 = on.again ∙ k.again

    opened2 : m2.tour.opened ≡ m.tour.opened
    opened2 = on.opened ∙ k.opened

    same_left : visits_left m2.tour.again m2.tour.visit.items m2.tour.opened (length m2.tour.stops.items) m2.tour.last m2.tour.passed ≡ visits_left m.tour.again m.tour.visit.items m.tour.opened (length m.tour.stops.items) m.tour.last m1.tour.passed
    same_left =
        (λ i. visits_left (again2 i) m2.tour.visit.items (opened2 i) ((many (without p f.left) m2 octets2 filling2 ∙ sym (many f.left m octets f.filling)) i) ((on.last ∙ k.last) i) (passed i))
        ∙ left_same m.tour.again m.tour.visit.items m2.tour.visit.items m.tour.opened (length m.tour.stops.items) m.tour.last m1.tour.passed (carried_again p m.tour.visit.items f.left (nat_lt m.tour.count m2.tour.count) m.tour.again m2.tour.visit.items carried)

    not_before : m.tour.again ≡ false → is_in p m.tour.visit.items ≡ false
    not_before e = not_in p m.tour.visit.items (λ t. true_false (is_in p f.left) at (f.behind e p t))

    is_opened_one : m.tour.opened < length as' → p ≡ m.tour.opened
    is_opened_one l =
        let w = many f.left m octets f.filling in
        left_alone m.tour.again m.tour.visit.items m.tour.opened (length m.tour.stops.items) m.tour.last m.tour.passed (omega (arith, l, w)) (f.alone l) p comes_next.among

    adds_one : n ≡ 0 → m2.tour.count ≡ m1.tour.count + 1
    adds_one z =
        let y = f.none z in
        adds y.short (subst (λ w. holds_at (λ s. is_live s.stand) w.items p ≡ true) (sym k.stops) (leads y.count y.passed y.begins y.some))

    lives_there : n ≡ 0 → holds_at is_live_lead as' p ≡ true
    lives_there z = let y = f.none z in sym (y.lives p) ∙ leads y.count y.passed y.begins y.some

    first2 : (b : Bool) → m.tour.again ≡ b → (n ≡ 0) ⊎ (1 ≤ n) → HoldsFirst is_live_lead as' m2.tour.visit.items
    first2 b e (inr l) = carried_first p m.tour.visit.items f.left (nat_lt m.tour.count m2.tour.count) m.tour.again m2.tour.visit.items carried (f.first l)
    first2 true e (inl z) = carried_first p m.tour.visit.items f.left (nat_lt m.tour.count m2.tour.count) m.tour.again m2.tour.visit.items carried (f.repeats e)
    first2 false e (inl z) =
        let y = f.none z in
        let w = adds_one z in
        carried_one p m.tour.visit.items f.left m.tour.again m2.tour.visit.items (subst (λ u. IsCarried u m.tour.again p m.tour.visit.items m2.tour.visit.items) (lt-ltb m.tour.count m2.tour.count (omega (arith, w, count1))) carried) e (f.few e ∙ y.count) (lives_there z)

    none_or : (j : ℕ) → (j ≡ 0) ⊎ (1 ≤ j)
    none_or zero = inl refl
    none_or (suc j) = inr (omega arith)

    some2 : (n ≡ 0) ⊎ (1 ≤ n) → 1 ≤ m2.tour.count
    some2 (inl z) = let w = adds_one z in omega (arith, w)
    some2 (inr l) = grows counts
      where
        grows : (m2.tour.count ≡ m1.tour.count) ⊎ (m2.tour.count ≡ m1.tour.count + 1) → 1 ≤ m2.tour.count
        grows (inl e) = let w = f.some l in omega (arith, w, e, count1)
        grows (inr e) = omega (arith, e)

    pub rounds_more : Rounds as' F (n + 1) m2 octets2
    rounds_more = record {
      left = without p f.left;
      filling = filling2;
      most = λ j e.
          let t = subst (λ z. is_in j z ≡ true) same_left e in
          without_other p j f.left (λ q. true_false (is_in p (visits_left m.tour.again m.tour.visit.items m.tour.opened (length m.tour.stops.items) m.tour.last m1.tour.passed)) (subst (λ z. is_in z (visits_left m.tour.again m.tour.visit.items m.tour.opened (length m.tour.stops.items) m.tour.last m1.tour.passed) ≡ true) q t) comes_next.over) (f.most j (comes_next.fewer j t));
      apart = λ l j a d.
          let l0 = subst (λ z. z < length as') opened2 l in
          let d0 : j ≡ m.tour.opened → ⊥ = λ q. d (q ∙ sym opened2) in
          without_other p j f.left (λ q. d0 (q ∙ is_opened_one l0)) (f.apart l0 j a d0);
      once = carried_once p m.tour.visit.items f.left (nat_lt m.tour.count m2.tour.count) m.tour.again m2.tour.visit.items carried f.once not_before;
      behind = λ a j e.
          let b = sym again2 ∙ a in
          not_in j (without p f.left) (λ t. carried_or p m.tour.visit.items f.left (nat_lt m.tour.count m2.tour.count) m.tour.again m2.tour.visit.items j ⊥ carried
          (λ w. true_false (is_in j f.left) (without_fewer p j f.left t) (f.behind b j w)) (λ q. true_false (is_in p (without p f.left)) (subst (λ z. is_in z (without p f.left) ≡ true) q t) (without_not p f.left)) e);
      alone = λ l j e.
          let l0 = subst (λ z. z < length as') opened2 l in
          carried_or p m.tour.visit.items f.left (nat_lt m.tour.count m2.tour.count) m.tour.again m2.tour.visit.items j (j ≡ m2.tour.opened) carried (λ w. f.alone l0 j w ∙ sym opened2) (λ q. q ∙ is_opened_one l0 ∙ sym opened2) e;
      few = λ a. carried_count p m.tour.visit.items f.left m.tour.again m2.tour.visit.items m.tour.count m2.tour.count carried (subst (λ z. (m2.tour.count ≡ z) ⊎ (m2.tour.count ≡ z + 1)) count1 counts) (sym again2 ∙ a) (f.few (sym again2 ∙ a));
      none = λ z. absurd (omega (arith, z));
      some = λ l. some2 (none_or n);
      repeats = λ a. carried_first p m.tour.visit.items f.left (nat_lt m.tour.count m2.tour.count) m.tour.again m2.tour.visit.items carried (f.repeats (sym again2 ∙ a));
      first = λ l. first2 m.tour.again refl (none_or n);
    }

  -- one that the frame has no room for
  pub rounds_still : (n : ℕ) (m m1 m2 : MasterNode) (octets octets2 : List ℕ) (p : ℕ) → 1 ≤ n → (f : Rounds as' F n m octets) → SameTour m m1 → is_in p f.left ≡ true → TourOn m1 m2 → m2.tour.count ≡ m1.tour.count → m2.tour.visit ≡ m1.tour.visit →
      ((left next : List ℕ) → is_in p left ≡ true → is_in p next ≡ false → ((j : ℕ) → is_in j next ≡ true → is_in j left ≡ true) → F left m1 octets → F left m2 octets2) → HasEnded as' F m2 octets2
  rounds_still n m m1 m2 octets octets2 p l f k at on count visit led =
      let opened2 = on.opened ∙ k.opened in
      record {
        left = f.left;
        filling = led f.left (without p f.left) at (without_not p f.left) (λ j e. without_fewer p j f.left e) (same f.left m m1 octets k f.filling);
        ends = record {
          some = let w = f.some l in let u = k.count in omega (arith, w, u, count);
          apart = subst (λ z. z < length as' → (j : ℕ) → j < length as' → (j ≡ z → ⊥) → is_in j f.left ≡ true) (sym opened2) f.apart;
          comes = subst (λ z. ComeAgain is_live_lead z.items m2.tour.opened as') (sym (visit ∙ k.visit)) (subst (λ z. ComeAgain is_live_lead m.tour.visit.items z as') (sym opened2) (record { once = f.once; first = f.first l; alone = f.alone }));
        };
      }

-- one step after the other
pub on_same : (m : MasterNode) → TourOn m m
on_same m = record { again = refl; opened = refl; last = refl; missed = refl; retry = refl; made = refl }

pub on_on : (m n o : MasterNode) → TourOn m n → TourOn n o → TourOn m o
on_on m n o a b = record { again = b.again ∙ a.again; opened = b.opened ∙ a.opened; last = b.last ∙ a.last; missed = b.missed ∙ a.missed; retry = b.retry ∙ a.retry; made = b.made ∙ a.made }

-- a place that passes is one
pub passes_some : {S : Type 0} (test : S → Bool) (ss : List S) (o : Option ℕ) → o ≡ None → Passes test ss o → ⊥
passes_some test ss None e p = p
passes_some test ss (Some k) e p = cc

pub passes_at : {S : Type 0} (test : S → Bool) (ss : List S) (o : Option ℕ) (k : ℕ) → o ≡ Some k → Passes test ss o → holds_at test ss k ≡ true
passes_at test ss None k e p = absurd p
passes_at test ss (Some j) k e p = let f : j ≡ k = cc in subst (λ z. holds_at test ss z ≡ true) f p

pub some_count : (n : ℕ) → (n ≡ 0 → ⊥) → 1 ≤ n
some_count zero h = absurd (h refl)
some_count (suc n) h = omega arith
