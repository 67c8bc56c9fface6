-- Repairs end.
use Rattle.std.proofs.Common.{◌≡◌, ◌⊎◌, ℕ, suc, ◌+◌, ◌≤◌, Bool, true, false, Option, Some, None, List, [], ◌∷◌, refl, sym, ap, subst, arith, if◌then◌else◌, inl, inr}
use Rattle.std.specs.Prelude.{nat_le}
use Rattle.std.proofs.lemmas.Bool.{leb-true, leb-false}
use Rattle.life_model.specs.Repairs.{Way, whole_way}
use Rattle.life_model.specs.Tally.{quiet}
use Rattle.life_model.specs.Deadlines.{Standing, is_vain, deadline, deadline_of, IsTimed, Ticks, Mends, MendsIf, AllMend, repair, patience, Lasts}

-- AT MOST its accesses
most_of : (slaves pace : ℕ) (s : Standing) (way : Option Way) → IsTimed slaves pace s → deadline_of slaves s way ≤ whole_way slaves pace way
most_of slaves pace s None t = omega arith
most_of slaves pace s (Some w) t = go w.awaits s.stepped
  where
    go : (b c : Bool) → w.rest + (if (if b then (if c then false else true) else false) then s.clock + slaves else suc s.ahead) ≤ w.rest + (slaves + (if b then pace else 0))
    go true true = omega (arith, t.ahead)
    go true false = omega (arith, t.clock)
    go false c = omega (arith, t.ahead)

pub most : (slaves pace : ℕ) (s : Standing) → IsTimed slaves pace s → deadline slaves s ≤ whole_way slaves pace s.way
most slaves pace s t = most_of slaves pace s s.way t

least : (slaves pace : ℕ) (s : Standing) (w : Way) → IsTimed slaves pace s → suc w.rest ≤ deadline_of slaves s (Some w)
least slaves pace s w t = go (is_vain w s.stepped)
  where
    go : (b : Bool) → suc w.rest ≤ w.rest + (if b then s.clock + slaves else suc s.ahead)
    go true = omega (arith, t.some)
    go false = omega arith

-- before a step the clock, behind it the round
waits : (slaves pace : ℕ) (a b : Standing) (w : Way) → IsTimed slaves pace a → IsTimed slaves pace b → is_vain w a.stepped ≡ true → Ticks a b → suc (deadline_of slaves b (Some w)) ≤ deadline_of slaves a (Some w)
waits slaves pace a b w s t v k = go w.awaits a.stepped b.stepped v k
  where
    go : (e c d : Bool) → (if e then (if c then false else true) else false) ≡ true → (d ≡ true) ⊎ (suc b.clock ≤ a.clock) →
        suc (w.rest + (if (if e then (if d then false else true) else false) then b.clock + slaves else suc b.ahead)) ≤ w.rest + (if (if e then (if c then false else true) else false) then a.clock + slaves else suc a.ahead)
    go false c d v k = absurd (cc)
    go true true d v k = absurd (cc)
    go true false true v k = omega (arith, t.ahead, s.some)
    go true false false v (inl k) = absurd (cc)
    go true false false v (inr k) = omega (arith, k)

passing : (slaves pace : ℕ) (a b : Standing) (w : Way) → IsTimed slaves pace a → IsTimed slaves pace b → (a.stepped ≡ true → b.stepped ≡ true) → suc b.ahead ≤ a.ahead → Ticks a b → suc (deadline_of slaves b (Some w)) ≤ deadline_of slaves a (Some w)
passing slaves pace a b w s t stays near k = go w.awaits a.stepped b.stepped stays k
  where
    go : (e c d : Bool) → (c ≡ true → d ≡ true) → (d ≡ true) ⊎ (suc b.clock ≤ a.clock) →
        suc (w.rest + (if (if e then (if d then false else true) else false) then b.clock + slaves else suc b.ahead)) ≤ w.rest + (if (if e then (if c then false else true) else false) then a.clock + slaves else suc a.ahead)
    go false c d stays k = omega (arith, near)
    go true true true stays k = omega (arith, near)
    go true true false stays k = absurd (let no = stays refl in cc)
    go true false true stays k = omega (arith, t.ahead, s.some)
    go true false false stays (inl k) = absurd (cc)
    go true false false stays (inr k) = omega (arith, k)

mends : (slaves pace : ℕ) (a b : Standing) (w : Way) → IsTimed slaves pace a → IsTimed slaves pace b → Mends slaves pace a b w → suc (deadline slaves b) ≤ deadline_of slaves a (Some w)
mends slaves pace a b w s t (Mends.passes e stays near k) = subst (λ z. suc (deadline_of slaves b z) ≤ deadline_of slaves a (Some w)) (sym e) (passing slaves pace a b w s t stays near k)
mends slaves pace a b w s t (Mends.vain e v k) = subst (λ z. suc (deadline_of slaves b z) ≤ deadline_of slaves a (Some w)) (sym e) (waits slaves pace a b w s t v k)
mends slaves pace a b w s t (Mends.on less) = omega (arith, most slaves pace b t, less, least slaves pace a w s)

pub nearer_end : (slaves pace : ℕ) (a b : Standing) (w : Way) → IsTimed slaves pace a → IsTimed slaves pace b → a.way ≡ Some w → Mends slaves pace a b w → suc (deadline slaves b) ≤ deadline slaves a
nearer_end slaves pace a b w s t e m = subst (λ z. suc (deadline slaves b) ≤ deadline_of slaves a z) (sym e) (mends slaves pace a b w s t m)

-- OF ALL SLAVES
one_ends : (slaves pace : ℕ) (a b : Standing) (way : Option Way) → a.way ≡ way → IsTimed slaves pace a → IsTimed slaves pace b → MendsIf slaves pace a b way → (deadline slaves b ≡ 0) ⊎ (suc (deadline slaves b) ≤ deadline slaves a)
one_ends slaves pace a b None e s t m = inl (ap (deadline_of slaves b) m)
one_ends slaves pace a b (Some w) e s t m = inr (nearer_end slaves pace a b w s t e m)

above : (slaves : ℕ) (s : Standing) (ss : List Standing) → (deadline slaves s ≤ repair slaves (s ∷ ss)) × (repair slaves ss ≤ repair slaves (s ∷ ss))
above slaves s ss = go (nat_le (repair slaves ss) (deadline slaves s)) refl
  where
    go : (b : Bool) → nat_le (repair slaves ss) (deadline slaves s) ≡ b → (deadline slaves s ≤ (if b then deadline slaves s else repair slaves ss)) × (repair slaves ss ≤ (if b then deadline slaves s else repair slaves ss))
    go true e = (omega arith, leb-true (repair slaves ss) (deadline slaves s) e)
    go false e = (let less = leb-false (repair slaves ss) (deadline slaves s) e in omega (arith, less), omega arith)

pub ring_ends : (slaves pace : ℕ) (before behind : List Standing) → AllMend slaves pace before behind → (repair slaves behind ≡ 0) ⊎ (suc (repair slaves behind) ≤ repair slaves before)
ring_ends slaves pace [] [] m = inl refl
ring_ends slaves pace [] (b ∷ bs) m = absurd m
ring_ends slaves pace (a ∷ as') [] m = absurd m
ring_ends slaves pace (a ∷ as') (b ∷ bs) m =
    go (nat_le (repair slaves bs) (deadline slaves b)) (one_ends slaves pace a b a.way refl m.0.0 m.0.1 m.0.2) (ring_ends slaves pace as' bs m.1) (above slaves a as')
  where
    go : (c : Bool) → (deadline slaves b ≡ 0) ⊎ (suc (deadline slaves b) ≤ deadline slaves a) → (repair slaves bs ≡ 0) ⊎ (suc (repair slaves bs) ≤ repair slaves as') → (deadline slaves a ≤ repair slaves (a ∷ as')) × (repair slaves as' ≤ repair slaves (a ∷ as')) →
        ((if c then deadline slaves b else repair slaves bs) ≡ 0) ⊎ (suc (if c then deadline slaves b else repair slaves bs) ≤ repair slaves (a ∷ as'))
    go true (inl e) r up = inl e
    go true (inr less) r up = inr (omega (arith, less, up.0))
    go false h (inl e) up = inl e
    go false h (inr less) up = inr (omega (arith, less, up.1))

-- NONE LASTS LONGER
lasting : (slaves pace : ℕ) (a : Standing) (k : ℕ) (b : Standing) → Lasts slaves pace a k b → k + deadline slaves b ≤ deadline slaves a
lasting slaves pace a k b Lasts.none = omega arith
lasting slaves pace a k b (Lasts.more j c d w before e s t m) = omega (arith, lasting slaves pace a j c before, nearer_end slaves pace c b w s t e m)

pub lasts : (slaves pace k : ℕ) (a b : Standing) → IsTimed slaves pace a → Lasts slaves pace a k b → k ≤ whole_way slaves pace a.way
lasts slaves pace k a b t l = omega (arith, lasting slaves pace a k b l, most slaves pace a t)

pub is_patient : (slaves pace : ℕ) → whole_way slaves pace (Some (patience slaves)) ≤ quiet slaves pace
is_patient slaves pace = omega arith
