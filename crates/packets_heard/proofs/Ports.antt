-- The events at one port.
use Rattle.std.proofs.Common.{◌≡◌, ◌≤◌, ℕ, ◌+◌, Bool, true, false, Option, Some, None, List, [], ◌∷◌, ◌++◌, refl, sym, ap, ◌∙◌, arith, length, append_assoc, append-nil}
use Rattle.std.specs.Prelude.{◌==◌, nat_lt, if◌then◌else◌, slice_get, All}
use Rattle.std.proofs.lemmas.Bool.Decides.{nat_tests}
use Rattle.std.proofs.lemmas.List.Elements.{All-head, All-tail}
use Rattle.arrayvec.specs.ArrayVec.{ArrayVec}
use Rattle.master_node.specs.of_eoe_switch.declared.switching.SwitchEvent.{SwitchEvent}
use Rattle.master_node.specs.of_eoe_switch.declared.switching.SwitchEvent.TheVariants.{Arrive, Begun, Down}
use Rattle.master_node.specs.Arrivals.{arrive_where, arrive_at, arrive_by, arrivals_in}
use Rattle.master_node.specs.Downs.{down_by, downs_in}
use Rattle.master_node.specs.Forwards.{port_by}
use Rattle.master_node.specs.Happened.{arrived_by, arrivals_at}
use Rattle.master_node.specs.Made.{IsOfMaking}
use Rattle.master_node.specs.of_master_tour.Made.{is_in}
use Rattle.master_node.specs.of_master_tour.Orders.{AreOnce}
use Rattle.packets_heard.specs.Listed.{down_by_event, downs_at, long_where, long_ones, IsOwn}

same_port : (p : ℕ) → (p == p) ≡ true
same_port p = grind (arith, nat_tests)

other_port : (q p : ℕ) → (q ≡ p → ⊥) → (q == p) ≡ false
other_port q p n = go (q == p) refl
  where
    go : (b : Bool) → (q == p) ≡ b → (q == p) ≡ false
    go false e = e
    go true e = absurd (n (grind (arith, nat_tests, e)))

equal : (k q : ℕ) → (k == q) ≡ true → k ≡ q
equal k q e = grind (arith, nat_tests)

unequal : (k q : ℕ) → (k == q) ≡ false → q ≡ k → ⊥
unequal k q e s = let bad : true ≡ false = sym (ap (λ z. k == z) s ∙ same_port k) ∙ e in cc

zero_plus : (n : ℕ) → 0 + n ≡ n
zero_plus n = omega arith

-- ---- one behind the other

pub downs_append : (p : ℕ) (xs ys : List SwitchEvent) → downs_at p (xs ++ ys) ≡ downs_at p xs + downs_at p ys
downs_append p [] ys = omega arith
downs_append p (x ∷ xs) ys = let rest = downs_append p xs ys in omega (arith, rest)

pub arrivals_append : (p : ℕ) (xs ys : List SwitchEvent) → arrivals_at p (xs ++ ys) ≡ arrivals_at p xs ++ arrivals_at p ys
arrivals_append p [] ys = refl
arrivals_append p (x ∷ xs) ys = ap (λ z. arrived_by p x ++ z) (arrivals_append p xs ys) ∙ sym (append_assoc (arrived_by p x) (arrivals_at p xs) (arrivals_at p ys))

pub long_append : (xs ys : List (List ℕ)) → long_ones (xs ++ ys) ≡ long_ones xs ++ long_ones ys
long_append [] ys = refl
long_append (x ∷ xs) ys = ap (λ z. long_where (nat_lt (length x) 14) x ++ z) (long_append xs ys) ∙ sym (append_assoc (long_where (nat_lt (length x) 14) x) (long_ones xs) (long_ones ys))

-- ---- while a frame is made

made_down : (p : ℕ) (e : SwitchEvent) → IsOfMaking e → down_by_event p e ≡ 0
made_down p (Arrive q packet) i = refl
made_down p (Begun q) i = refl
made_down p (Down q) i = absurd i

pub making_downs : (p : ℕ) (es : List SwitchEvent) → All IsOfMaking es → downs_at p es ≡ 0
making_downs p [] a = refl
making_downs p (e ∷ es) a =
    let here = made_down p e (All-head IsOfMaking e es a) in
    let rest = making_downs p es (All-tail IsOfMaking e es a) in
    omega (arith, here, rest)

host_not : (p q : ℕ) → 1 ≤ p → q ≡ 0 → q ≡ p → ⊥
host_not p q l e s = omega (arith, l, e, s)

made_arrival : (p : ℕ) (e : SwitchEvent) → 1 ≤ p → IsOfMaking e → arrived_by p e ≡ []
made_arrival p (Arrive q packet) l i = ap (λ (b : Bool). if b then packet ∷ [] else []) (other_port q p (host_not p q l i))
made_arrival p (Begun q) l i = refl
made_arrival p (Down q) l i = absurd i

pub making_arrivals : (p : ℕ) (es : List SwitchEvent) → 1 ≤ p → All IsOfMaking es → arrivals_at p es ≡ []
making_arrivals p [] l a = refl
making_arrivals p (e ∷ es) l a = λ i. made_arrival p e l (All-head IsOfMaking e es a) i ++ making_arrivals p es l (All-tail IsOfMaking e es a) i

-- ---- of one slave

abbrev pub once_if : Bool → ℕ
once_if b = if b then 1 else 0

down_own : (p : ℕ) (goes : Bool) → downs_at p (down_by (Some p) goes) ≡ once_if goes
down_own p false = refl
down_own p true = ap (λ (b : Bool). once_if b + 0) (same_port p)

down_other : (p : ℕ) (o : Option ℕ) (goes : Bool) → (o ≡ Some p → ⊥) → downs_at p (down_by o goes) ≡ 0
down_other p None goes n = refl
down_other p (Some q) false n = refl
down_other p (Some q) true n = ap (λ (b : Bool). once_if b + 0) (other_port q p (λ e. n (ap Some e)))

abbrev as_packet : List ℕ → ArrayVec ℕ
as_packet octets = record { items = octets }

where_own : (p : ℕ) (short : Bool) (octets : List ℕ) → arrivals_at p (arrive_where short p octets) ≡ long_where short octets
where_own p true octets = refl
where_own p false octets = ap (λ (b : Bool). (if b then as_packet octets ∷ [] else []) ++ []) (same_port p)

arrive_own : (p : ℕ) (ps : List (List ℕ)) → arrivals_at p (arrive_at p ps) ≡ long_ones ps
arrive_own p [] = refl
arrive_own p (x ∷ xs) = arrivals_append p (arrive_where (nat_lt (length x) 14) p x) (arrive_at p xs) ∙ (λ i. where_own p (nat_lt (length x) 14) x i ++ arrive_own p xs i)

where_other : (p q : ℕ) → (q ≡ p → ⊥) → (short : Bool) (octets : List ℕ) → arrivals_at p (arrive_where short q octets) ≡ []
where_other p q n true octets = refl
where_other p q n false octets = ap (λ (b : Bool). (if b then as_packet octets ∷ [] else []) ++ []) (other_port q p n)

at_other : (p q : ℕ) → (q ≡ p → ⊥) → (ps : List (List ℕ)) → arrivals_at p (arrive_at q ps) ≡ []
at_other p q n [] = refl
at_other p q n (x ∷ xs) = arrivals_append p (arrive_where (nat_lt (length x) 14) q x) (arrive_at q xs) ∙ (λ i. where_other p q n (nat_lt (length x) 14) x i ++ at_other p q n xs i)

arrive_other : (p : ℕ) (o : Option ℕ) (ps : List (List ℕ)) → (o ≡ Some p → ⊥) → arrivals_at p (arrive_by o ps) ≡ []
arrive_other p None ps n = refl
arrive_other p (Some q) ps n = at_other p q (λ e. n (ap Some e)) ps

-- a port that goes down brings nothing, and what comes in takes none down
down_brings : (p : ℕ) (o : Option ℕ) (goes : Bool) → arrivals_at p (down_by o goes) ≡ []
down_brings p None goes = refl
down_brings p (Some q) false = refl
down_brings p (Some q) true = refl

where_takes : (p q : ℕ) (short : Bool) (octets : List ℕ) → downs_at p (arrive_where short q octets) ≡ 0
where_takes p q true octets = refl
where_takes p q false octets = refl

at_takes : (p q : ℕ) (ps : List (List ℕ)) → downs_at p (arrive_at q ps) ≡ 0
at_takes p q [] = refl
at_takes p q (x ∷ xs) =
    let both = downs_append p (arrive_where (nat_lt (length x) 14) q x) (arrive_at q xs) in
    both ∙ (λ i. where_takes p q (nat_lt (length x) 14) x i + at_takes p q xs i)

by_takes : (p : ℕ) (o : Option ℕ) (ps : List (List ℕ)) → downs_at p (arrive_by o ps) ≡ 0
by_takes p None ps = refl
by_takes p (Some q) ps = at_takes p q ps

-- ---- of the slaves of a visit

module _ (ports : List (Option ℕ)) where
  abbrev port_of : ℕ → Option ℕ
  port_of k = port_by (slice_get ports k)

  pub downs_bring : (p : ℕ) (goes : ℕ → Bool) (ps : List ℕ) → arrivals_at p (downs_in ports goes ps) ≡ []
  downs_bring p goes [] = refl
  downs_bring p goes (q ∷ ps) = arrivals_append p (down_by (port_of q) (goes q)) (downs_in ports goes ps) ∙ (λ i. down_brings p (port_of q) (goes q) i ++ downs_bring p goes ps i)

  pub arrivals_take : (p : ℕ) (packets : ℕ → List (List ℕ)) (ps : List ℕ) → downs_at p (arrivals_in ports packets ps) ≡ 0
  arrivals_take p packets [] = refl
  arrivals_take p packets (q ∷ ps) =
      downs_append p (arrive_by (port_of q) (packets q)) (arrivals_in ports packets ps) ∙ (λ i. by_takes p (port_of q) (packets q) i + arrivals_take p packets ps i)

  module _ (k p : ℕ) (own : IsOwn ports k p) where
    not_own : (q : ℕ) → (k == q) ≡ false → port_of q ≡ Some p → ⊥
    not_own q e h = unequal k q e (own.alone q h)

    -- how often the port goes down by the visit
    pub downs_visit : (goes : ℕ → Bool) (ps : List ℕ) → AreOnce ps → downs_at p (downs_in ports goes ps) ≡ (if is_in k ps then once_if (goes k) else 0)
    downs_visit goes [] once = refl
    downs_visit goes (q ∷ ps) once = downs_append p here rest ∙ go (downs_visit goes ps once.1) (k == q) refl
      where
        here : List SwitchEvent
        here = down_by (port_of q) (goes q)

        rest : List SwitchEvent
        rest = downs_in ports goes ps

        go : downs_at p rest ≡ (if is_in k ps then once_if (goes k) else 0) → (b : Bool) → (k == q) ≡ b → downs_at p here + downs_at p rest ≡ (if (if k == q then true else is_in k ps) then once_if (goes k) else 0)
        go ih true e =
            let same : k ≡ q = equal k q e in
            let head : downs_at p here ≡ once_if (goes k) = (λ i. downs_at p (down_by (port_of (sym same i)) (goes (sym same i)))) ∙ ap (λ o. downs_at p (down_by o (goes k))) own.has ∙ down_own p (goes k) in
            let tail : downs_at p rest ≡ 0 = ih ∙ ap (λ (b : Bool). if b then once_if (goes k) else 0) (ap (λ z. is_in z ps) same ∙ once.0) in
            let sum : downs_at p here + downs_at p rest ≡ once_if (goes k) = omega (arith, head, tail) in
            sum ∙ ap (λ (b : Bool). if (if b then true else is_in k ps) then once_if (goes k) else 0) (sym e)
        go ih false e =
            let head : downs_at p here ≡ 0 = down_other p (port_of q) (goes q) (not_own q e) in
            ap (λ n. n + downs_at p rest) head ∙ zero_plus (downs_at p rest) ∙ ih ∙ ap (λ (b : Bool). if (if b then true else is_in k ps) then once_if (goes k) else 0) (sym e)

    -- what comes in there
    pub arrivals_visit : (packets : ℕ → List (List ℕ)) (ps : List ℕ) → AreOnce ps → arrivals_at p (arrivals_in ports packets ps) ≡ (if is_in k ps then long_ones (packets k) else [])
    arrivals_visit packets [] once = refl
    arrivals_visit packets (q ∷ ps) once = arrivals_append p here rest ∙ go (arrivals_visit packets ps once.1) (k == q) refl
      where
        here : List SwitchEvent
        here = arrive_by (port_of q) (packets q)

        rest : List SwitchEvent
        rest = arrivals_in ports packets ps

        go : arrivals_at p rest ≡ (if is_in k ps then long_ones (packets k) else []) → (b : Bool) → (k == q) ≡ b → arrivals_at p here ++ arrivals_at p rest ≡ (if (if k == q then true else is_in k ps) then long_ones (packets k) else [])
        go ih true e =
            let same : k ≡ q = equal k q e in
            let head : arrivals_at p here ≡ long_ones (packets k) = (λ i. arrivals_at p (arrive_by (port_of (sym same i)) (packets (sym same i)))) ∙ ap (λ o. arrivals_at p (arrive_by o (packets k))) own.has ∙ arrive_own p (packets k) in
            let tail : arrivals_at p rest ≡ [] = ih ∙ ap (λ (b : Bool). if b then long_ones (packets k) else []) (ap (λ z. is_in z ps) same ∙ once.0) in
            (λ i. head i ++ tail i) ∙ append-nil (long_ones (packets k)) ∙ ap (λ (b : Bool). if (if b then true else is_in k ps) then long_ones (packets k) else []) (sym e)
        go ih false e =
            ap (λ z. z ++ arrivals_at p rest) (arrive_other p (port_of q) (packets q) (not_own q e)) ∙ ih
            ∙ ap (λ (b : Bool). if (if b then true else is_in k ps) then long_ones (packets k) else []) (sym e)
