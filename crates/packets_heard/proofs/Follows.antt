-- The packets taken at a port are the first of those that were forwarded to it.
use Rattle.std.proofs.Common.{◌≡◌, ◌≤◌, ◌<◌, ℕ, zero, suc, ◌+◌, ◌^◌, Bool, true, false, Option, Some, None, List, [], ◌∷◌, ◌++◌, refl, sym, ap, subst, ◌∙◌, arith, length, drop, replicate, append_assoc, append-nil}
use Rattle.std.specs.Prelude.{⊤, ◌==◌, ◌||◌, not, nat_lt, if◌then◌else◌, slice_get}
use Rattle.std.proofs.lemmas.Bool.Decides.{nat_tests}
use Rattle.std.proofs.lemmas.Grind.{common_steps}
use Rattle.arrayvec.specs.ArrayVec.{ArrayVec}
use Rattle.master_node.specs.of_eoe_switch.Ports.{AtPort, is_known_target, is_target, taken_at, offered}
use Rattle.master_node.specs.of_eoe_switch.Switch.{Switched, Flow, first_port, first_switch, ports_behind, bit_where, route_of, learned_from, queue_of, queue_at, changed, forwards_behind, flow_behind, flow_of, switched}
use Rattle.master_node.specs.of_eoe_switch.declared.port.Offered.{Offered}
use Rattle.master_node.specs.of_eoe_switch.declared.port.Offered.TheVariants.{Not, Taken, Full}
use Rattle.master_node.specs.of_eoe_switch.declared.port.Port.{Port}
use Rattle.master_node.specs.of_eoe_switch.declared.port.Route.{Route}
use Rattle.master_node.specs.of_eoe_switch.declared.switching.SwitchEvent.{SwitchEvent}
use Rattle.master_node.specs.of_eoe_switch.declared.switching.SwitchEvent.TheVariants.{Arrive, Begun, Down}
use Rattle.master_node.specs.Begins as Begins
use Rattle.master_node.specs.Begins.{switch_on, switch_behind, taken_by, taken_in}
use Rattle.packets_heard.specs.Over.{forwarded_to}

abbrev Packets : Type 0
Packets = List (ArrayVec ℕ)

-- the packets that are taken at a port, where one waited
abbrev one_at : ℕ → Option ℕ → Option (ArrayVec ℕ) → Packets
one_at p None o = []
one_at p (Some q) None = []
one_at p (Some q) (Some x) = if q == p then x ∷ [] else []

abbrev pub all_at : ℕ → List Begins.Taken → Packets
all_at p [] = []
all_at p (t ∷ ts) = one_at p t.port t.packet ++ all_at p ts

pub all_append : (p : ℕ) (xs ys : List Begins.Taken) → all_at p (xs ++ ys) ≡ all_at p xs ++ all_at p ys
all_append p [] ys = refl
all_append p (x ∷ xs) ys = ap (λ z. one_at p x.port x.packet ++ z) (all_append p xs ys) ∙ sym (append_assoc (one_at p x.port x.packet) (all_at p xs) (all_at p ys))

pub taken_append : (s : Switched) (xs ys : List SwitchEvent) → taken_in s (xs ++ ys) ≡ taken_in s xs ++ taken_in (switch_behind s xs) ys
taken_append s [] ys = refl
taken_append s (x ∷ xs) ys = ap (λ z. taken_by s x ++ z) (taken_append (switch_on s x) xs ys) ∙ sym (append_assoc (taken_by s x) (taken_in (switch_on s x) xs) (taken_in (switch_behind (switch_on s x) xs) ys))

same_port : (p : ℕ) → (p == p) ≡ true
same_port p = grind (arith, nat_tests)

equal_port : (q p : ℕ) → (q == p) ≡ true → q ≡ p
equal_port q p e = grind (arith, nat_tests)

-- ---- at one port
-- what was forwarded to it is what was taken, and what is left; that waits, as long as it is up
record Follows (taken forwarded : Packets) (q : Port) : Type 0 where
  left : Packets
  all : forwarded ≡ taken ++ left
  waits : q.up ≡ true → left ≡ q.queue
  gone : q.up ≡ false → q.queue ≡ []

abbrev grown : Offered → ℕ → ArrayVec ℕ → Packets → Packets
grown o at x f = if bit_where Taken o at == 0 then f else f ++ x ∷ []

power_some : (n : ℕ) → (2 ^ n == 0) ≡ false
power_some n = go (2 ^ n == 0) refl
  where
    some : (k : ℕ) → 1 ≤ 2 ^ k
    some zero = omega arith
    some (suc k) = let r = some k in grind (arith, r)

    go : (b : Bool) → (2 ^ n == 0) ≡ b → (2 ^ n == 0) ≡ false
    go false e = e
    go true e = let s = some n in let z = equal_port (2 ^ n) 0 e in absurd (omega (arith, s, z))

at_zero : (at : ℕ) → 1 ≤ at → (at == 0) ≡ false
at_zero at l = grind (arith, common_steps)

not_follows : (t f : Packets) (at : ℕ) (x : ArrayVec ℕ) (q : Port) → Follows t f q → Follows t (grown Not at x f) q
not_follows t f at x q h = h

-- what became of it, where this holds and where it doesn't
abbrev either_of : Bool → AtPort → AtPort → AtPort
either_of b x y = if b then x else y

abbrev FollowsOn : Packets → Packets → ℕ → ArrayVec ℕ → AtPort → Type 0
FollowsOn t f at x o = Follows t (grown o.offered at x f) o.port

-- a packet that goes there waits behind the others, or is dropped
taken_follows : (t f : Packets) (at : ℕ) (x : ArrayVec ℕ) (q : Port) → q.up ≡ true → 1 ≤ at → Follows t f q → FollowsOn t f at x (taken_at at x q)
taken_follows t f at x q u l h = subst (λ (b : Bool). FollowsOn t f at x (either_of b (record { port = q; offered = Taken }) room)) (sym (at_zero at l)) (go (nat_lt (length q.queue) 8))
  where
    longer : Port
    longer = record q { queue = q.queue ++ x ∷ [] }

    room : AtPort
    room = either_of (nat_lt (length q.queue) 8) (record { port = longer; offered = Taken }) (record { port = q; offered = Full })

    go : (b : Bool) → FollowsOn t f at x (either_of b (record { port = longer; offered = Taken }) (record { port = q; offered = Full }))
    go true = record {
      left = h.left ++ x ∷ [];
      all = ap (λ (b : Bool). if b then f else f ++ x ∷ []) (power_some at) ∙ ap (λ z. z ++ x ∷ []) h.all ∙ append_assoc t h.left (x ∷ []);
      waits = λ e. ap (λ z. z ++ x ∷ []) (h.waits e);
      gone = λ e. absurd (let bad : true ≡ false = sym u ∙ e in cc);
    }
    go false = h

offered_follows : (t f : Packets) (route : Route) (at : ℕ) (x : ArrayVec ℕ) (q : Port) → 1 ≤ at → Follows t f q → FollowsOn t f at x (offered route at x q)
offered_follows t f route at x q l h = go (is_target route at q.up) refl
  where
    down_not : (b u : Bool) → u ≡ false → (if b || not u then false else is_known_target route.known at) ≡ true → ⊥
    down_not true u e k = absurd (cc)
    down_not false true e k = absurd (cc)
    down_not false false e k = absurd (cc)

    by_up : (u : Bool) → q.up ≡ u → is_target route at q.up ≡ true → q.up ≡ true
    by_up true e k = e
    by_up false e k = absurd (down_not (at == route.from) q.up e k)

    go : (b : Bool) → is_target route at q.up ≡ b → FollowsOn t f at x (either_of (is_target route at q.up) (taken_at at x q) (record { port = q; offered = Not }))
    go true e = subst (λ (b : Bool). FollowsOn t f at x (either_of b (taken_at at x q) (record { port = q; offered = Not }))) (sym e) (taken_follows t f at x q (by_up q.up refl e) l h)
    go false e = subst (λ (b : Bool). FollowsOn t f at x (either_of b (taken_at at x q) (record { port = q; offered = Not }))) (sym e) h

-- the oldest is taken
abbrev first_of : Option (ArrayVec ℕ) → Packets
first_of None = []
first_of (Some x) = x ∷ []

begun_follows : (t f : Packets) (q : Port) → Follows t f q → Follows (t ++ first_of (slice_get q.queue 0)) f (record q { queue = drop 1 q.queue })
begun_follows t f q h = by_up q.up refl
  where
    split : (ws : Packets) → ws ≡ first_of (slice_get ws 0) ++ drop 1 ws
    split [] = refl
    split (w ∷ ws) = refl

    by_up : (u : Bool) → q.up ≡ u → Follows (t ++ first_of (slice_get q.queue 0)) f (record q { queue = drop 1 q.queue })
    by_up true e = record {
      left = drop 1 q.queue;
      all = h.all ∙ ap (λ z. t ++ z) (h.waits e ∙ split q.queue) ∙ sym (append_assoc t (first_of (slice_get q.queue 0)) (drop 1 q.queue));
      waits = λ w. refl;
      gone = λ w. absurd (let bad : true ≡ false = sym e ∙ w in cc);
    }
    by_up false e =
        let none = h.gone e in
        record {
          left = h.left;
          all = h.all ∙ ap (λ z. z ++ h.left) (sym (append-nil t) ∙ ap (λ (z : Packets). t ++ first_of (slice_get z 0)) (sym none));
          waits = λ w. absurd (let bad : false ≡ true = sym e ∙ w in cc);
          gone = λ w. ap (λ (z : Packets). drop 1 z) none;
        }

downed_follows : (t f : Packets) (q : Port) → Follows t f q → Follows t f (record { up = false; queue = [] })
downed_follows t f q h = record { left = h.left; all = h.all; waits = λ e. absurd (cc); gone = λ e. refl }

-- ---- at the port with this number
abbrev FollowsAt : ℕ → List Port → List Packets → Packets → Type 0
FollowsAt p [] fs t = ⊥
FollowsAt p (q ∷ qs) [] t = ⊥
FollowsAt zero (q ∷ qs) (f ∷ fs) t = Follows t f q
FollowsAt (suc p) (q ∷ qs) (f ∷ fs) t = FollowsAt p qs fs t

arrives_at : (route : Route) (x : ArrayVec ℕ) (at p : ℕ) (qs : List Port) (fs : List Packets) (t : Packets) → 1 ≤ at + p → FollowsAt p qs fs t → FollowsAt p (ports_behind route x at qs) (forwards_behind route x at qs fs) t
arrives_at route x at p [] fs t l h = absurd h
arrives_at route x at zero (q ∷ qs) [] t l h = absurd h
arrives_at route x at (suc p) (q ∷ qs) [] t l h = absurd h
arrives_at route x at zero (q ∷ qs) (f ∷ fs) t l h = offered_follows t f route at x q (omega (arith, l)) h
arrives_at route x at (suc p) (q ∷ qs) (f ∷ fs) t l h = arrives_at route x (at + 1) p qs fs t (omega (arith, l)) h

changed_behind : (g : Port → Port) (q : Port) (qs : List Port) (j : ℕ) (o : Option Port) → changed g (q ∷ qs) (suc j) o ≡ q ∷ changed g qs j o
changed_behind g q qs j None = refl
changed_behind g q qs j (Some x) = refl

at_same : (g : Port → Port) (p : ℕ) (qs : List Port) (fs : List Packets) (t t' : Packets) → ((f : Packets) (q : Port) → slice_get qs p ≡ Some q → Follows t f q → Follows t' f (g q)) → FollowsAt p qs fs t → FollowsAt p (changed g qs p (slice_get qs p)) fs t'
at_same g p [] fs t t' h x = absurd x
at_same g zero (q ∷ qs) [] t t' h x = absurd x
at_same g (suc p) (q ∷ qs) [] t t' h x = absurd x
at_same g zero (q ∷ qs) (f ∷ fs) t t' h x = h f q refl x
at_same g (suc p) (q ∷ qs) (f ∷ fs) t t' h x = subst (λ z. FollowsAt (suc p) z (f ∷ fs) t') (sym (changed_behind g q qs p (slice_get qs p))) (at_same g p qs fs t t' h x)

at_other : (g : Port → Port) (j p : ℕ) (qs : List Port) (fs : List Packets) (t : Packets) → (j ≡ p → ⊥) → FollowsAt p qs fs t → FollowsAt p (changed g qs j (slice_get qs j)) fs t
at_other g j p [] fs t n x = absurd x
at_other g j zero (q ∷ qs) [] t n x = absurd x
at_other g j (suc p) (q ∷ qs) [] t n x = absurd x
at_other g zero zero (q ∷ qs) (f ∷ fs) t n x = absurd (n refl)
at_other g zero (suc p) (q ∷ qs) (f ∷ fs) t n x = x
at_other g (suc j) zero (q ∷ qs) (f ∷ fs) t n x = subst (λ z. FollowsAt zero z (f ∷ fs) t) (sym (changed_behind g q qs j (slice_get qs j))) x
at_other g (suc j) (suc p) (q ∷ qs) (f ∷ fs) t n x = subst (λ z. FollowsAt (suc p) z (f ∷ fs) t) (sym (changed_behind g q qs j (slice_get qs j))) (at_other g j p qs fs t (λ e. n (ap suc e)) x)

-- ---- event by event
module _ (p : ℕ) (behind : 1 ≤ p) where
  one_same : (o : Option (ArrayVec ℕ)) → one_at p (Some p) o ≡ first_of o
  one_same None = refl
  one_same (Some x) = ap (λ (b : Bool). if b then x ∷ [] else []) (same_port p)

  one_other : (j : ℕ) (o : Option (ArrayVec ℕ)) → (j == p) ≡ false → one_at p (Some j) o ≡ []
  one_other j None e = refl
  one_other j (Some x) e = ap (λ (b : Bool). if b then x ∷ [] else []) e

  unequal : (j : ℕ) → (j == p) ≡ false → j ≡ p → ⊥
  unequal j e s = let bad : true ≡ false = sym (same_port p) ∙ ap (λ z. z == p) (sym s) ∙ e in cc

  event_follows : (flow : Flow) (e : SwitchEvent) (t : Packets) → FollowsAt p flow.switch.ports flow.forwards t → FollowsAt p (flow_behind flow e).switch.ports (flow_behind flow e).forwards (t ++ all_at p (taken_by flow.switch e))
  event_follows flow (Arrive port x) t h =
      let s = flow.switch in
      let route = route_of (learned_from s.learned port x.items) port x.items in
      subst (λ z. FollowsAt p (ports_behind route x 0 s.ports) (forwards_behind route x 0 s.ports flow.forwards) z) (sym (append-nil t)) (arrives_at route x 0 p s.ports flow.forwards t (omega (arith, behind)) h)
  event_follows flow (Begun j) t h = go (j == p) refl
    where
      after : Port → Port
      after q = record q { queue = drop 1 q.queue }

      now : ℕ → List Port
      now k = changed after flow.switch.ports k (slice_get flow.switch.ports k)

      more : Packets
      more = t ++ (one_at p (Some j) (slice_get (queue_at flow.switch j) 0) ++ [])

      go : (b : Bool) → (j == p) ≡ b → FollowsAt p (now j) flow.forwards more
      go true e =
          let same : j ≡ p = equal_port j p e in
          let taken : t ++ first_of (slice_get (queue_at flow.switch p) 0) ≡ more =
          ap (λ z. t ++ z) (sym (one_same (slice_get (queue_at flow.switch p) 0)) ∙ sym (append-nil (one_at p (Some p) (slice_get (queue_at flow.switch p) 0))))
          ∙ ap (λ z. t ++ (one_at p (Some z) (slice_get (queue_at flow.switch z) 0) ++ [])) (sym same) in
          subst (λ z. FollowsAt p (now z) flow.forwards more) (sym same)
          (subst (λ z. FollowsAt p (now p) flow.forwards z) taken
          (at_same after p flow.switch.ports flow.forwards t (t ++ first_of (slice_get (queue_at flow.switch p) 0))
          (λ f q is x. subst (λ z. Follows (t ++ first_of (slice_get z 0)) f (after q)) (sym (ap queue_of is)) (begun_follows t f q x)) h))
      go false e =
          subst (λ z. FollowsAt p (now j) flow.forwards z) (sym (append-nil t) ∙ ap (λ z. t ++ (z ++ [])) (sym (one_other j (slice_get (queue_at flow.switch j) 0) e)))
          (at_other after j p flow.switch.ports flow.forwards t (unequal j e) h)
  event_follows flow (Down j) t h = subst (λ z. FollowsAt p (now j) flow.forwards z) (sym (append-nil t)) (go (j == p) refl)
    where
      after : Port → Port
      after q = record { up = false; queue = [] }

      now : ℕ → List Port
      now k = changed after flow.switch.ports k (slice_get flow.switch.ports k)

      go : (b : Bool) → (j == p) ≡ b → FollowsAt p (now j) flow.forwards t
      go true e =
          subst (λ z. FollowsAt p (now z) flow.forwards t) (sym (equal_port j p e)) (at_same after p flow.switch.ports flow.forwards t t (λ f q is x. downed_follows t f q x) h)
      go false e = at_other after j p flow.switch.ports flow.forwards t (unequal j e) h

  switch_is : (flow : Flow) (e : SwitchEvent) → (flow_behind flow e).switch ≡ switch_on flow.switch e
  switch_is flow (Arrive port packet) = refl
  switch_is flow (Begun port) = refl
  switch_is flow (Down port) = refl

  flow_follows : (flow : Flow) (es : List SwitchEvent) (t : Packets) → FollowsAt p flow.switch.ports flow.forwards t → FollowsAt p (flow_of flow es).switch.ports (flow_of flow es).forwards (t ++ all_at p (taken_in flow.switch es))
  flow_follows flow [] t h = subst (λ z. FollowsAt p flow.switch.ports flow.forwards z) (sym (append-nil t)) h
  flow_follows flow (e ∷ es) t h =
      let next = flow_behind flow e in
      let rest = flow_follows next es (t ++ all_at p (taken_by flow.switch e)) (event_follows flow e t h) in
      subst (λ z. FollowsAt p (flow_of next es).switch.ports (flow_of next es).forwards z)
      (append_assoc t (all_at p (taken_by flow.switch e)) (all_at p (taken_in next.switch es))
      ∙ ap (λ z. t ++ (all_at p (taken_by flow.switch e) ++ all_at p (taken_in z es))) (switch_is flow e)
      ∙ ap (λ z. t ++ z) (sym (all_append p (taken_by flow.switch e) (taken_in (switch_on flow.switch e) es)))) rest

pub flow_switch : (flow : Flow) (es : List SwitchEvent) → (flow_of flow es).switch ≡ switch_behind flow.switch es
flow_switch flow [] = refl
flow_switch flow (e ∷ es) = flow_switch (flow_behind flow e) es ∙ ap (λ z. switch_behind z es) (is e)
  where
    is : (d : SwitchEvent) → (flow_behind flow d).switch ≡ switch_on flow.switch d
    is (Arrive port packet) = refl
    is (Begun port) = refl
    is (Down port) = refl

first_follows : (n p : ℕ) → p < n → FollowsAt p (replicate n first_port) (replicate n []) []
first_follows zero p l = absurd (omega (arith, l))
first_follows (suc n) zero l = record { left = []; all = refl; waits = λ e. refl; gone = λ e. absurd (cc) }
first_follows (suc n) (suc p) l = first_follows n p (omega (arith, l))

left_at : (p : ℕ) (qs : List Port) (fs : List Packets) (t : Packets) → FollowsAt p qs fs t → (left : Packets) × (forwarded_to p fs ≡ t ++ left)
left_at p [] fs t h = absurd h
left_at zero (q ∷ qs) [] t h = absurd h
left_at (suc p) (q ∷ qs) [] t h = absurd h
left_at zero (q ∷ qs) (f ∷ fs) t h = (h.left, h.all)
left_at (suc p) (q ∷ qs) (f ∷ fs) t h = left_at p qs fs t h

-- THE FIRST OF THOSE FORWARDED
pub first_taken : (n p : ℕ) (es : List SwitchEvent) → 1 ≤ p → p < n → (left : Packets) × (forwarded_to p (switched n es).forwards ≡ all_at p (taken_in (first_switch n) es) ++ left)
first_taken n p es l m =
    left_at p (switched n es).switch.ports (switched n es).forwards (all_at p (taken_in (first_switch n) es))
    (flow_follows p l (record { switch = first_switch n; forwards = replicate n []; drops = 0 }) es [] (first_follows n p m))

-- ---- a port that is down, at which nothing waits
abbrev IsClosed : ℕ → List Port → Type 0
IsClosed p [] = ⊤
IsClosed zero (q ∷ qs) = (q.up ≡ false) × (q.queue ≡ [])
IsClosed (suc p) (q ∷ qs) = IsClosed p qs

-- nothing goes there
offered_closed : (route : Route) (at : ℕ) (x : ArrayVec ℕ) (q : Port) → (q.up ≡ false) × (q.queue ≡ []) → ((offered route at x q).port.up ≡ false) × ((offered route at x q).port.queue ≡ [])
offered_closed route at x q c = go (is_target route at q.up) (not_there (at == route.from) q.up c.0)
  where
    not_there : (b u : Bool) → u ≡ false → (if b || not u then false else is_known_target route.known at) ≡ true → ⊥
    not_there true u e k = absurd (cc)
    not_there false true e k = absurd (cc)
    not_there false false e k = absurd (cc)

    go : (b : Bool) → (b ≡ true → ⊥) → ((either_of b (taken_at at x q) (record { port = q; offered = Not })).port.up ≡ false) × ((either_of b (taken_at at x q) (record { port = q; offered = Not })).port.queue ≡ [])
    go true n = absurd (n refl)
    go false n = c

arrives_closed : (route : Route) (x : ArrayVec ℕ) (at p : ℕ) (qs : List Port) → IsClosed p qs → IsClosed p (ports_behind route x at qs)
arrives_closed route x at p [] c = tt
arrives_closed route x at zero (q ∷ qs) c = offered_closed route at x q c
arrives_closed route x at (suc p) (q ∷ qs) c = arrives_closed route x (at + 1) p qs c

changed_closed : (g : Port → Port) (j p : ℕ) (qs : List Port) → ((q : Port) → (q.up ≡ false) × (q.queue ≡ []) → ((g q).up ≡ false) × ((g q).queue ≡ [])) → IsClosed p qs → IsClosed p (changed g qs j (slice_get qs j))
changed_closed g j p [] h c = tt
changed_closed g zero zero (q ∷ qs) h c = h q c
changed_closed g zero (suc p) (q ∷ qs) h c = c
changed_closed g (suc j) zero (q ∷ qs) h c = subst (λ z. IsClosed zero z) (sym (changed_behind g q qs j (slice_get qs j))) c
changed_closed g (suc j) (suc p) (q ∷ qs) h c = subst (λ z. IsClosed (suc p) z) (sym (changed_behind g q qs j (slice_get qs j))) (changed_closed g j p qs h c)

-- it stays so
event_closed : (p : ℕ) (s : Switched) (e : SwitchEvent) → IsClosed p s.ports → IsClosed p (switch_on s e).ports
event_closed p s (Arrive port x) c = arrives_closed (route_of (learned_from s.learned port x.items) port x.items) x 0 p s.ports c
event_closed p s (Begun j) c = changed_closed (λ (q : Port). record q { queue = drop 1 q.queue }) j p s.ports (λ q d. (d.0, ap (λ (z : Packets). drop 1 z) d.1)) c
event_closed p s (Down j) c = changed_closed (λ (q : Port). record { up = false; queue = [] }) j p s.ports (λ q d. (refl, refl)) c

-- and nothing is taken
closed_queue : (p : ℕ) (qs : List Port) → IsClosed p qs → queue_of (slice_get qs p) ≡ []
closed_queue p [] c = refl
closed_queue zero (q ∷ qs) c = c.1
closed_queue (suc p) (q ∷ qs) c = closed_queue p qs c

closed_taken : (p : ℕ) (s : Switched) (e : SwitchEvent) → IsClosed p s.ports → all_at p (taken_by s e) ≡ []
closed_taken p s (Arrive port x) c = refl
closed_taken p s (Begun j) c = go (j == p) refl (slice_get (queue_at s j) 0) refl
  where
    none : (b : Bool) → (j == p) ≡ b → (o : Option (ArrayVec ℕ)) → slice_get (queue_at s j) 0 ≡ o → one_at p (Some j) o ≡ []
    none b e None f = refl
    none true e (Some x) f =
        let q : queue_at s j ≡ [] = ap (λ z. queue_of (slice_get s.ports z)) (equal_port j p e) ∙ closed_queue p s.ports c in
        absurd (let w = sym (ap (λ (z : Packets). slice_get z 0) q) ∙ f in cc)
    none false e (Some x) f = ap (λ (b : Bool). if b then x ∷ [] else []) e

    go : (b : Bool) → (j == p) ≡ b → (o : Option (ArrayVec ℕ)) → slice_get (queue_at s j) 0 ≡ o → one_at p (Some j) (slice_get (queue_at s j) 0) ++ [] ≡ []
    go b e o f = append-nil (one_at p (Some j) (slice_get (queue_at s j) 0)) ∙ ap (λ z. one_at p (Some j) z) f ∙ none b e o f
closed_taken p s (Down j) c = refl

pub closed_none : (p : ℕ) (s : Switched) (es : List SwitchEvent) → IsClosed p s.ports → all_at p (taken_in s es) ≡ []
closed_none p s [] c = refl
closed_none p s (e ∷ es) c =
    all_append p (taken_by s e) (taken_in (switch_on s e) es) ∙ (λ i. closed_taken p s e c i ++ closed_none p (switch_on s e) es (event_closed p s e c) i)

pub down_closed : (p : ℕ) (qs : List Port) → IsClosed p (changed (λ (q : Port). record { up = false; queue = [] }) qs p (slice_get qs p))
down_closed p [] = tt
down_closed zero (q ∷ qs) = (refl, refl)
down_closed (suc p) (q ∷ qs) = subst (λ z. IsClosed (suc p) z) (sym (changed_behind (λ (q : Port). record { up = false; queue = [] }) q qs p (slice_get qs p))) (down_closed p qs)
