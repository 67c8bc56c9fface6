-- The packets that begin at a slave's port over a run.
use Rattle.std.proofs.Common.{◌≡◌, ◌≤◌, ◌<◌, ℕ, ◌+◌, Bool, true, false, Option, Some, None, List, [], ◌∷◌, ◌++◌, map, refl, sym, ap, subst, ◌∙◌, arith, length, append-nil}
use Rattle.std.specs.Prelude.{◌==◌, if◌then◌else◌, slice_get, All}
use Rattle.std.proofs.lemmas.Bool.Decides.{nat_tests}
use Rattle.std.proofs.lemmas.List.Elements.{All-nil, All-cons, All-head, All-tail}
use Rattle.arrayvec.specs.ArrayVec.{ArrayVec}
use Rattle.master_node.specs.of_eoe_switch.Switch.{Switched, downed_at, first_switch, switched}
use Rattle.master_node.specs.of_eoe_switch.declared.switching.SwitchEvent.{SwitchEvent}
use Rattle.master_node.specs.of_eoe_switch.declared.switching.SwitchEvent.TheVariants.{Arrive, Begun, Down}
use Rattle.master_node.specs.of_frame_view.View.{Lens}
use Rattle.slave_server.specs.of_state_model.Stated.{Service}
use Rattle.master_node.specs.of_life_runs.Led.{Exchanged, Leads, Turn, IsLed}
use Rattle.slave_server.specs.of_protocol_models.EoeClient as EoeClient
use Rattle.master_node.specs.of_master_hand.Spoken.{Asked, sdo, file, drive, net, passed}
use Rattle.master_node.specs.Arrivals.{arrive_where, arrive_at, arrive_by, arrivals_in}
use Rattle.master_node.specs.Begins as Begins
use Rattle.master_node.specs.Begins.{PacketsBegin, begins_by, begins_in, begun_of, packet_asked, switch_behind, switch_on, taken_by, taken_in}
use Rattle.master_node.specs.Downs.{down_by, downs_in}
use Rattle.master_node.specs.Forwards.{port_by, waiting_by}
use Rattle.master_node.specs.Happened.{events_of}
use Rattle.master_node.specs.Serving.{run_turn}
use Rattle.master_node.specs.declared.lan.Lan.{Lan}
use Rattle.master_node.specs.of_master_tour.Made.{is_in}
use Rattle.master_node.specs.of_master_tour.Orders.{AreOnce}
use Rattle.packets_heard.specs.Over.{AreBegun, BegunOn, IsNoBegun, begun_at, begun_by_event, forwarded_to, packet_begun, packet_of, packets_begun}
use Rattle.packets_heard.proofs.Follows.{all_append, all_at, closed_none, down_closed, first_taken, flow_switch, taken_append}
use Rattle.packets_heard.specs.Listed.{IsOwn}
use Rattle.packets_heard.specs.Servings.{AreServedBegun, served_packets}
use Rattle.master_node.specs.of_segment_ring.declared.wire.Fate.{Fate}
use Rattle.master_node.specs.of_segment_ring.declared.wire.Fate.TheVariants.{Pass, Lost}
use Rattle.master_node.specs.of_life_runs.Served.{Serves, IsServedLed}

-- ---- how many are taken at a port, whether one waits there or not
abbrev one_for : ℕ → Option ℕ → ℕ
one_for p None = 0
one_for p (Some q) = if q == p then 1 else 0

abbrev many_at : ℕ → List Begins.Taken → ℕ
many_at p [] = 0
many_at p (t ∷ ts) = one_for p t.port + many_at p ts

many_append : (p : ℕ) (xs ys : List Begins.Taken) → many_at p (xs ++ ys) ≡ many_at p xs + many_at p ys
many_append p [] ys = omega arith
many_append p (x ∷ xs) ys = let rest = many_append p xs ys in omega (arith, rest)

many_by : (p : ℕ) (s : Switched) (e : SwitchEvent) → begun_by_event p e ≡ many_at p (taken_by s e)
many_by p s (Arrive q packet) = refl
many_by p s (Begun q) = omega arith
many_by p s (Down q) = refl

events_many : (p : ℕ) (s : Switched) (es : List SwitchEvent) → begun_at p es ≡ many_at p (taken_in s es)
events_many p s [] = refl
events_many p s (e ∷ es) =
    (λ i. many_by p s e i + events_many p (switch_on s e) es i) ∙ sym (many_append p (taken_by s e) (taken_in (switch_on s e) es))

length_both : (xs ys : List (ArrayVec ℕ)) → length (xs ++ ys) ≡ length xs + length ys
length_both [] ys = omega arith
length_both (x ∷ xs) ys = let rest = length_both xs ys in omega (arith, rest)

-- no more packets than that
few_packets : (p : ℕ) (ts : List Begins.Taken) → length (all_at p ts) ≤ many_at p ts
few_packets p [] = omega arith
few_packets p (t ∷ ts) =
    let here = one t.port t.packet in
    let rest = few_packets p ts in
    let both = length_both (all_at p (t ∷ [])) (all_at p ts) in
    let is = ap (λ z. length z) (all_append p (t ∷ []) ts) in
    omega (arith, here, rest, both, is)
  where
    at_port : (q : ℕ) (x : ArrayVec ℕ) (b : Bool) → length ((if b then x ∷ [] else []) ++ []) ≤ (if b then 1 else 0)
    at_port q x true = omega arith
    at_port q x false = omega arith

    one : (o : Option ℕ) (packet : Option (ArrayVec ℕ)) → length (all_at p (record { port = o; packet = packet } ∷ [])) ≤ one_for p o
    one None packet = omega arith
    one (Some q) None = omega arith
    one (Some q) (Some x) = at_port q x (q == p)

-- ---- what a frame's return or loss takes: nothing
no_taken : (s : Switched) (e : SwitchEvent) → IsNoBegun e → taken_by s e ≡ []
no_taken s (Arrive q packet) n = refl
no_taken s (Begun q) n = absurd n
no_taken s (Down q) n = refl

none_taken : (s : Switched) (es : List SwitchEvent) → All IsNoBegun es → taken_in s es ≡ []
none_taken s [] a = refl
none_taken s (e ∷ es) a = λ i. no_taken s e (All-head IsNoBegun e es a) i ++ none_taken (switch_on s e) es (All-tail IsNoBegun e es a) i

all_both : (xs ys : List SwitchEvent) → All IsNoBegun xs → All IsNoBegun ys → All IsNoBegun (xs ++ ys)
all_both [] ys a b = b
all_both (x ∷ xs) ys a b = All-cons IsNoBegun x (xs ++ ys) (All-head IsNoBegun x xs a) (all_both xs ys (All-tail IsNoBegun x xs a) b)

where_none : (short : Bool) (q : ℕ) (octets : List ℕ) → All IsNoBegun (arrive_where short q octets)
where_none true q octets = All-nil IsNoBegun
where_none false q octets = All-cons IsNoBegun _ [] tt (All-nil IsNoBegun)

at_none : (q : ℕ) (ps : List (List ℕ)) → All IsNoBegun (arrive_at q ps)
at_none q [] = All-nil IsNoBegun
at_none q (p ∷ ps) = all_both _ (arrive_at q ps) (where_none _ q p) (at_none q ps)

by_none : (o : Option ℕ) (ps : List (List ℕ)) → All IsNoBegun (arrive_by o ps)
by_none None ps = All-nil IsNoBegun
by_none (Some q) ps = at_none q ps

arrivals_none : (ports : List (Option ℕ)) (packets : ℕ → List (List ℕ)) (ps : List ℕ) → All IsNoBegun (arrivals_in ports packets ps)
arrivals_none ports packets [] = All-nil IsNoBegun
arrivals_none ports packets (p ∷ ps) = all_both (arrive_by (port_by (slice_get ports p)) (packets p)) (arrivals_in ports packets ps) (by_none (port_by (slice_get ports p)) (packets p)) (arrivals_none ports packets ps)

down_none : (o : Option ℕ) (goes : Bool) → All IsNoBegun (down_by o goes)
down_none None goes = All-nil IsNoBegun
down_none (Some q) false = All-nil IsNoBegun
down_none (Some q) true = All-cons IsNoBegun (Down q) [] tt (All-nil IsNoBegun)

downs_none : (ports : List (Option ℕ)) (goes : ℕ → Bool) (ps : List ℕ) → All IsNoBegun (downs_in ports goes ps)
downs_none ports goes [] = All-nil IsNoBegun
downs_none ports goes (p ∷ ps) = all_both (down_by (port_by (slice_get ports p)) (goes p)) (downs_in ports goes ps) (down_none (port_by (slice_get ports p)) (goes p)) (downs_none ports goes ps)

-- ---- what came into hand of one slave
same_port : (p : ℕ) → (p == p) ≡ true
same_port p = grind (arith, nat_tests)

other_port : (q p : ℕ) → (q ≡ p → ⊥) → (q == p) ≡ false
other_port q p n = go (q == p) refl
  where
    go : (b : Bool) → (q == p) ≡ b → (q == p) ≡ false
    go false e = e
    go true e = absurd (n (grind (arith, nat_tests, e)))

-- at its own port, and at another
asked_own : (p : ℕ) (q : Asked) → all_at p (packet_asked (Some p) q) ≡ packet_of q
asked_own p (sdo q) = refl
asked_own p (file q) = refl
asked_own p (drive q) = refl
asked_own p (net (EoeClient.set_ip block)) = refl
asked_own p (net EoeClient.get_ip) = refl
asked_own p (net (EoeClient.packet octets frame)) = ap (λ (b : Bool). (if b then record { items = octets } ∷ [] else []) ++ []) (same_port p)
asked_own p (passed m) = refl

own_begins : (p : ℕ) (b : Option (Service Asked)) → all_at p (begins_by (Some p) b) ≡ packet_begun b
own_begins p None = refl
own_begins p (Some (Service.Mails q)) = asked_own p q
own_begins p (Some (Service.State target)) = refl

asked_many : (p : ℕ) (q : Asked) → many_at p (packet_asked (Some p) q) ≡ length (packet_of q)
asked_many p (sdo q) = refl
asked_many p (file q) = refl
asked_many p (drive q) = refl
asked_many p (net (EoeClient.set_ip block)) = refl
asked_many p (net EoeClient.get_ip) = refl
asked_many p (net (EoeClient.packet octets frame)) = ap (λ (b : Bool). (if b then 1 else 0) + 0) (same_port p)
asked_many p (passed m) = refl

own_many : (p : ℕ) (b : Option (Service Asked)) → many_at p (begins_by (Some p) b) ≡ length (packet_begun b)
own_many p None = refl
own_many p (Some (Service.Mails q)) = asked_many p q
own_many p (Some (Service.State target)) = refl

-- what is taken for a port is taken there alone
abbrev IsFor : Option ℕ → List Begins.Taken → Type 0
IsFor o ts = All (λ (t : Begins.Taken). t.port ≡ o) ts

asked_for : (o : Option ℕ) (q : Asked) → IsFor o (packet_asked o q)
asked_for o (sdo q) = All-nil (λ (t : Begins.Taken). t.port ≡ o)
asked_for o (file q) = All-nil (λ (t : Begins.Taken). t.port ≡ o)
asked_for o (drive q) = All-nil (λ (t : Begins.Taken). t.port ≡ o)
asked_for o (net (EoeClient.set_ip block)) = All-nil (λ (t : Begins.Taken). t.port ≡ o)
asked_for o (net EoeClient.get_ip) = All-nil (λ (t : Begins.Taken). t.port ≡ o)
asked_for o (net (EoeClient.packet octets frame)) = All-cons (λ (t : Begins.Taken). t.port ≡ o) _ [] refl (All-nil (λ (t : Begins.Taken). t.port ≡ o))
asked_for o (passed m) = All-nil (λ (t : Begins.Taken). t.port ≡ o)

begins_for : (o : Option ℕ) (b : Option (Service Asked)) → IsFor o (begins_by o b)
begins_for o None = All-nil (λ (t : Begins.Taken). t.port ≡ o)
begins_for o (Some (Service.Mails q)) = asked_for o q
begins_for o (Some (Service.State target)) = All-nil (λ (t : Begins.Taken). t.port ≡ o)

one_not : (p : ℕ) (o : Option ℕ) (packet : Option (ArrayVec ℕ)) → (o ≡ Some p → ⊥) → all_at p (record { port = o; packet = packet } ∷ []) ≡ []
one_not p None packet n = refl
one_not p (Some q) None n = refl
one_not p (Some q) (Some x) n = ap (λ (b : Bool). (if b then x ∷ [] else []) ++ []) (other_port q p (λ e. n (ap (λ z. Some z) e)))

none_not : (p : ℕ) (o : Option ℕ) → (o ≡ Some p → ⊥) → one_for p o ≡ 0
none_not p None n = refl
none_not p (Some q) n = ap (λ (b : Bool). if b then 1 else 0) (other_port q p (λ e. n (ap (λ z. Some z) e)))

others_all : (p : ℕ) (o : Option ℕ) (ts : List Begins.Taken) → (o ≡ Some p → ⊥) → IsFor o ts → all_at p ts ≡ []
others_all p o [] n a = refl
others_all p o (t ∷ ts) n a =
    let e = All-head (λ (t : Begins.Taken). t.port ≡ o) t ts a in
    all_append p (t ∷ []) ts ∙ (λ i. one_not p t.port t.packet (λ w. n (sym e ∙ w)) i ++ others_all p o ts n (All-tail (λ (t : Begins.Taken). t.port ≡ o) t ts a) i)

others_many : (p : ℕ) (o : Option ℕ) (ts : List Begins.Taken) → (o ≡ Some p → ⊥) → IsFor o ts → many_at p ts ≡ 0
others_many p o [] n a = refl
others_many p o (t ∷ ts) n a =
    let e = All-head (λ (t : Begins.Taken). t.port ≡ o) t ts a in
    λ i. none_not p t.port (λ w. n (sym e ∙ w)) i + others_many p o ts n (All-tail (λ (t : Begins.Taken). t.port ≡ o) t ts a) i

-- ---- of the slaves of a visit
module _ (ports : List (Option ℕ)) (k p : ℕ) (own : IsOwn ports k p) (b : ℕ → Option (Service Asked)) where
  abbrev port_of : ℕ → Option ℕ
  port_of q = port_by (slice_get ports q)

  equal : (q : ℕ) → (k == q) ≡ true → q ≡ k
  equal q e = let f : k ≡ q = grind (arith, nat_tests, e) in sym f

  not_own : (q : ℕ) → (k == q) ≡ false → port_of q ≡ Some p → ⊥
  not_own q e h = let f = own.alone q h in let bad : true ≡ false = sym (same_port k) ∙ ap (λ z. k == z) (sym f) ∙ e in cc

  own_is : all_at p (begins_by (port_of k) (b k)) ≡ packet_begun (b k)
  own_is = ap (λ o. all_at p (begins_by o (b k))) own.has ∙ own_begins p (b k)

  own_count : many_at p (begins_by (port_of k) (b k)) ≡ length (packet_begun (b k))
  own_count = ap (λ o. many_at p (begins_by o (b k))) own.has ∙ own_many p (b k)

  abbrev here_if : Bool → List (ArrayVec ℕ)
  here_if there = if there then packet_begun (b k) else []

  pub visit_all : (ps : List ℕ) → AreOnce ps → all_at p (begins_in ports b ps) ≡ here_if (is_in k ps)
  visit_all [] once = refl
  visit_all (q ∷ ps) once = all_append p (begins_by (port_of q) (b q)) (begins_in ports b ps) ∙ go (visit_all ps once.1) (k == q) refl
    where
      go : all_at p (begins_in ports b ps) ≡ here_if (is_in k ps) → (z : Bool) → (k == q) ≡ z → all_at p (begins_by (port_of q) (b q)) ++ all_at p (begins_in ports b ps) ≡ here_if (if k == q then true else is_in k ps)
      go ih true e =
          let same = equal q e in
          let head : all_at p (begins_by (port_of q) (b q)) ≡ packet_begun (b k) = ap (λ z. all_at p (begins_by (port_of z) (b z))) same ∙ own_is in
          let tail : all_at p (begins_in ports b ps) ≡ [] = ih ∙ ap here_if (ap (λ z. is_in z ps) (sym same) ∙ once.0) in
          (λ i. head i ++ tail i) ∙ append-nil (packet_begun (b k)) ∙ ap (λ (z : Bool). here_if (if z then true else is_in k ps)) (sym e)
      go ih false e =
          ap (λ z. z ++ all_at p (begins_in ports b ps)) (others_all p (port_of q) (begins_by (port_of q) (b q)) (not_own q e) (begins_for (port_of q) (b q))) ∙ ih
          ∙ ap (λ (z : Bool). here_if (if z then true else is_in k ps)) (sym e)

  pub visit_many : (ps : List ℕ) → AreOnce ps → many_at p (begins_in ports b ps) ≡ length (here_if (is_in k ps))
  visit_many [] once = refl
  visit_many (q ∷ ps) once = many_append p (begins_by (port_of q) (b q)) (begins_in ports b ps) ∙ go (visit_many ps once.1) (k == q) refl
    where
      go : many_at p (begins_in ports b ps) ≡ length (here_if (is_in k ps)) → (z : Bool) → (k == q) ≡ z → many_at p (begins_by (port_of q) (b q)) + many_at p (begins_in ports b ps) ≡ length (here_if (if k == q then true else is_in k ps))
      go ih true e =
          let same = equal q e in
          let head : many_at p (begins_by (port_of q) (b q)) ≡ length (packet_begun (b k)) = ap (λ z. many_at p (begins_by (port_of z) (b z))) same ∙ own_count in
          let tail : many_at p (begins_in ports b ps) ≡ 0 = ih ∙ ap (λ (z : Bool). length (here_if z)) (ap (λ z. is_in z ps) (sym same) ∙ once.0) in
          let sum : many_at p (begins_by (port_of q) (b q)) + many_at p (begins_in ports b ps) ≡ length (packet_begun (b k)) = omega (arith, head, tail) in
          sum ∙ ap (λ (z : Bool). length (here_if (if z then true else is_in k ps))) (sym e)
      go ih false e =
          let head : many_at p (begins_by (port_of q) (b q)) ≡ 0 = others_many p (port_of q) (begins_by (port_of q) (b q)) (not_own q e) (begins_for (port_of q) (b q)) in
          let sum : many_at p (begins_by (port_of q) (b q)) + many_at p (begins_in ports b ps) ≡ length (here_if (is_in k ps)) = omega (arith, head, ih) in
          sum ∙ ap (λ (z : Bool). length (here_if (if z then true else is_in k ps))) (sym e)

  -- a slave that was not visited took none
  left_out : (ps : List ℕ) → ((q : ℕ) (port : Option ℕ) → is_in q ps ≡ false → begins_by port (b q) ≡ []) → here_if (is_in k ps) ≡ packet_begun (b k)
  left_out ps h = go (is_in k ps) refl
    where
      go : (z : Bool) → is_in k ps ≡ z → here_if (is_in k ps) ≡ packet_begun (b k)
      go true e = ap here_if e
      go false e = ap here_if e ∙ sym (sym (own_begins p (b k)) ∙ ap (λ z. all_at p z) (h k (Some p) e))

  pub frame_all : (ps : List ℕ) → AreOnce ps → ((q : ℕ) (port : Option ℕ) → is_in q ps ≡ false → begins_by port (b q) ≡ []) → all_at p (begins_in ports b ps) ≡ packet_begun (b k)
  frame_all ps once h = visit_all ps once ∙ left_out ps h

  pub frame_many : (ps : List ℕ) → AreOnce ps → ((q : ℕ) (port : Option ℕ) → is_in q ps ≡ false → begins_by port (b q) ≡ []) → many_at p (begins_in ports b ps) ≡ length (packet_begun (b k))
  frame_many ps once h = visit_many ps once ∙ ap (λ z. length z) (left_out ps h)

-- what one frame more takes
frame_takes : (ports : List (Option ℕ)) (many : ℕ) (us : List Turn) (before : List SwitchEvent → Type 0) (es : List SwitchEvent) (x : BegunOn before ports many us es) → taken_in (first_switch many) es ≡ taken_in (first_switch many) x.old ++ begins_in ports (begun_of us) x.visited
frame_takes ports many us before es x =
    let s0 = first_switch many in
    let s1 = switch_behind s0 x.old in
    let is : (switched many x.old).switch ≡ s1 = flow_switch _ x.old in
    ap (λ z. taken_in s0 z) x.whole ∙ taken_append s0 x.old (x.making ++ x.behind) ∙ ap (λ z. taken_in s0 x.old ++ z)
    (taken_append s1 x.making x.behind ∙ (λ i. (ap (λ z. taken_in z x.making) (sym is) ∙ x.taken) i ++ none_taken (switch_behind s1 x.making) x.behind x.none i) ∙ append-nil (begins_in ports (begun_of us) x.visited))

-- ---- OVER A RUN, and over a serving
module _ (ports : List (Option ℕ)) (many k p : ℕ) (own : IsOwn ports k p) where
  -- with one frame more
  frame_more : (before : List SwitchEvent → Type 0) (us : List Turn) (es : List SwitchEvent) (x : BegunOn before ports many us es) (packets : List (ArrayVec ℕ)) → all_at p (taken_in (first_switch many) x.old) ≡ packets → all_at p (taken_in (first_switch many) es) ≡ packets ++ packet_begun (begun_of us k)
  frame_more before us es x packets old =
      ap (λ z. all_at p z) (frame_takes ports many us before es x) ∙ all_append p (taken_in (first_switch many) x.old) (begins_in ports (begun_of us) x.visited)
      ∙ (λ i. old i ++ frame_all ports k p own (begun_of us) x.visited x.once x.others i)

  -- as many as these
  count_more : (before : List SwitchEvent → Type 0) (us : List Turn) (es : List SwitchEvent) (x : BegunOn before ports many us es) (packets : List (ArrayVec ℕ)) → many_at p (taken_in (first_switch many) x.old) ≡ length packets →
      many_at p (taken_in (first_switch many) es) ≡ length (packets ++ packet_begun (begun_of us k))
  count_more before us es x packets old =
      ap (λ z. many_at p z) (frame_takes ports many us before es x) ∙ many_append p (taken_in (first_switch many) x.old) (begins_in ports (begun_of us) x.visited)
      ∙ (λ i. old i + frame_many ports k p own (begun_of us) x.visited x.once x.others i) ∙ sym (length_both packets (packet_begun (begun_of us k)))

  -- where just these are taken there, none begins behind the port's going down
  none_last : (packets : List (ArrayVec ℕ)) (es xs ys : List SwitchEvent) → all_at p (taken_in (first_switch many) es) ≡ packets → many_at p (taken_in (first_switch many) es) ≡ length packets → es ≡ xs ++ Down p ∷ ys → begun_at p ys ≡ 0
  none_last taken es xs ys all counted whole =
      let s0 = first_switch many in
      let s1 = switch_behind s0 xs in
      let s2 = downed_at s1 p in
      let split : taken_in s0 es ≡ taken_in s0 xs ++ taken_in s2 ys = ap (λ z. taken_in s0 z) whole ∙ taken_append s0 xs (Down p ∷ ys) in
      let packets : all_at p (taken_in s0 es) ≡ all_at p (taken_in s0 xs) = ap (λ z. all_at p z) split ∙ all_append p (taken_in s0 xs) (taken_in s2 ys) ∙ ap (λ z. all_at p (taken_in s0 xs) ++ z) (closed_none p s2 ys (down_closed p s1.ports)) ∙ append-nil (all_at p (taken_in s0 xs)) in
      let count : many_at p (taken_in s0 es) ≡ many_at p (taken_in s0 xs) + many_at p (taken_in s2 ys) = ap (λ z. many_at p z) split ∙ many_append p (taken_in s0 xs) (taken_in s2 ys) in
      let same : many_at p (taken_in s0 es) ≡ length (all_at p (taken_in s0 xs)) = counted ∙ ap (λ z. length z) (sym all ∙ packets) in
      let few = few_packets p (taken_in s0 xs) in
      let is = events_many p s2 ys in
      omega (arith, count, same, few, is)

module _ {lens : ℕ → Lens} {recover retry : ℕ} (ports : List (Option ℕ)) (many k p : ℕ) (own : IsOwn ports k p) where
  pub run_all : {first : List Leads} {fs : List Exchanged} {missed : ℕ} {as' : List Leads} (led : IsLed lens recover retry first fs missed as') (es : List SwitchEvent) → AreBegun ports many led es → all_at p (taken_in (first_switch many) es) ≡ packets_begun led k
  run_all IsLed.start es x = ap (λ z. all_at p (taken_in (first_switch many) z)) x
  run_all (IsLed.on fs missed as' f us led frame) es x = frame_more ports many k p own (λ old. AreBegun ports many led old) us es x (packets_begun led k) (run_all led x.old x.was)

  serving_all : {first : List Serves} {fs : List Exchanged} {missed : ℕ} {ws : List Serves} (led : IsServedLed lens recover retry first fs missed ws) (es : List SwitchEvent) → AreServedBegun ports many led es → all_at p (taken_in (first_switch many) es) ≡ served_packets led k
  serving_all IsServedLed.start es x = ap (λ z. all_at p (taken_in (first_switch many) z)) x
  serving_all (IsServedLed.asks fs missed ws place key led may) es x = serving_all led es x
  serving_all (IsServedLed.on fs missed ws f vs led frame) es x = frame_more ports many k p own (λ old. AreServedBegun ports many led old) (map run_turn vs) es x (served_packets led k) (serving_all led x.old x.was)

  pub run_many : {first : List Leads} {fs : List Exchanged} {missed : ℕ} {as' : List Leads} (led : IsLed lens recover retry first fs missed as') (es : List SwitchEvent) → AreBegun ports many led es → many_at p (taken_in (first_switch many) es) ≡ length (packets_begun led k)
  run_many IsLed.start es x = ap (λ z. many_at p (taken_in (first_switch many) z)) x
  run_many (IsLed.on fs missed as' f us led frame) es x = count_more ports many k p own (λ old. AreBegun ports many led old) us es x (packets_begun led k) (run_many led x.old x.was)

  serving_many : {first : List Serves} {fs : List Exchanged} {missed : ℕ} {ws : List Serves} (led : IsServedLed lens recover retry first fs missed ws) (es : List SwitchEvent) → AreServedBegun ports many led es → many_at p (taken_in (first_switch many) es) ≡ length (served_packets led k)
  serving_many IsServedLed.start es x = ap (λ z. many_at p (taken_in (first_switch many) z)) x
  serving_many (IsServedLed.asks fs missed ws place key led may) es x = serving_many led es x
  serving_many (IsServedLed.on fs missed ws f vs led frame) es x = count_more ports many k p own (λ old. AreServedBegun ports many led old) (map run_turn vs) es x (served_packets led k) (serving_many led x.old x.was)

  pub run_begun : {first : List Leads} {fs : List Exchanged} {missed : ℕ} {as' : List Leads} (led : IsLed lens recover retry first fs missed as') (es : List SwitchEvent) → AreBegun ports many led es → begun_at p es ≡ length (packets_begun led k)
  run_begun led es x = events_many p (first_switch many) es ∙ run_many led es x

  pub serving_begun : {first : List Serves} {fs : List Exchanged} {missed : ℕ} {ws : List Serves} (led : IsServedLed lens recover retry first fs missed ws) (es : List SwitchEvent) → AreServedBegun ports many led es → begun_at p es ≡ length (served_packets led k)
  serving_begun led es x = events_many p (first_switch many) es ∙ serving_many led es x

  pub run_first : {first : List Leads} {fs : List Exchanged} {missed : ℕ} {as' : List Leads} (led : IsLed lens recover retry first fs missed as') (es : List SwitchEvent) → p < many → AreBegun ports many led es →
      (left : List (ArrayVec ℕ)) × (forwarded_to p (switched many es).forwards ≡ packets_begun led k ++ left)
  run_first led es l x =
      let w = first_taken many p es own.behind l in
      (w.0, w.1 ∙ ap (λ z. z ++ w.0) (run_all led es x))

  pub serving_first : {first : List Serves} {fs : List Exchanged} {missed : ℕ} {ws : List Serves} (led : IsServedLed lens recover retry first fs missed ws) (es : List SwitchEvent) → p < many → AreServedBegun ports many led es →
      (left : List (ArrayVec ℕ)) × (forwarded_to p (switched many es).forwards ≡ served_packets led k ++ left)
  serving_first led es l x =
      let w = first_taken many p es own.behind l in
      (w.0, w.1 ∙ ap (λ z. z ++ w.0) (serving_all led es x))

  -- none begins behind the port's going down
  pub run_last : {first : List Leads} {fs : List Exchanged} {missed : ℕ} {as' : List Leads} (led : IsLed lens recover retry first fs missed as') (es xs ys : List SwitchEvent) → AreBegun ports many led es → es ≡ xs ++ Down p ∷ ys → begun_at p ys ≡ 0
  run_last led es xs ys x whole = none_last ports many k p own (packets_begun led k) es xs ys (run_all led es x) (run_many led es x) whole

  pub serving_last : {first : List Serves} {fs : List Exchanged} {missed : ℕ} {ws : List Serves} (led : IsServedLed lens recover retry first fs missed ws) (es xs ys : List SwitchEvent) → AreServedBegun ports many led es → es ≡ xs ++ Down p ∷ ys → begun_at p ys ≡ 0
  serving_last led es xs ys x whole = none_last ports many k p own (served_packets led k) es xs ys (serving_all led es x) (serving_many led es x) whole

-- ---- ONE FRAME MORE, as a master lists it
pub none_behind : (ports : List (Option ℕ)) (packets : ℕ → List (List ℕ)) (goes : ℕ → Bool) (visit : List ℕ) (es : List SwitchEvent) (fate : Fate) → (fate ≡ Pass → es ≡ arrivals_in ports packets visit) → ((after : ℕ) → fate ≡ Lost after → es ≡ downs_in ports goes visit) → All IsNoBegun es
none_behind ports packets goes visit es Pass a d = subst (λ z. All IsNoBegun z) (sym (a refl)) (arrivals_none ports packets visit)
none_behind ports packets goes visit es (Lost after) a d = subst (λ z. All IsNoBegun z) (sym (d after refl)) (downs_none ports goes visit)

unfoldable pub begun_on : (before : List SwitchEvent → Type 0) (ports : List (Option ℕ)) (many : ℕ) (us : List Turn) (m n : Lan) (old behind : List SwitchEvent) → before old → m.ports.items ≡ ports → PacketsBegin (switched many old).switch us m → (switched many (old ++ events_of m.happened)).switch ≡ m.switch → All IsNoBegun behind →
    BegunOn before ports many us (old ++ (events_of m.happened ++ behind))
begun_on before ports many us m n old behind was same x stands none = record {
  old = old;
  was = was;
  making = events_of m.happened;
  visited = x.visited;
  once = x.once;
  taken = x.taken ∙ ap (λ z. begins_in z (begun_of us) x.visited) same;
  others = x.others;
  quiet = λ k e. (λ i. waiting_by (stands i) (port_by (slice_get (sym same i) k))) ∙ x.quiet k e;
  behind = behind;
  none = none;
  whole = refl;
}
