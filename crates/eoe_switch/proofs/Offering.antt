-- One port of a switch after the other.
use Rattle.std.proofs.Common.{◌≡◌, ℕ, ◌+◌, ◌^◌, ◌<◌, ◌≤◌, List, [], ◌∷◌, ◌++◌, length, take, drop, refl, ap, sym, ◌∙◌, arith, append_assoc, append-nil, length-set, replicate}
use Rattle.std.specs.Prelude.{slice_set, slice_index_or}
use Rattle.std.proofs.lemmas.List.{drop_more, take_more_set, drop-set-lt, drop_all, take_all, replicate-append-replicate}
use Rattle.arrayvec.specs.ArrayVec.{ArrayVec}
use Rattle.eoe_switch.specs.declared.addresses.Learned.{Learned}
use Rattle.eoe_switch.specs.declared.port.Offered.{Offered}
use Rattle.eoe_switch.specs.declared.port.Offered.TheVariants.{Taken, Full}
use Rattle.eoe_switch.specs.declared.port.Port.{Port}
use Rattle.eoe_switch.specs.declared.port.Route.{Route}
use Rattle.eoe_switch.specs.Ports.{AtPort, offered}
use Rattle.eoe_switch.specs.Switch.{first_port, ports_behind, bits_of_taken, bits_of_full, bit_where, Switched, learned_from, route_of, arrived}

-- one more port at the end
pub replicate_push : (n : ℕ) → replicate n first_port ++ first_port ∷ [] ≡ replicate (n + 1) first_port
replicate_push n = replicate-append-replicate n 1 first_port

-- the packet was offered to the ports before `at`
pub record IsOffering (route : Route) (packet : ArrayVec ℕ) (old ports : List Port) (taken full at : ℕ) : Type 0 where
  pub long : length ports ≡ length old
  pub behind : take at ports ++ ports_behind route packet at (drop at ports) ≡ ports_behind route packet 0 old
  pub takes : taken + bits_of_taken route packet at (drop at ports) ≡ bits_of_taken route packet 0 old
  pub drops : full + bits_of_full route packet at (drop at ports) ≡ bits_of_full route packet 0 old
  pub taken_below : taken < 2 ^ at
  pub full_below : full < 2 ^ at

pub offering_begins : (route : Route) (packet : ArrayVec ℕ) (old : List Port) → IsOffering route packet old old 0 0 0
offering_begins route packet old = record { long = refl; behind = refl; takes = omega arith; drops = omega arith; taken_below = omega arith; full_below = omega arith }

pub offering_goes_on : (route : Route) (packet : ArrayVec ℕ) (old ports : List Port) (taken full at : ℕ) (p q : Port) (o : Offered) (taken' full' : ℕ)
    → IsOffering route packet old ports taken full at → at < length ports → p ≡ slice_index_or ports at p
    → record { port = q; offered = o } ≡ offered route at packet p
    → taken' ≡ taken + bit_where Taken o at → full' ≡ full + bit_where Full o at → taken' < 2 ^ (at + 1) → full' < 2 ^ (at + 1)
    → IsOffering route packet old (slice_set ports at q) taken' full' (at + 1)
offering_goes_on route packet old ports taken full at p q o taken' full' r inside is e et ef bt bf =
    let here : drop at ports ≡ p ∷ drop (at + 1) ports =
    drop_more ports at p inside ∙ ap (λ (x : Port). x ∷ drop (at + 1) ports) (sym is) in
    let rest : drop (at + 1) (slice_set ports at q) ≡ drop (at + 1) ports = drop-set-lt (at + 1) ports at q (omega arith) in
    let front = take_more_set ports at q inside in
    let port_is = ap (λ (a : AtPort). a.port) e in
    let offered_is = ap (λ (a : AtPort). a.offered) e in
    let b = r.behind in
    let behind : take at ports ++ (q ∷ ports_behind route packet (at + 1) (drop (at + 1) ports)) ≡ ports_behind route packet 0 old =
    ap (λ (x : Port). take at ports ++ (x ∷ ports_behind route packet (at + 1) (drop (at + 1) ports))) port_is
    ∙ ap (λ (x : List Port). take at ports ++ ports_behind route packet at x) (sym here) ∙ r.behind in
    let t : taken + (bit_where Taken o at + bits_of_taken route packet (at + 1) (drop (at + 1) ports)) ≡ bits_of_taken route packet 0 old =
    ap (λ (x : Offered). taken + (bit_where Taken x at + bits_of_taken route packet (at + 1) (drop (at + 1) ports))) offered_is
    ∙ ap (λ (x : List Port). taken + bits_of_taken route packet at x) (sym here) ∙ r.takes in
    let f : full + (bit_where Full o at + bits_of_full route packet (at + 1) (drop (at + 1) ports)) ≡ bits_of_full route packet 0 old =
    ap (λ (x : Offered). full + (bit_where Full x at + bits_of_full route packet (at + 1) (drop (at + 1) ports))) offered_is
    ∙ ap (λ (x : List Port). full + bits_of_full route packet at x) (sym here) ∙ r.drops in
    record {
      long = length-set ports at q ∙ r.long;
      behind = ap (λ (x : List Port). x ++ ports_behind route packet (at + 1) (drop (at + 1) (slice_set ports at q))) front
          ∙ ap (λ (x : List Port). (take at ports ++ q ∷ []) ++ ports_behind route packet (at + 1) x) rest
          ∙ append_assoc (take at ports) (q ∷ []) (ports_behind route packet (at + 1) (drop (at + 1) ports)) ∙ behind;
      takes = ap (λ (x : List Port). taken' + bits_of_taken route packet (at + 1) x) rest ∙ ap (λ (n : ℕ). n + bits_of_taken route packet (at + 1) (drop (at + 1) ports)) et ∙ (omega (arith, t));
      drops = ap (λ (x : List Port). full' + bits_of_full route packet (at + 1) x) rest ∙ ap (λ (n : ℕ). n + bits_of_full route packet (at + 1) (drop (at + 1) ports)) ef ∙ (omega (arith, f));
      taken_below = bt;
      full_below = bf;
    }

pub offering_ends : (route : Route) (packet : ArrayVec ℕ) (old ports : List Port) (taken full at : ℕ) → IsOffering route packet old ports taken full at
    → length ports ≤ at → (ports ≡ ports_behind route packet 0 old) × (taken ≡ bits_of_taken route packet 0 old) × (full ≡ bits_of_full route packet 0 old)
offering_ends route packet old ports taken full at r ends =
    let left = drop_all at ports ends in
    let t = ap (λ (x : List Port). taken + bits_of_taken route packet at x) (sym left) ∙ r.takes in
    let f = ap (λ (x : List Port). full + bits_of_full route packet at x) (sym left) ∙ r.drops in (
      sym (append-nil ports) ∙ ap (λ (x : List Port). x ++ []) (sym (take_all at ports ends))
          ∙ ap (λ (x : List Port). take at ports ++ ports_behind route packet at x) (sym left) ∙ r.behind,
      omega (arith, t),
      omega (arith, f),
    )

-- an arrival: the source is learned, the route is found, and each port is offered the packet
pub arrival : (s : Switched) (ports ports' : List Port) (learned learned' : List Learned) (from : ℕ) (packet : ArrayVec ℕ) (r : Route) (t f : ℕ)
    → record { ports = ports; learned = learned } ≡ s → learned' ≡ learned_from learned from packet.items → r ≡ route_of learned' from packet.items
    → ports' ≡ ports_behind r packet 0 ports → t ≡ bits_of_taken r packet 0 ports → f ≡ bits_of_full r packet 0 ports
    → record { switch = record { ports = ports'; learned = learned' }; taken = t; full = f } ≡ arrived s from packet
arrival s ports ports' learned learned' from packet r t f view el er ep et ef =
    rw (ep, et, ef, er, el) (ap (λ (x : Switched). arrived x from packet) view)
