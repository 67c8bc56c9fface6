-- Each packet that waits at a port of the switch has its addresses and its EtherType.
use Rattle.std.proofs.Common.{◌≡◌, ◌≤◌, ◌==◌, ℕ, zero, suc, ◌+◌, List, [], ◌∷◌, ◌++◌, Bool, true, false, Option, Some, None, refl, ap, ◌∙◌, subst, length}
use Rattle.std.specs.Prelude.{drop, if◌then◌else◌, nat_le, nat_lt, slice_get, slice_set}
use Rattle.arrayvec.specs.ArrayVec.{ArrayVec}
use Rattle.eoe_switch.specs.Ports.{AtPort, is_target, offered}
use Rattle.eoe_switch.specs.Switch.{Switched, begun_at, changed, downed_at, first_ports, ports_behind, queue_of}
use Rattle.eoe_switch.specs.declared.port.Offered.TheVariants.{Not, Taken, Full}
use Rattle.eoe_switch.specs.declared.port.Port.{Port}
use Rattle.eoe_switch.specs.declared.port.Route.{Route}
use Rattle.master_node.specs.Forwards.{waiting_by}
use Rattle.master_node.specs.Ported.{are_long, are_queued}
use Rattle.master_node.proofs.Ports.{and_both, and_first, and_second, enough_long, long_enough}

long_push : (ps : List (ArrayVec ℕ)) (p : ArrayVec ℕ) → are_long ps ≡ true → 14 ≤ length p.items → are_long (ps ++ p ∷ []) ≡ true
long_push [] p e l = and_both (nat_le 14 (length p.items)) true (enough_long (length p.items) l) refl
long_push (q ∷ qs) p e l = and_both (nat_le 14 (length q.items)) (are_long (qs ++ p ∷ [])) (and_first (nat_le 14 (length q.items)) (are_long qs) e) (long_push qs p (and_second (nat_le 14 (length q.items)) (are_long qs) e) l)

long_drop : (ps : List (ArrayVec ℕ)) → are_long ps ≡ true → are_long (drop 1 ps) ≡ true
long_drop [] e = refl
long_drop (p ∷ ps) e = and_second (nat_le 14 (length p.items)) (are_long ps) e

-- a packet at one port
abbrev offered_by : ArrayVec ℕ → Port → Bool → Bool → Bool → AtPort
offered_by packet p true true c = record { port = p; offered = Taken }
offered_by packet p true false true = record { port = record p { queue = p.queue ++ packet ∷ [] }; offered = Taken }
offered_by packet p true false false = record { port = p; offered = Full }
offered_by packet p false b c = record { port = p; offered = Not }

offered_as : (packet : ArrayVec ℕ) (p : Port) (a b c : Bool) → (if a then (if b then record { port = p; offered = Taken } else if c then record { port = record p { queue = p.queue ++ packet ∷ [] }; offered = Taken } else record { port = p; offered = Full }) else record { port = p; offered = Not }) ≡ offered_by packet p a b c
offered_as packet p true true c = refl
offered_as packet p true false true = refl
offered_as packet p true false false = refl
offered_as packet p false b c = refl

long_by : (packet : ArrayVec ℕ) (p : Port) (a b c : Bool) → are_long p.queue ≡ true → 14 ≤ length packet.items → are_long (offered_by packet p a b c).port.queue ≡ true
long_by packet p true true c e l = e
long_by packet p true false true e l = long_push p.queue packet e l
long_by packet p true false false e l = e
long_by packet p false b c e l = e

long_offered : (route : Route) (at : ℕ) (packet : ArrayVec ℕ) (p : Port) → are_long p.queue ≡ true → 14 ≤ length packet.items → are_long (offered route at packet p).port.queue ≡ true
long_offered route at packet p e l =
    let a = is_target route at p.up in
    let b = at == 0 in
    let c = nat_lt (length p.queue) 8 in
    ap (λ (z : AtPort). are_long z.port.queue) (offered_as packet p a b c) ∙ long_by packet p a b c e l

-- at all
pub queued_behind : (route : Route) (packet : ArrayVec ℕ) (at : ℕ) (ps : List Port) → are_queued ps ≡ true → 14 ≤ length packet.items → are_queued (ports_behind route packet at ps) ≡ true
queued_behind route packet at [] e l = refl
queued_behind route packet at (p ∷ ps) e l =
    and_both (are_long (offered route at packet p).port.queue) (are_queued (ports_behind route packet (at + 1) ps)) (long_offered route at packet p (and_first (are_long p.queue) (are_queued ps) e) l) (queued_behind route packet (at + 1) ps (and_second (are_long p.queue) (are_queued ps) e) l)

-- of a new switch none waits
pub queued_first : (n : ℕ) → are_queued (first_ports n) ≡ true
queued_first zero = refl
queued_first (suc n) = queued_first n

queued_set : (ps : List Port) (at : ℕ) (p : Port) → are_queued ps ≡ true → are_long p.queue ≡ true → are_queued (slice_set ps at p) ≡ true
queued_set [] at p e l = refl
queued_set (q ∷ qs) zero p e l = and_both (are_long p.queue) (are_queued qs) l (and_second (are_long q.queue) (are_queued qs) e)
queued_set (q ∷ qs) (suc at) p e l = and_both (are_long q.queue) (are_queued (slice_set qs at p)) (and_first (are_long q.queue) (are_queued qs) e) (queued_set qs at p (and_second (are_long q.queue) (are_queued qs) e) l)

queue_long : (ps : List Port) (at : ℕ) → are_queued ps ≡ true → are_long (queue_of (slice_get ps at)) ≡ true
queue_long [] at e = refl
queue_long (q ∷ qs) zero e = and_first (are_long q.queue) (are_queued qs) e
queue_long (q ∷ qs) (suc at) e = queue_long qs at (and_second (are_long q.queue) (are_queued qs) e)

-- a packet that waits no longer, and a port that is down
pub queued_begun : (s : Switched) (port : ℕ) → are_queued s.ports ≡ true → are_queued (begun_at s port).ports ≡ true
queued_begun s port e = go (slice_get s.ports port) (queue_long s.ports port e)
  where
    go : (o : Option Port) → are_long (queue_of o) ≡ true → are_queued (changed (λ (p : Port). record p { queue = drop 1 p.queue }) s.ports port o) ≡ true
    go None l = e
    go (Some p) l = queued_set s.ports port (record p { queue = drop 1 p.queue }) e (long_drop p.queue l)

pub queued_down : (s : Switched) (port : ℕ) → are_queued s.ports ≡ true → are_queued (downed_at s port).ports ≡ true
queued_down s port e = go (slice_get s.ports port)
  where
    go : (o : Option Port) → are_queued (changed (λ (p : Port). record p { up = false; queue = [] }) s.ports port o) ≡ true
    go None = e
    go (Some p) = queued_set s.ports port (record p { up = false; queue = [] }) e refl

-- the oldest that waits
first_long : (ps : List (ArrayVec ℕ)) (p : ArrayVec ℕ) → are_long ps ≡ true → slice_get ps 0 ≡ Some p → 14 ≤ length p.items
first_long [] p e f = absurd (cc)
first_long (q ∷ qs) p e f = let same : q ≡ p = cc in subst (λ (z : ArrayVec ℕ). 14 ≤ length z.items) same (long_enough (length q.items) (and_first (nat_le 14 (length q.items)) (are_long qs) e))

pub oldest_long : (s : Switched) (o : Option ℕ) (p : ArrayVec ℕ) → are_queued s.ports ≡ true → slice_get (waiting_by s o) 0 ≡ Some p → 14 ≤ length p.items
oldest_long s None p e f = absurd (cc)
oldest_long s (Some port) p e f = first_long (queue_of (slice_get s.ports port)) p (queue_long s.ports port e) f

-- none waits where there is no oldest
pub none_oldest : (ps : List (ArrayVec ℕ)) → slice_get ps 0 ≡ None → ps ≡ []
none_oldest [] e = refl
none_oldest (p ∷ ps) e = absurd (cc)
