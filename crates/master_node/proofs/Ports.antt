-- Ports that are those of a switch.
use Rattle.std.proofs.Common.{◌≡◌, ◌≤◌, ◌<◌, ℕ, zero, suc, ◌+◌, List, [], ◌∷◌, ◌++◌, Bool, true, false, Option, Some, None, refl, arith, get_or, length}
use Rattle.std.specs.Prelude.{◌&&◌, IfSome, nat_lt, nat_le, All}
use Rattle.std.proofs.lemmas.Grind.{common_steps}
use Rattle.std.proofs.lemmas.List.Elements.{All-head, All-tail}
use Rattle.arrayvec.specs.ArrayVec.{ArrayVec}
use Rattle.life_runs.specs.of_segment_plan.Sound.{IsPacket}
use Rattle.master_node.specs.Ported.{is_port, are_ports, are_long}

pub and_both : (a b : Bool) → a ≡ true → b ≡ true → (a && b) ≡ true
and_both true b p q = q
and_both false b p q = absurd (cc)

pub and_first : (a b : Bool) → (a && b) ≡ true → a ≡ true
and_first true b p = refl
and_first false b p = absurd (cc)

pub and_second : (a b : Bool) → (a && b) ≡ true → b ≡ true
and_second true b p = p
and_second false b p = absurd (cc)

below_more : (q n m : ℕ) → n ≤ m → nat_lt q n ≡ true → nat_lt q m ≡ true
below_more q n m l e = grind (arith, common_steps)

-- a port of a switch is one of a larger switch
pub port_more : (n m : ℕ) (p : Option ℕ) → n ≤ m → is_port n p ≡ true → is_port m p ≡ true
port_more n m None l e = refl
port_more n m (Some q) l e = and_both (nat_lt 0 q) (nat_lt q m) (and_first (nat_lt 0 q) (nat_lt q n) e) (below_more q n m l (and_second (nat_lt 0 q) (nat_lt q n) e))

-- ports of a switch, and one more
pub ports_push : (n m : ℕ) (ps : List (Option ℕ)) (p : Option ℕ) → n ≤ m → are_ports n ps ≡ true → is_port m p ≡ true → are_ports m (ps ++ p ∷ []) ≡ true
ports_push n m [] p l e f = and_both (is_port m p) true f refl
ports_push n m (q ∷ qs) p l e f =
    and_both (is_port m q) (are_ports m (qs ++ p ∷ [])) (port_more n m q l (and_first (is_port n q) (are_ports n qs) e))
    (ports_push n m qs p l (and_second (is_port n q) (are_ports n qs) e) f)

-- one of them
pub port_here : (n : ℕ) (ps : List (Option ℕ)) (i : ℕ) → are_ports n ps ≡ true → is_port n (get_or ps i None) ≡ true
port_here n [] i e = refl
port_here n (q ∷ qs) zero e = and_first (is_port n q) (are_ports n qs) e
port_here n (q ∷ qs) (suc i) e = port_here n qs i (and_second (is_port n q) (are_ports n qs) e)

-- the next one, behind that of the host
pub port_next : (n : ℕ) → 1 ≤ n → is_port (n + 1) (Some n) ≡ true
port_next n l = and_both (nat_lt 0 n) (nat_lt n (n + 1)) (grind (arith, common_steps)) (grind (arith, common_steps))

-- is inside
pub port_inside : (n : ℕ) (p : Option ℕ) → is_port n p ≡ true → IfSome p (λ q. q < n)
port_inside n None e = tt
port_inside n (Some q) e = let f = and_second (nat_lt 0 q) (nat_lt q n) e in grind (arith, common_steps)

-- is behind that of the host
pub port_behind : (n : ℕ) (p : Option ℕ) → is_port n p ≡ true → IfSome p (λ q. 1 ≤ q)
port_behind n None e = tt
port_behind n (Some q) e = let f = and_first (nat_lt 0 q) (nat_lt q n) e in grind (arith, common_steps)

-- a packet of the host has its addresses and its EtherType
pub long_enough : (n : ℕ) → nat_le 14 n ≡ true → 14 ≤ n
long_enough n e = grind (arith, common_steps)

pub long_here : (ps : List (ArrayVec ℕ)) (i : ℕ) (d : ArrayVec ℕ) → are_long ps ≡ true → i < length ps → 14 ≤ length (get_or ps i d).items
long_here [] i d e l = absurd (omega arith)
long_here (p ∷ ps) zero d e l = long_enough (length p.items) (and_first (nat_le 14 (length p.items)) (are_long ps) e)
long_here (p ∷ ps) (suc i) d e l = long_here ps i d (and_second (nat_le 14 (length p.items)) (are_long ps) e) (omega arith)

pub enough_long : (n : ℕ) → 14 ≤ n → nat_le 14 n ≡ true
enough_long n l = grind (arith, common_steps)

pub long_all : (ps : List (ArrayVec ℕ)) → All IsPacket ps → are_long ps ≡ true
long_all [] a = refl
long_all (p ∷ ps) a = and_both (nat_le 14 (length p.items)) (are_long ps) (enough_long (length p.items) (All-head IsPacket p ps a).0) (long_all ps (All-tail IsPacket p ps a))
