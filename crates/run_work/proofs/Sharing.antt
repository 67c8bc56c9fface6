-- A packet goes to no port but those of the other slaves.
use Rattle.std.proofs.Common.{◌≡◌, ◌≢◌, ℕ, suc, ◌+◌, ◌*◌, ◌<◌, ◌≤◌, ◌==◌, Bool, true, false, List, [], ◌∷◌, ◌++◌, length, refl, ap, arith, if◌then◌else◌, eq-eqb}
use Rattle.arrayvec.specs.ArrayVec.{ArrayVec}
use Rattle.eoe_switch.specs.declared.port.Offered.{Offered}
use Rattle.eoe_switch.specs.declared.port.Offered.TheVariants.{Taken}
use Rattle.eoe_switch.specs.declared.port.Port.{Port}
use Rattle.eoe_switch.specs.declared.port.Route.{Route}
use Rattle.eoe_switch.specs.Ports.{offered}
use Rattle.eoe_switch.specs.Switch.{bit_where, ports_behind, forwards_behind}
use Rattle.run_work.specs.Flows.{forwards_work}
use Rattle.run_work.specs.Packets.{waiting_work, queue_work}

-- ONE MORE IN A QUEUE
queue_more : (n : ℕ) (ps : List (ArrayVec ℕ)) (p : ArrayVec ℕ) → queue_work n (ps ++ p ∷ []) ≡ queue_work n ps + waiting_work n p.items
queue_more n [] p = omega arith
queue_more n (q ∷ ps) p = omega (arith, queue_more n ps p)

-- THE PORTS that a packet may go to, from this one on, which isn't the host's
abbrev goes : ℕ → ℕ → ℕ
goes from at = if at == from then 0 else 1

abbrev pub others : ℕ → ℕ → List Port → ℕ
others from at [] = 0
others from at (p ∷ ps) = goes from at + others from (at + 1) ps

-- one port, by what is asked of it
abbrev grown : Offered → ℕ → ArrayVec ℕ → List (ArrayVec ℕ) → List (ArrayVec ℕ)
grown o at packet f = if bit_where Taken o at == 0 then f else f ++ packet ∷ []

grown_less : (n : ℕ) (b : Bool) (packet : ArrayVec ℕ) (f : List (ArrayVec ℕ)) → queue_work n (if b then f else f ++ packet ∷ []) ≤ queue_work n f + 1 * waiting_work n packet.items
grown_less n true packet f = omega arith
grown_less n false packet f = omega (arith, queue_more n f packet)

port_shared : (n : ℕ) (route : Route) (at : ℕ) (packet : ArrayVec ℕ) (p : Port) (f : List (ArrayVec ℕ)) → queue_work n (grown (offered route at packet p).offered at packet f) ≤ queue_work n f + goes route.from at * waiting_work n packet.items
port_shared n route at packet p f = go (at == route.from) refl
  where
    same : (at == route.from) ≡ true → grown (offered route at packet p).offered at packet f ≡ f
    same e = rw e refl

    go : (b : Bool) → (at == route.from) ≡ b → queue_work n (grown (offered route at packet p).offered at packet f) ≤ queue_work n f + (if b then 0 else 1) * waiting_work n packet.items
    go true e = omega (arith, ap (queue_work n) (same e))
    go false e = grown_less n (bit_where Taken (offered route at packet p).offered at == 0) packet f

pub forwards_shared : (n : ℕ) (route : Route) (at : ℕ) (packet : ArrayVec ℕ) (ps : List Port) (fs : List (List (ArrayVec ℕ))) → forwards_work n (forwards_behind route packet at ps fs) ≤ forwards_work n fs + others route.from at ps * waiting_work n packet.items
forwards_shared n route at packet [] fs = omega arith
forwards_shared n route at packet (p ∷ ps) [] = omega arith
forwards_shared n route at packet (p ∷ ps) (f ∷ fs) =
    let here = port_shared n route at packet p f in
    let rest = forwards_shared n route (at + 1) packet ps fs in
    let sum : (goes route.from at + others route.from (at + 1) ps) * waiting_work n packet.items ≡ goes route.from at * waiting_work n packet.items + others route.from (at + 1) ps * waiting_work n packet.items = omega arith in
    omega (arith, here, rest, sum)

pub ports_length : (route : Route) (at : ℕ) (packet : ArrayVec ℕ) (ps : List Port) → length (ports_behind route packet at ps) ≡ length ps
ports_length route at packet [] = refl
ports_length route at packet (p ∷ ps) = ap suc (ports_length route (at + 1) packet ps)

-- HOW MANY there are
goes_one : (from at : ℕ) → goes from at ≤ 1
goes_one from at = go (at == from)
  where
    go : (b : Bool) → (if b then 0 else 1) ≤ 1
    go true = omega arith
    go false = omega arith

-- a packet of the host goes to each slave at most
pub others_all : (from at : ℕ) (ps : List Port) → others from at ps ≤ length ps
others_all from at [] = omega arith
others_all from at (p ∷ ps) = omega (arith, goes_one from at, others_all from (at + 1) ps)

-- and one of a slave to each other one
pub others_less : (from at : ℕ) (ps : List Port) → at ≤ from → from < at + length ps → suc (others from at ps) ≤ length ps
others_less from at [] l m = absurd (omega (arith, l, m))
others_less from at (p ∷ ps) l m = go (at == from) refl (λ less. others_less from (at + 1) ps less (omega (arith, m)))
  where
    go : (b : Bool) → (at == from) ≡ b → (at + 1 ≤ from → suc (others from (at + 1) ps) ≤ length ps) → suc ((if b then 0 else 1) + others from (at + 1) ps) ≤ length (p ∷ ps)
    go true e r = omega (arith, others_all from (at + 1) ps)
    go false e r = omega (arith, r (omega (arith, l, apart e)))
      where
        apart : (at == from) ≡ false → at ≢ from
        apart e f = absurd (let same = eq-eqb at from f in cc)
