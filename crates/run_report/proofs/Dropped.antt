-- The ports at which a switch drops a packet, as bits and as a number.
use Rattle.std.proofs.Common.{◌≡◌, ℕ, zero, suc, ◌+◌, ◌*◌, ◌^◌, ◌<◌, ◌==◌, Bool, true, false, cond, List, [], ◌∷◌, length, drop, replicate, ◌≤◌, refl, sym, ap, ap₂, ◌∙◌, arith, add-one, mul-zero, mul-one, one-mul, mul_assoc, mul-add, pow-suc}
use Rattle.std.specs.Prelude.{if◌then◌else◌, count_ones}
use Rattle.std.proofs.lemmas.Simd.{ones-mask_l_cons}
use Rattle.std.proofs.lemmas.Nat.{pow_pos, ones_le_self}
use Rattle.std.proofs.lemmas.Bool.{ne_eqb}
use lib.Lanes.{mask_l}
use Rattle.arrayvec.specs.ArrayVec.{ArrayVec}
use Rattle.run_book.specs.of_eoe_switch.declared.port.Offered.{Offered}
use Rattle.run_book.specs.of_eoe_switch.declared.port.Offered.TheVariants.{Not, Taken, Full}
use Rattle.run_book.specs.of_eoe_switch.declared.port.Port.{Port}
use Rattle.run_book.specs.of_eoe_switch.declared.port.Route.{Route}
use Rattle.run_book.specs.of_eoe_switch.declared.switching.SwitchEvent.{SwitchEvent}
use Rattle.run_book.specs.of_eoe_switch.declared.switching.SwitchEvent.TheVariants.{Arrive, Begun, Down}
use Rattle.run_book.specs.of_eoe_switch.Ports.{offered}
use Rattle.run_book.specs.of_eoe_switch.Switch.{Switched, first_switch, switched, Flow, flow_of, flow_behind, bit_where, bits_of_full, drops_of}
use Rattle.run_report.specs.Drops.{drops_in}

-- whether a packet was dropped there
abbrev is_full : Offered → Bool
is_full Not = false
is_full Taken = false
is_full Full = true

-- at which ports a packet is dropped, from the lowest on
abbrev fulls : Route → ArrayVec ℕ → ℕ → List Port → List Bool
fulls route packet at [] = []
fulls route packet at (p ∷ ps) = is_full (offered route at packet p).offered ∷ fulls route packet (at + 1) ps

bit_is : (o : Offered) (at : ℕ) → bit_where Full o at ≡ 2 ^ at * cond (is_full o) 1 0
bit_is Not at = sym (mul-zero (2 ^ at))
bit_is Taken at = sym (mul-zero (2 ^ at))
bit_is Full at = sym (mul-one (2 ^ at))

-- the bits of the ports from `at` on
bits_are : (route : Route) (packet : ArrayVec ℕ) (at : ℕ) (ps : List Port) → bits_of_full route packet at ps ≡ 2 ^ at * mask_l (fulls route packet at ps)
bits_are route packet at [] = sym (mul-zero (2 ^ at))
bits_are route packet at (p ∷ ps) =
    let o = (offered route at packet p).offered in
    let rest = mask_l (fulls route packet (at + 1) ps) in
    let more : 2 ^ (at + 1) * rest ≡ 2 ^ at * (2 * rest) = ap (λ w. w * rest) (ap (λ k. 2 ^ k) (add-one at) ∙ pow-suc 2 at) ∙ mul_assoc (2 ^ at) 2 rest in
    ap₂ (λ (a b : ℕ). a + b) (bit_is o at) (bits_are route packet (at + 1) ps ∙ more) ∙ sym (mul-add (2 ^ at) (cond (is_full o) 1 0) (2 * rest))

-- one where a packet was dropped
abbrev one_drop : Offered → ℕ → ℕ
one_drop o at = if bit_where Full o at == 0 then 0 else 1

abbrev unless : Bool → ℕ
unless b = if b then 0 else 1

one_is : (o : Offered) (at : ℕ) → one_drop o at ≡ cond (is_full o) 1 0
one_is Not at = refl
one_is Taken at = refl
one_is Full at = one_where (2 ^ at == 0) (apart (2 ^ at) (pow_pos at))
  where
    apart : (w : ℕ) → 0 < w → (w == 0) ≡ false
    apart w some = ne_eqb w 0 (λ (e : w ≡ 0). omega (arith, e, some))

    one_where : (b : Bool) → b ≡ false → unless b ≡ 1
    one_where b e = ap unless e

ones_are : (route : Route) (packet : ArrayVec ℕ) (at : ℕ) (ps : List Port) → count_ones (mask_l (fulls route packet at ps)) ≡ drops_of route packet at ps
ones_are route packet at [] = omega (arith, ones_le_self 0)
ones_are route packet at (p ∷ ps) =
    let o = (offered route at packet p).offered in
    ones-mask_l_cons (is_full o) (fulls route packet (at + 1) ps) ∙ ap₂ (λ (a b : ℕ). a + b) (sym (one_is o at)) (ones_are route packet (at + 1) ps)

-- the bits of all ports: as many are set as ports drop the packet
pub ones_of_full : (route : Route) (packet : ArrayVec ℕ) (ps : List Port) → count_ones (bits_of_full route packet 0 ps) ≡ drops_of route packet 0 ps
ones_of_full route packet ps = ap count_ones (bits_are route packet 0 ps ∙ one-mul (mask_l (fulls route packet 0 ps))) ∙ ones_are route packet 0 ps

one_most : (b : Bool) → cond b 1 0 ≤ 1
one_most true = omega arith
one_most false = omega arith

pub few_drops : (route : Route) (packet : ArrayVec ℕ) (at : ℕ) (ps : List Port) → drops_of route packet at ps ≤ length ps
few_drops route packet at [] = omega arith
few_drops route packet at (p ∷ ps) =
    let o = (offered route at packet p).offered in
    let one : one_drop o at ≡ cond (is_full o) 1 0 = one_is o at in
    let most = one_most (is_full o) in
    let rest = few_drops route packet (at + 1) ps in
    omega (arith, one, most, rest)

-- the drops of a flow are those of its events
pub flow_drops : (flow : Flow) (es : List SwitchEvent) → (flow_of flow es).drops ≡ flow.drops + drops_in flow.switch es
flow_drops flow [] = omega arith
flow_drops flow (Arrive port packet ∷ es) = let rest = flow_drops (flow_behind flow (Arrive port packet)) es in omega (arith, rest)
flow_drops flow (Begun port ∷ es) = let rest = flow_drops (flow_behind flow (Begun port)) es in omega (arith, rest)
flow_drops flow (Down port ∷ es) = let rest = flow_drops (flow_behind flow (Down port)) es in omega (arith, rest)

pub drops_of_switched : (ports : ℕ) (es : List SwitchEvent) → (switched ports es).drops ≡ drops_in (first_switch ports) es
drops_of_switched ports es = let all = flow_drops (record { switch = first_switch ports; forwards = replicate ports []; drops = 0 }) es in omega (arith, all)

-- no event is left behind the last
pub none_left : (s : Switched) (es : List SwitchEvent) (at : ℕ) → length es ≤ at → drops_in s (drop at es) ≡ 0
none_left s [] zero le = refl
none_left s [] (suc at) le = refl
none_left s (e ∷ es) zero le = absurd (omega (arith, le))
none_left s (e ∷ es) (suc at) le = none_left s es at (omega (arith, le))
