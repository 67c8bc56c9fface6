-- Each event keeps what was forwarded within what came in.
use Rattle.std.proofs.Common.{◌≡◌, ℕ, zero, suc, ◌+◌, ◌-◌, ◌<◌, ◌≤◌, ◌==◌, Bool, true, false, Option, Some, None, List, [], ◌∷◌, length, drop, replicate, refl, ap, ◌∙◌, arith, if◌then◌else◌}
use Rattle.std.specs.Prelude.{slice_get}
use Rattle.std.proofs.lemmas.Nat.{mul-le}
use Rattle.std.proofs.lemmas.List.{length-set}
use Rattle.arrayvec.specs.ArrayVec.{ArrayVec}
use Rattle.eoe_switch.specs.declared.port.Port.{Port}
use Rattle.eoe_switch.specs.declared.switching.SwitchEvent.{SwitchEvent}
use Rattle.eoe_switch.specs.declared.switching.SwitchEvent.TheVariants.{Arrive, Begun, Down}
use Rattle.eoe_switch.specs.Switch.{Flow, first_port, first_switch, changed, route_of, learned_from, forwards_behind, flow_behind, flow_of, switched}
use Rattle.run_work.specs.Flows.{forwards_work, slaves_work, entry_work, entries_work, ComesAt, AllComeAt}
use Rattle.run_work.specs.Packets.{waiting_work}
use Rattle.run_work.proofs.Sharing.{others, forwards_shared, ports_length, others_all, others_less}

changed_length : (f : Port → Port) (ports : List Port) (at : ℕ) (found : Option Port) → length (changed f ports at found) ≡ length ports
changed_length f ports at None = refl
changed_length f ports at (Some p) = length-set ports at (f p)

-- a port of a slave
some_port : (from : ℕ) → (from == 0) ≡ false → 1 ≤ from
some_port zero e = absurd (cc)
some_port (suc k) e = omega arith

-- of a switch with so many ports
module _ (n many : ℕ) (few : many ≤ n + 1) where
  -- the other ports that a packet may go to
  most : (from : ℕ) (ps : List Port) → length ps + 1 ≡ many → from < many → others from 1 ps ≤ (if from == 0 then n else n - 1)
  most from ps l m = go (from == 0) refl
    where
      go : (b : Bool) → (from == 0) ≡ b → others from 1 ps ≤ (if b then n else n - 1)
      go true e = omega (arith, others_all from 1 ps, l, few)
      go false e = let some = some_port from e in omega (arith, others_less from 1 ps some (omega (arith, l, m)), l, few)

  come_in : (from : ℕ) (packet : ArrayVec ℕ) (flow : Flow) (ps : List Port) (fs : List (List (ArrayVec ℕ))) → length ps ≡ many → from < many →
      (let route = route_of (learned_from flow.switch.learned from packet.items) from packet.items in slaves_work n (forwards_behind route packet 0 ps fs) ≤ slaves_work n fs + entry_work n (Arrive from packet))
  come_in from packet flow [] fs l m = absurd (omega (arith, l, m))
  come_in from packet flow (p ∷ ps) [] l m = omega arith
  come_in from packet flow (p ∷ ps) (f ∷ fs) l m =
      let route = route_of (learned_from flow.switch.learned from packet.items) from packet.items in
      let shared = forwards_shared n route 1 packet ps fs in
      omega (arith, shared, mul-le (others from 1 ps) (waiting_work n packet.items) (if from == 0 then n else n - 1) (waiting_work n packet.items) (most from ps (omega (arith, l)) m) (omega arith))

  event_within : (flow : Flow) (e : SwitchEvent) → length flow.switch.ports ≡ many → ComesAt many e →
      (slaves_work n (flow_behind flow e).forwards ≤ slaves_work n flow.forwards + entry_work n e) × (length (flow_behind flow e).switch.ports ≡ many)
  event_within flow (Arrive from packet) l at =
      let route = route_of (learned_from flow.switch.learned from packet.items) from packet.items in
      (come_in from packet flow flow.switch.ports flow.forwards l at, ports_length route 0 packet flow.switch.ports ∙ l)
  event_within flow (Begun port) l at = (omega arith, changed_length (λ (p : Port). record p { queue = drop 1 p.queue }) flow.switch.ports port (slice_get flow.switch.ports port) ∙ l)
  event_within flow (Down port) l at = (omega arith, changed_length (λ (p : Port). record { up = false; queue = [] }) flow.switch.ports port (slice_get flow.switch.ports port) ∙ l)

  flow_within : (flow : Flow) (es : List SwitchEvent) → length flow.switch.ports ≡ many → AllComeAt many es → slaves_work n (flow_of flow es).forwards ≤ slaves_work n flow.forwards + entries_work n es
  flow_within flow [] l at = omega arith
  flow_within flow (e ∷ es) l at =
      let here = event_within flow e l at.0 in
      omega (arith, here.0, flow_within (flow_behind flow e) es here.1 at.1)

none_forwarded : (n k : ℕ) → forwards_work n (replicate k []) ≡ 0
none_forwarded n zero = refl
none_forwarded n (suc k) = omega (arith, none_forwarded n k)

nothing_yet : (n k : ℕ) → slaves_work n (replicate k []) ≡ 0
nothing_yet n zero = refl
nothing_yet n (suc k) = none_forwarded n k

new_length : (k : ℕ) → length (replicate k first_port) ≡ k
new_length zero = refl
new_length (suc k) = ap suc (new_length k)

pub within : (n many : ℕ) (es : List SwitchEvent) → many ≤ n + 1 → AllComeAt many es → slaves_work n (switched many es).forwards ≤ entries_work n es
within n many es few at =
    let first : Flow = record { switch = first_switch many; forwards = replicate many []; drops = 0 } in
    omega (arith, flow_within n many few first es (new_length many) at, nothing_yet n many)
