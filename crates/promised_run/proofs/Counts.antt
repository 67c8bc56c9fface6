-- Frames that were lost, and packets of the host that came in.
use Rattle.std.proofs.Common.{◌≡◌, ◌≤◌, ℕ, suc, ◌+◌, ◌==◌, Bool, true, false, List, [], ◌∷◌, ◌++◌, length, ap, ◌∙◌, arith, if◌then◌else◌, length-append}
use Rattle.std.specs.Prelude.{◌||◌}
use Rattle.run_promises.specs.of_eoe_switch.declared.switching.SwitchEvent.{SwitchEvent}
use Rattle.run_promises.specs.of_eoe_switch.declared.switching.SwitchEvent.TheVariants.{Arrive, Begun, Down}
use Rattle.run_promises.specs.of_life_runs.Led.{Exchanged}
use Rattle.run_promises.specs.of_master_node.Happened.{arrivals_at, arrived_by}
use Rattle.run_promises.proofs.of_packets_heard.Ports.{arrivals_append}
use Rattle.run_promises.specs.of_packets_heard.Recalled.{enters, has_entered}
use Rattle.seen_slaves.specs.of_run_frames.Fates.{lost_by, lost_of}
use Rattle.run_promises.specs.of_segment_ring.declared.wire.Fate.TheVariants.{Lost}

pub lost_append : (fs : List Exchanged) (f : Exchanged) → lost_of (fs ++ f ∷ []) ≡ lost_of fs + lost_by f.fate
lost_append [] f = let sum : lost_by f.fate + 0 ≡ 0 + lost_by f.fate = omega arith in sum
lost_append (g ∷ fs) f = let rest = lost_append fs f in omega (arith, rest)

pub lost_one : (fs : List Exchanged) (f : Exchanged) (after : ℕ) → f.fate ≡ Lost after → lost_of (fs ++ f ∷ []) ≡ suc (lost_of fs)
lost_one fs f after e = lost_append fs f ∙ ap (λ z. lost_of fs + lost_by z) e ∙ (let sum : lost_of fs + 1 ≡ suc (lost_of fs) = omega arith in sum)

pub lost_more : (fs : List Exchanged) (f : Exchanged) → lost_of fs ≤ lost_of (fs ++ f ∷ [])
lost_more fs f = let e = lost_append fs f in omega (arith, e)

-- ---- one that entered is among those that came in at the host's port
abbrev Came : List SwitchEvent → ℕ
Came es = length (arrivals_at 0 es)

entered_one : (e : SwitchEvent) → (if enters e then 1 else 0) ≤ length (arrived_by 0 e)
entered_one (Arrive port packet) = go (port == 0)
  where
    go : (b : Bool) → (if b then 1 else 0) ≤ length (if b then packet ∷ [] else [])
    go true = omega arith
    go false = omega arith
entered_one (Begun port) = omega arith
entered_one (Down port) = omega arith

either_one : (a b : Bool) (m n : ℕ) → (if a then 1 else 0) ≤ m → (if b then 1 else 0) ≤ n → (if a || b then 1 else 0) ≤ m + n
either_one true b m n p q = omega (arith, p)
either_one false b m n p q = omega (arith, q)

pub entered_few : (es : List SwitchEvent) → (if has_entered es then 1 else 0) ≤ length (arrivals_at 0 es)
entered_few [] = omega arith
entered_few (e ∷ es) =
    let long = length-append (arrived_by 0 e) (arrivals_at 0 es) in
    let both = either_one (enters e) (has_entered es) (length (arrived_by 0 e)) (Came es) (entered_one e) (entered_few es) in
    omega (arith, long, both)

pub came_more : (old making behind new : List SwitchEvent) → new ≡ old ++ (making ++ behind) → length (arrivals_at 0 old) + length (arrivals_at 0 making) ≤ length (arrivals_at 0 new)
came_more old making behind new e =
    let whole : Came new ≡ length (arrivals_at 0 old ++ (arrivals_at 0 making ++ arrivals_at 0 behind)) =
    ap Came e ∙ ap length (arrivals_append 0 old (making ++ behind) ∙ ap (λ z. arrivals_at 0 old ++ z) (arrivals_append 0 making behind)) in
    let first = length-append (arrivals_at 0 old) (arrivals_at 0 making ++ arrivals_at 0 behind) in
    let second = length-append (arrivals_at 0 making) (arrivals_at 0 behind) in
    omega (arith, whole, first, second)
