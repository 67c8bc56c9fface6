-- The packets of a run, counted once: those that enter the switch, each with what it leads to.
use Rattle.std.proofs.Common.{◌≡◌, ℕ, ◌+◌, ◌*◌, ◌≤◌, Option, Some, None, List, [], ◌∷◌, length, take, refl, sym, ap, ap₂, ◌∙◌, arith}
use Rattle.std.specs.Prelude.{All, sum_by, slice_get, unwrap_or, option_map}
use Rattle.std.proofs.lemmas.List.Elements.{All-head, All-tail}
use Rattle.std.proofs.Math.Nat.{mul-le-mul_right}
use Rattle.std.proofs.lemmas.List.Sums.{sum_by-cons}
use Rattle.arrayvec.specs.ArrayVec.{ArrayVec}
use Rattle.plan_ring.specs.of_life_runs.Led.{Leads}
use Rattle.run_work.specs.Packets.{cuts}
use Rattle.life_counts.specs.Split.{own_work, entering, split_work}
use Rattle.plan_ring.specs.of_run_frames.Begun.{work_begun, addressed, work_in}
use Rattle.life_counts.specs.of_segment_plan.Sound.{IsPacket}
use Rattle.life_counts.specs.of_segment_plan.Bound.{spread, work_of, addressed_work, services_work, host_work}
use Rattle.life_counts.specs.of_segment_plan.declared.plan.Scenario.{Scenario}
use Rattle.life_counts.specs.of_segment_plan.declared.service.Service as Plan
use Rattle.life_counts.specs.of_segment_plan.declared.slave.SlaveSpec.{SlaveSpec}
use Rattle.run_work.specs.Switched.{cuts_begun, host_cuts, AreSwitched}
use Rattle.run_work.specs.Together.{packets_begun}
use Rattle.run_work.proofs.Together.{whole_work}

-- a fragment with what it leads to at n slaves
abbrev pub square : ℕ → ℕ
square n = (n + 1) * (n + 1)

spread_out : (a b n : ℕ) → (a + b) * n ≡ a * n + b * n
spread_out a b n = omega arith

gathered : (a x b y n : ℕ) → (a + x * n) + (b + y * n) ≡ (a + b) + (x + y) * n
gathered a x b y n = omega (arith, spread_out x y n)

-- ---- the services that began, parted
sum_parts : {X : Type 0} (f g h : X → ℕ) → ((x : X) → f x ≡ g x + h x) → (xs : List X) → sum_by f xs ≡ sum_by g xs + sum_by h xs
sum_parts f g h each [] = refl
sum_parts f g h each (x ∷ xs) = omega (arith, sum_by-cons f x xs, sum_by-cons g x xs, sum_by-cons h x xs, each x, sum_parts f g h each xs)

pub begun_parts : (ss : List SlaveSpec) (leads : List Leads) → work_begun whole_work ss leads ≡ work_begun own_work ss leads + cuts_begun ss leads
begun_parts [] leads = refl
begun_parts (s ∷ ss) [] = refl
begun_parts (s ∷ ss) (a ∷ leads) = omega (arith, sum_parts (whole_work s) (own_work s) entering (λ t. refl) (take a.number a.script), begun_parts ss leads)

-- ---- all services of a plan, as the bound counts them
row_parts : (slaves : List SlaveSpec) (n : ℕ) → ((s : SlaveSpec) (service : Plan.Service) → work_of n s service ≡ split_work n s service) → (row : ℕ × Plan.Service) (found : Option SlaveSpec) →
    unwrap_or (option_map (λ slave. work_of n slave row.1) found) 0 ≡ unwrap_or (option_map (λ slave. own_work slave row.1) found) 0 + unwrap_or (option_map (λ slave. entering row.1) found) 0 * square n
row_parts slaves n split row None = omega arith
row_parts slaves n split row (Some s) = split s row.1

pub work_parts : (slaves : List SlaveSpec) → ((s : SlaveSpec) (service : Plan.Service) → work_of (length slaves) s service ≡ split_work (length slaves) s service) → (rows : List (ℕ × Plan.Service)) →
    services_work slaves rows ≡ work_in own_work slaves rows + work_in (λ slave service. entering service) slaves rows * square (length slaves)
work_parts slaves split [] = omega arith
work_parts slaves split (row ∷ rows) =
    let cuts_of : SlaveSpec → Plan.Service → ℕ = λ slave service. entering service in
    sum_by-cons (addressed_work slaves) row rows
    ∙ ap₂ (λ (a b : ℕ). a + b) (row_parts slaves (length slaves) split row (slice_get slaves row.0)) (work_parts slaves split rows)
    ∙ gathered (addressed own_work slaves row) (addressed cuts_of slaves row) (work_in own_work slaves rows) (work_in cuts_of slaves rows) (square (length slaves))
    ∙ ap₂ (λ (a b : ℕ). a + b * square (length slaves)) (sym (sum_by-cons (addressed own_work slaves) row rows)) (sym (sum_by-cons (addressed cuts_of slaves) row rows))

-- ---- the host's packets
pub host_parts : (n : ℕ) (host : List (ArrayVec ℕ)) → host_work n host ≡ host_cuts host * square n
host_parts n [] = omega arith
host_parts n (packet ∷ host) =
    let each : ArrayVec ℕ → ℕ = λ packet. spread n (length packet.items) in
    let cut : ArrayVec ℕ → ℕ = λ packet. cuts packet.items in
    sum_by-cons each packet host
    ∙ ap (λ rest. each packet + rest) (host_parts n host)
    ∙ sym (spread_out (cut packet) (host_cuts host) (square n))
    ∙ ap (λ count. count * square n) (sym (sum_by-cons cut packet host))

-- each packet of the host counts one at least
pub host_many : (host : List (ArrayVec ℕ)) → All IsPacket host → length host ≤ host_cuts host
host_many [] each = omega arith
host_many (packet ∷ host) each =
    let least = (All-head IsPacket packet host each).0 in
    let one : 1 ≤ cuts packet.items = omega (arith, least) in
    let sum : host_cuts (packet ∷ host) ≡ cuts packet.items + host_cuts host = sum_by-cons (λ (packet : ArrayVec ℕ). cuts packet.items) packet host in
    omega (arith, one, sum, host_many host (All-tail IsPacket packet host each))

-- WHAT ENTERS COMES TO NO MORE THAN ITS SQUARE, and what came into hand is of what was written and sent back; that the host's packets came in besides
pub within_square : (n host begun entered packets work : ℕ) → entered ≤ host + begun → entered + packets ≤ work → work ≤ entered * square n → begun + packets + host ≤ host * square n + begun * square n
within_square n host begun entered packets work enters written most =
    let more : ℕ = n * n + 2 * n in
    let whole : entered * square n ≡ entered + entered * more = omega arith in
    let all : (host + begun) * more ≡ host * more + begun * more = omega arith in
    let hosts : host * square n ≡ host + host * more = omega arith in
    let begins : begun * square n ≡ begun + begun * more = omega arith in
    omega (arith, mul-le-mul_right more enters, written, most, whole, all, hosts, begins)

-- SO IT IS WITH THE PACKETS OF ONE SWITCH, where no download emits that isn't of the plan
pub switched_few : (plan : Scenario) → All IsPacket plan.host → ((s : SlaveSpec) (service : Plan.Service) → work_of (length plan.slaves) s service ≡ split_work (length plan.slaves) s service) → (leads : List Leads) →
    cuts_begun plan.slaves leads ≤ work_in (λ slave service. entering service) plan.slaves plan.services → AreSwitched plan leads →
    work_in own_work plan.slaves plan.services + (cuts_begun plan.slaves leads + packets_begun plan.slaves leads) + length plan.host ≤ services_work plan.slaves plan.services + host_work (length plan.slaves) plan.host
switched_few plan host split leads begun packets =
    let n = length plan.slaves in
    let all = within_square n (host_cuts plan.host) (cuts_begun plan.slaves leads) packets.entered (packets_begun plan.slaves leads) (packets.entered * square n) packets.within packets.most (omega arith) in
    omega (arith, all, work_parts plan.slaves split plan.services, host_parts n plan.host, host_many plan.host host, mul-le-mul_right (square n) begun)
