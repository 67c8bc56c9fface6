-- Each port behind the host's is that of a slave.
use Rattle.std.proofs.Common.{◌≡◌, ◌≤◌, ◌<◌, ℕ, zero, suc, ◌+◌, Bool, true, false, Some, List, [], ◌∷◌, refl, sym, ap, ◌∙◌, subst, arith, inl, inr}
use Rattle.std.specs.Prelude.{cond, fold, slice_get}
use Rattle.std.proofs.lemmas.Bool.{cases_order}
use Rattle.master_node.specs.of_life_runs.First.{leads_from}
use Rattle.master_node.specs.Forwards.{port_by}
use Rattle.master_node.specs.Ports.{ports_behind, ports_of, port_where, last_where}
use Rattle.master_node.specs.Shows.{is_live_lead}
use Rattle.master_node.specs.of_master_tour.Goes.{holds_at}
use Rattle.slave_server.specs.of_segment_plan.declared.service.Service as Plan
use Rattle.slave_server.specs.of_segment_plan.declared.slave.SlaveSpec.{SlaveSpec}

abbrev one_more : ℕ → SlaveSpec → ℕ
one_more last s = last + cond s.eoe 1 0

last_same : (serves : Bool) (last : ℕ) → last_where serves last ≡ last + cond serves 1 0
last_same true last = refl
last_same false last = omega arith

-- the slave at a place has this port
abbrev pub Finds : ℕ → List SlaveSpec → ℕ → Type 0
Finds last ss port = (k : ℕ) × (port_by (slice_get (ports_behind last ss) k) ≡ Some port)

later : (s : SlaveSpec) (ss : List SlaveSpec) (last port : ℕ) → Finds (last_where s.eoe last) ss port → Finds last (s ∷ ss) port
later s ss last port f = (suc f.0, f.1)

find : (ss : List SlaveSpec) (last port : ℕ) → suc last ≤ port → port ≤ fold one_more last ss → Finds last ss port
find [] last port low high = absurd (omega (arith, low, high))
find (s ∷ ss) last port low high = go (λ n less more. find ss n port less more) s.eoe refl
  where
    go : ((n : ℕ) → suc n ≤ port → port ≤ fold one_more n ss → Finds n ss port) → (b : Bool) → s.eoe ≡ b → Finds last (s ∷ ss) port
    go rest false e =
        later s ss last port (subst (λ n. Finds n ss port) (sym (ap (λ z. last_where z last) e))
        (rest last low (subst (λ n. port ≤ fold one_more n ss) (ap (λ z. last + cond z 1 0) e ∙ (let sum : last + 0 ≡ last = omega arith in sum)) high)))
    go rest true e = elim (cases_order port (last + 1)) [
      | inl same ↦ (zero, ap (λ z. port_by (Some (port_where z last))) e ∙ ap (λ n. Some n) (sym same))
      | inr (inl less) ↦ absurd (omega (arith, less, low))
      | inr (inr more) ↦ later s ss last port (subst (λ n. Finds n ss port) (sym (ap (λ z. last_where z last) e))
          (rest (last + 1) (omega (arith, more)) (subst (λ n. port ≤ fold one_more n ss) (ap (λ z. last + cond z 1 0) e) high)))
    ]

pub finds : (ss : List SlaveSpec) (port : ℕ) → 1 ≤ port → port < ports_of ss → Finds 0 ss port
finds ss port low high = find ss 0 port low (omega (arith, high))

-- a slave that has a port is live before the first frame
pub first_live : (services : List (ℕ × Plan.Service)) (place : ℕ) (ss : List SlaveSpec) (last k port : ℕ) → port_by (slice_get (ports_behind last ss) k) ≡ Some port → holds_at is_live_lead (leads_from services place ss) k ≡ true
first_live services place [] last k port e = absurd (cc)
first_live services place (s ∷ ss) last zero port e = refl
first_live services place (s ∷ ss) last (suc k) port e = first_live services (suc place) ss (last_where s.eoe last) k port e
