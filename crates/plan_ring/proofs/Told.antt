-- What a reader tells of a plan rules out that a service has no room.
use Rattle.std.proofs.Common.{◌≡◌, ℕ, zero, suc, ◌+◌, ◌≤◌, ◌==◌, nat_le, Bool, true, false, All, Option, Some, None, List, [], ◌∷◌, length, refl, sym, ap, ◌∙◌, subst, arith, le-ltb, if◌then◌else◌}
use Rattle.std.specs.Prelude.{IfSome, slice_get, nat_lt}
use Rattle.std.proofs.lemmas.Bool.{eqb-true}
use Rattle.std.proofs.lemmas.List.Elements.{All-nil, All-cons, All-head, All-tail}
use Rattle.slave_server.specs.of_protocol_models.EoeClient as EoeClient
use Rattle.run_frames.specs.of_life_runs.First.{script_for}
use Rattle.run_frames.specs.of_master_hand.Spoken.{net}
use Rattle.scenario.specs.of_scenario_services.Suited.{Suits}
use Rattle.scenario.specs.of_scenario_services.Reading.{FitsSlave}
use Rattle.slave_server.specs.of_segment_plan.Bound.{smaller}
use Rattle.slave_server.specs.of_segment_plan.Sound.{IsService, IsAddressed}
use Rattle.slave_server.specs.of_segment_plan.declared.plan.Scenario.{Scenario}
use Rattle.slave_server.specs.of_segment_plan.declared.service.Service as Plan
use Rattle.slave_server.specs.of_segment_plan.declared.slave.SlaveSpec.{SlaveSpec}
use Rattle.plan_ring.specs.PlanRooms.{MayBegin, RowMayBegin, HasRoom}

some_none : {X : Type 0} (x : X) → Some x ≡ None → ⊥
some_none x e = cc

smaller_less : (s : SlaveSpec) → smaller s ≤ s.out_len
smaller_less s = go (nat_le s.out_len s.in_len) refl
  where
    go : (b : Bool) → nat_le s.out_len s.in_len ≡ b → (if b then s.out_len else s.in_len) ≤ s.out_len
    go true e = omega arith
    go false e = let more = Rattle.std.proofs.lemmas.Bool.leb-false s.out_len s.in_len e in omega (arith, more)

may : (s : SlaveSpec) (q : Plan.Service) → IsService q → Suits s q → MayBegin s.out_len q
may s (Plan.Service.Sdo service) is suits = some_none _
may s (Plan.Service.ReadFile name pass) is suits = some_none _
may s (Plan.Service.WriteFile name pass bytes) is suits = some_none _
may s (Plan.Service.ReadIdn drive idn elements) is suits = some_none _
may s (Plan.Service.WriteIdn drive idn elements bytes) is suits = some_none _
may s (Plan.Service.SetIp block) is suits = λ e.
    let room : nat_lt s.out_len (length block + 10) ≡ false = le-ltb s.out_len (length block + 10) (let less = smaller_less s in omega (arith, suits, less)) in
    some_none (net (EoeClient.set_ip block)) (sym (ap (λ (b : Bool). if b then None else Some (net (EoeClient.set_ip block))) room) ∙ e)
may s Plan.Service.GetIp is suits = some_none _
may s (Plan.Service.State target) is suits = tt
may s (Plan.Service.Forward packet) is suits = absurd is

row_may : (slaves : List SlaveSpec) (row : ℕ × Plan.Service) → IsService row.1 → FitsSlave slaves row → RowMayBegin slaves row
row_may slaves row is fits = at (slice_get slaves row.0) fits
  where
    at : (o : Option SlaveSpec) → IfSome o (λ s. Suits s row.1) → IfSome o (λ s. MayBegin s.out_len row.1)
    at None fits = tt
    at (Some s) fits = may s row.1 is fits

rows_may : (slaves : List SlaveSpec) (n : ℕ) (rows : List (ℕ × Plan.Service)) → All (IsAddressed n) rows → All (FitsSlave slaves) rows → All (RowMayBegin slaves) rows
rows_may slaves n [] is fits = All-nil (RowMayBegin slaves)
rows_may slaves n (row ∷ rows) is fits =
    All-cons (RowMayBegin slaves) row rows (row_may slaves row (All-head (IsAddressed n) row rows is).service (All-head (FitsSlave slaves) row rows fits)) (rows_may slaves n rows (All-tail (IsAddressed n) row rows is) (All-tail (FitsSlave slaves) row rows fits))

pub has_room : (plan : Scenario) → All (IsAddressed (length plan.slaves)) plan.services → All (FitsSlave plan.slaves) plan.services → HasRoom plan
has_room plan is fits = record { rows = rows_may plan.slaves (length plan.slaves) plan.services is fits }

-- each of a script is a row
module _ (slaves : List SlaveSpec) (place : ℕ) (s : SlaveSpec) (at : slice_get slaves place ≡ Some s) where
  pub script_may : (rows : List (ℕ × Plan.Service)) → All (RowMayBegin slaves) rows → (k : ℕ) (service : Plan.Service) → slice_get (script_for place rows) k ≡ Some service → MayBegin s.out_len service
  script_may [] all k service e = absurd (cc)
  script_may (row ∷ rows) all k service e = go (row.0 == place) refl k e (λ j f. script_may rows (All-tail (RowMayBegin slaves) row rows all) j service f)
    where
      here : (row.0 == place) ≡ true → MayBegin s.out_len row.1
      here is =
          let found : slice_get slaves row.0 ≡ Some s = ap (slice_get slaves) (eqb-true row.0 place is) ∙ at in
          subst (λ (o : Option SlaveSpec). IfSome o (λ slave. MayBegin slave.out_len row.1)) found (All-head (RowMayBegin slaves) row rows all)

      go : (b : Bool) → (row.0 == place) ≡ b → (k : ℕ) → slice_get (if b then row.1 ∷ script_for place rows else script_for place rows) k ≡ Some service → ((j : ℕ) → slice_get (script_for place rows) j ≡ Some service → MayBegin s.out_len service) → MayBegin s.out_len service
      go true is zero e later = let same : row.1 ≡ service = cc in subst (λ q. MayBegin s.out_len q) same (here is)
      go true is (suc k) e later = later k e
      go false is k e later = later k e
