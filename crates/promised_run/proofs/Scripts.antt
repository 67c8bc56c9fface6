-- Each service of a slave's script may begin.
use Rattle.std.proofs.Common.{◌≡◌, ℕ, zero, suc, ◌+◌, Option, Some, None, List, [], ◌∷◌, refl, sym, ap, ◌∙◌, subst, arith}
use Rattle.std.specs.Prelude.{slice_get, ⊤}
use Rattle.seen_slaves.specs.of_frame_view.View.{Lens}
use Rattle.run_promises.specs.of_life_runs.First.{AreApart, HaveLens, lens_of, script_for}
use Rattle.gateway_run.proofs.of_life_runs.First.{have_lens}
use Rattle.run_promises.specs.of_life_runs.Led.{Leads}
use Rattle.run_promises.specs.of_master_node.Starts.{NeverBegins}
use Rattle.seen_slaves.specs.of_plan_ring.Lives.{AllShown, IsShown}
use Rattle.seen_slaves.specs.of_plan_ring.Plan.{PlanMember}
use Rattle.run_promises.specs.of_segment_plan.declared.plan.Scenario.{Scenario}
use Rattle.run_promises.specs.of_segment_plan.declared.service.Service as Plan
use Rattle.run_promises.specs.of_segment_plan.declared.slave.SlaveSpec.{SlaveSpec}
use Rattle.seen_slaves.specs.of_plan_ring.PlanRooms.{MayBegin}

-- a slave's services, with the room of its mailbox 0
abbrev pub MayAll : (ℕ → Lens) → Leads → Type 0
MayAll lens a = (k : ℕ) (service : Plan.Service) → slice_get a.script k ≡ Some service → MayBegin (lens a.lived.spot.station).out service

abbrev pub AllMay : (ℕ → Lens) → List Leads → Type 0
AllMay lens [] = ⊤
AllMay lens (a ∷ as') = MayAll lens a × AllMay lens as'

-- the length of a mailbox at its station
pub lens_at : (lens : ℕ → Lens) (ss : List SlaveSpec) → HaveLens lens ss → (k : ℕ) (s : SlaveSpec) → slice_get ss k ≡ Some s → (lens s.station).out ≡ s.out_len
lens_at lens [] h k s e = absurd (let no : None ≡ Some s = e in cc)
lens_at lens (t ∷ ss) h zero s e = let same : t ≡ s = (let both : Some t ≡ Some s = e in cc) in subst (λ (z : SlaveSpec). (lens z.station).out ≡ z.out_len) same h.0.0
lens_at lens (t ∷ ss) h (suc k) s e = lens_at lens ss h.1 k s e

module _ (plan : Scenario) (apart : AreApart plan.slaves) (law : (place : ℕ) (s : SlaveSpec) → slice_get plan.slaves place ≡ Some s → (k : ℕ) (service : Plan.Service) → slice_get (script_for place plan.services) k ≡ Some service → MayBegin s.out_len service) where
  may_one : (place : ℕ) (s : SlaveSpec) (m : PlanMember) (a : Leads) → IsShown plan place s m a → slice_get plan.slaves place ≡ Some s → MayAll (lens_of plan.slaves) a
  may_one place s m a x at k service e =
      let station : a.lived.spot.station ≡ s.station = ap (λ l. l.spot.station) (sym x.lived) ∙ ap (λ z. z.station) x.is.spot in
      subst (λ n. MayBegin n service) (sym (ap (λ n. (lens_of plan.slaves n).out) station ∙ lens_at (lens_of plan.slaves) plan.slaves (have_lens plan.slaves apart) place s at))
      (law place s at k service (ap (λ z. slice_get z k) (sym x.script) ∙ e))

  pub may_all : (place : ℕ) (ss : List SlaveSpec) (ms : List PlanMember) (as' : List Leads) → AllShown plan place ss ms as' → ((i : ℕ) → slice_get plan.slaves (place + i) ≡ slice_get ss i) → AllMay (lens_of plan.slaves) as'
  may_all place [] [] [] x at = tt
  may_all place [] [] (a ∷ as') x at = absurd x
  may_all place [] (m ∷ ms) as' x at = absurd x
  may_all place (s ∷ ss) [] as' x at = absurd x
  may_all place (s ∷ ss) (m ∷ ms) [] x at = absurd x
  may_all place (s ∷ ss) (m ∷ ms) (a ∷ as') x at = (
    may_one place s m a x.0 (ap (slice_get plan.slaves) (let sum : place ≡ place + 0 = omega arith in sum) ∙ at 0),
    may_all (suc place) ss ms as' x.1 (λ i. ap (slice_get plan.slaves) (let sum : suc place + i ≡ place + suc i = omega arith in sum) ∙ at (suc i)),
  )

-- so one that never begins is none
pub none_left : (room : ℕ) (next : Option Plan.Service) → ((service : Plan.Service) → next ≡ Some service → MayBegin room service) → NeverBegins room next → next ≡ None
none_left room None may never = refl
none_left room (Some (Plan.Service.Sdo service)) may never = absurd (may _ refl never)
none_left room (Some (Plan.Service.ReadFile name pass)) may never = absurd (may _ refl never)
none_left room (Some (Plan.Service.WriteFile name pass bytes)) may never = absurd (may _ refl never)
none_left room (Some (Plan.Service.ReadIdn drive idn elements)) may never = absurd (may _ refl never)
none_left room (Some (Plan.Service.WriteIdn drive idn elements bytes)) may never = absurd (may _ refl never)
none_left room (Some (Plan.Service.SetIp block)) may never = absurd (may _ refl never)
none_left room (Some Plan.Service.GetIp) may never = absurd (may _ refl never)
none_left room (Some (Plan.Service.State target)) may never = absurd never
none_left room (Some (Plan.Service.Forward packet)) may never = absurd (may _ refl never)
