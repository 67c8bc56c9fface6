-- Each service of the script of a serving's slave may begin.
use Rattle.std.proofs.Common.{◌≡◌, ℕ, suc, ◌+◌, Some, List, [], ◌∷◌, ap, ◌∙◌, sym, subst, arith}
use Rattle.std.specs.Prelude.{slice_get}
use Rattle.promised_run.proofs.Scripts.{AllMay, MayAll, lens_at}
use Rattle.run_promises.specs.of_life_runs.First.{AreApart, lens_of, script_for}
use Rattle.gateway_run.proofs.of_life_runs.First.{have_lens}
use Rattle.seen_slaves.specs.of_plan_ring.PlanRooms.{MayBegin}
use Rattle.run_promises.specs.of_segment_plan.declared.plan.Scenario.{Scenario}
use Rattle.run_promises.specs.of_segment_plan.declared.service.Service as Plan
use Rattle.run_promises.specs.of_segment_plan.declared.slave.SlaveSpec.{SlaveSpec}
use Rattle.seen_slaves.specs.of_served_rings.Rings.{AllServedAt, IsServedAt}
use Rattle.run_promises.specs.of_life_runs.Served.{Serves}
use Rattle.seen_slaves.specs.Eager.{leads_of}
use Rattle.run_promises.specs.of_slave_server.Serving.{Serving}
use Rattle.run_promises.specs.of_slave_node.Node.{Node}

module _ (plan : Scenario) (apart : AreApart plan.slaves) (law : (place : ℕ) (s : SlaveSpec) → slice_get plan.slaves place ≡ Some s → (k : ℕ) (service : Plan.Service) → slice_get (script_for place plan.services) k ≡ Some service → MayBegin s.out_len service) where
  may_one : (place : ℕ) (s : SlaveSpec) (w : Serves) → IsServedAt plan place s w → slice_get plan.slaves place ≡ Some s → MayAll (lens_of plan.slaves) w.lead
  may_one place s w x at k service e =
      let station : w.lead.lived.spot.station ≡ s.station = ap (λ z. z.station) x.spot in
      subst (λ n. MayBegin n service) (sym (ap (λ n. (lens_of plan.slaves n).out) station ∙ lens_at (lens_of plan.slaves) plan.slaves (have_lens plan.slaves apart) place s at))
      (law place s at k service (ap (λ z. slice_get z k) (sym x.script) ∙ e))

  pub may_all : (place : ℕ) (ss : List SlaveSpec) (ws : List Serves) (ns : List (Node Serving)) → AllServedAt plan place ss ws ns → ((i : ℕ) → slice_get plan.slaves (place + i) ≡ slice_get ss i) → AllMay (lens_of plan.slaves) (leads_of ws)
  may_all place [] [] [] x at = tt
  may_all place [] [] (n ∷ ns) x at = absurd x
  may_all place [] (w ∷ ws) ns x at = absurd x
  may_all place (s ∷ ss) [] ns x at = absurd x
  may_all place (s ∷ ss) (w ∷ ws) [] x at = absurd x
  may_all place (s ∷ ss) (w ∷ ws) (n ∷ ns) x at = (
    may_one place s w x.0 (ap (slice_get plan.slaves) (let sum : place ≡ place + 0 = omega arith in sum) ∙ at 0),
    may_all (suc place) ss ws ns x.1 (λ i. ap (slice_get plan.slaves) (let sum : suc place + i ≡ place + suc i = omega arith in sum) ∙ at (suc i)),
  )
