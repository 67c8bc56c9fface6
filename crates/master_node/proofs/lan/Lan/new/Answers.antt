use Rattle.std.proofs.Common.{◌≡◌, ◌+◌, ◌∙◌, refl, ap, arith, length, List, ℕ}
use Rattle.arrayvec.specs.ArrayVec.{ArrayVec}
use Rattle.eoe_switch.specs.Switch.{Switched, first_switch}
use Rattle.life_runs.specs.of_segment_plan.declared.slave.SlaveSpec.{SlaveSpec}
use Rattle.master_node.specs.Ported.{are_long, are_queued}
use Rattle.master_node.specs.Ports.{ports_of, ports_behind}
use Rattle.master_node.proofs.Happenings.{happened_none}
use Rattle.master_node.proofs.Ports.{long_all}
use Rattle.master_node.proofs.Queued.{queued_first}
use Rattle.master_node.proofs.lan.Lan.new.Goals as goal

pub invariant_of-result-2-clause-long : goal.invariant_of-result-2-clause-long
invariant_of-result-2-clause-long c =
    ap (λ (z : List (ArrayVec ℕ)). are_long z) (c.in_ok-host.ensures ∙ c.as_slice-2.ensures) ∙ long_all c.args.plan.now.host c.requires.laid.host

pub returns-clause-begins : goal.returns-clause-begins
returns-clause-begins c =
    let plan = c.args.plan.now in
    let many : c.ports_of-ports.result.1 + 1 ≡ ports_of plan.slaves = c.ports_of-ports.ensures.many ∙ ap (λ (z : List SlaveSpec). ports_of z) c.as_slice.ensures in
    happened_none (ports_of plan.slaves) plan.host _ (omega arith) (c.switch.view_is ∙ c.in_ok-switch.ensures.first ∙ ap (λ n. first_switch n) many)
    (ap (λ (z : Switched). length z.ports) c.switch.view_is ∙ c.in_ok-switch.ensures.ports ∙ many) (c.in_ok-host.ensures ∙ c.as_slice-2.ensures) refl

pub returns-clause-ports : goal.returns-clause-ports
returns-clause-ports c = c.ports_of-ports.ensures.each ∙ ap (λ (z : List SlaveSpec). ports_behind 0 z) c.as_slice.ensures

pub invariant_of-result-2-clause-queued : goal.invariant_of-result-2-clause-queued
invariant_of-result-2-clause-queued c = ap (λ (z : Switched). are_queued z.ports) (c.switch.view_is ∙ c.in_ok-switch.ensures.first) ∙ queued_first (c.ports_of-ports.result.1 + 1)
