use Rattle.std.proofs.Common.{◌≤◌, ℕ, length, sym, ap, ◌∙◌, arith}
use Rattle.segment_ring.specs.Ring.{nodes_passed}
use Rattle.segment_ring.proofs.Rings.{all_met}
use Rattle.segment_ring.proofs.ring.meet_first.Goals as goal

pub returns-else-after-count-clause-met : goal.returns-else-after-count-clause-met
returns-else-after-count-clause-met g c =
    let few = c.if-after-count.false in
    let all = c.len-count.ensures in
    let le : length c.args.nodes.now ≤ c.args.after = omega (arith, few, all) in
    c.meet-else-after-count.ensures.met ∙ ap (λ (n : ℕ). nodes_passed g.N.Slave.passed n c.args.nodes.now c.args.frame.now.items) all
    ∙ sym (all_met g.N.Slave.passed c.args.nodes.now c.args.frame.now.items c.args.after le)
