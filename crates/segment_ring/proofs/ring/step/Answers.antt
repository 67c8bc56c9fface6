use Rattle.std.proofs.Common.{◌<◌, ◌+◌, length, ap, ◌∙◌, arith}
use Rattle.segment_ring.proofs.Rings.{length_set, rest_same, stepped_more, pace_at, few_here, few_taken}
use Rattle.segment_ring.proofs.ring.step.Goals as goal

pub step_one-requires-clause-pace : goal.step_one-requires-clause-pace
step_one-requires-clause-pace g c = pace_at c.args.paces.now c.loop-at.at c.loop-at-test.true c.requires.paces

pub step_one-requires-clause-few : goal.step_one-requires-clause-few
step_one-requires-clause-few g c =
    let same = c.loop-at.invariant.0 in
    let test = c.loop-at-test.true in
    let paced = c.requires.paced in
    let inside : c.loop-at.at < length c.loop-at.nodes = omega (arith, same, test, paced) in
    let low = few_here g.N.Slave.handled c.loop-at.nodes c.args.nodes.now c.loop-at.at (9223372036854775808 + c.args.number) c.at_mut.result.now inside c.loop-at.invariant.1 c.requires.few in
    let here = ap g.N.Slave.handled c.at_mut.ensures.value in
    let few = c.requires.number in
    omega (arith, low, here, few)

pub loop-at-preserved : goal.loop-at-preserved
loop-at-preserved g c =
    let same = c.loop-at.invariant.0 in
    let test = c.loop-at-test.true in
    let paced = c.requires.paced in
    let inside : c.loop-at.at < length c.loop-at.nodes = omega (arith, same, test, paced) in
    let low = few_here g.N.Slave.handled c.loop-at.nodes c.args.nodes.now c.loop-at.at (9223372036854775808 + c.args.number) c.at_mut.result.now inside c.loop-at.invariant.1 c.requires.few in
    let here = ap g.N.Slave.handled c.at_mut.ensures.value in
    let more = c.step_one.ensures.few in (
      length_set c.loop-at.nodes c.loop-at.at c.step_one.new.node ∙ same,
      rest_same c.loop-at.nodes c.args.nodes.now c.loop-at.at _ c.step_one.new.node (omega arith) c.loop-at.invariant.1,
      c.loop-at.invariant.2 ∙ stepped_more g.N.Slave.stepped c.args.paces.now c.args.number c.loop-at.at _ c.loop-at.nodes c.at_mut.result.now c.step_one.new.node (omega arith) test inside c.at_mut.ensures.value c.step_one.ensures.stepped,
      few_taken g.N.Slave.handled c.loop-at.nodes c.loop-at.at _ (9223372036854775808 + (c.args.number + 1)) c.step_one.new.node (omega arith) inside (omega (arith, low, here, more)) c.loop-at.invariant.3,
    )
