use Rattle.std.proofs.Common.{◌<◌, length, ap, ◌∙◌, arith}
use Rattle.segment_ring.proofs.Rings.{length_set, met_more, few_at, few_set}
use Rattle.segment_ring.proofs.ring.meet.Goals as goal

pub loop-at-preserved : goal.loop-at-preserved
loop-at-preserved g c =
    let same = c.loop-at.invariant.0 in
    let test = c.loop-at-test.true in
    let few = c.requires in
    let inside : c.loop-at.at < length c.loop-at.nodes = omega (arith, same, test, few) in (
      length_set c.loop-at.nodes c.loop-at.at c.pass.new.self ∙ same,
      c.loop-at.invariant.1 ∙ met_more g.N.Slave.passed c.args.count c.loop-at.at _ c.loop-at.nodes c.at_mut.result.now c.pass.new.self c.loop-at.frame.items c.pass.new.frame.items
          (omega arith) test inside c.at_mut.ensures.value c.pass.ensures.passed,
      λ most low. few_set g.N.Slave.handled c.loop-at.nodes c.loop-at.at most c.pass.new.self
          (let own = few_at g.N.Slave.handled c.loop-at.nodes c.loop-at.at most c.at_mut.result.now inside (c.loop-at.invariant.2 most low) in
          let kept = c.pass.ensures.handled in let here = ap g.N.Slave.handled c.at_mut.ensures.value in omega (arith, own, kept, here)) (c.loop-at.invariant.2 most low),
    )
