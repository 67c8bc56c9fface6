use Rattle.std.proofs.Common.{◌∙◌, ◌-◌, drop, arith}
use Rattle.ethercat_places.proofs.Walking.{walk_begins, walk_ends, walk_on, step_size}
use Rattle.ethercat_places.proofs.frame.walk_over.Goals as goal

pub datagrams-init : goal.datagrams-init
datagrams-init c = record { inside = omega arith; few = omega arith; walk = walk_begins _ _ }

pub returns-in-End : goal.returns-in-End
returns-in-End c = c.ended.ensures ∙ walk_ends _ _ _ _ _ c.datagrams.invariant.walk c.in-End.ensures

pub datagrams-preserved : goal.datagrams-preserved
datagrams-preserved c =
    let s = step_size (c.args.size - c.datagrams.at) c.in-On.step (drop c.datagrams.at c.args.octets.now) c.in-On.ensures in
    let inside = c.datagrams.invariant.inside in
    let few = c.datagrams.invariant.few in
    record {
      inside = omega arith;
      few = omega arith;
      walk = walk_on _ _ _ _ _ c.datagrams.invariant.walk c.in-On.ensures;
    }
