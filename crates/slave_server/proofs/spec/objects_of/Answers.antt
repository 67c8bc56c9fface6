use Rattle.std.proofs.Common.{◌≡◌, ◌<◌, List, length, get_or, subst}
use Rattle.segment_plan.specs.declared.slave.ObjectSpec.{ObjectSpec}
use Rattle.slave_server.proofs.Objects.{takes_first, next_absent, takes_more}
use Rattle.slave_server.proofs.spec.objects_of.Goals as goal

pub loop-object-init : goal.loop-object-init
loop-object-init c = rw c.in_ok-objects.ensures (takes_first c.args.spec.now.objects c.args.spec.now.eoe c.requires.rising c.requires.objects)

pub insert-requires-clause-absent : goal.insert-requires-clause-absent
insert-requires-clause-absent c =
    let same = c.as_slice-object-items.ensures in
    let lt = subst (λ (os : List ObjectSpec). c.loop-object.object-index < length os) same c.loop-object-test.true in
    let is = subst (λ (os : List ObjectSpec). c.object-item.result ≡ get_or os c.loop-object.object-index c.object-item.result) same c.object-item.is in
    rw c.in_ok-copy.ensures (next_absent c.args.spec.now.objects c.args.spec.now.eoe c.loop-object.object-index c.object-item.result lt is c.loop-object.objects c.loop-object.invariant)

pub loop-object-preserved : goal.loop-object-preserved
loop-object-preserved c =
    let same = c.as_slice-object-items.ensures in
    let lt = subst (λ (os : List ObjectSpec). c.loop-object.object-index < length os) same c.loop-object-test.true in
    let is = subst (λ (os : List ObjectSpec). c.object-item.result ≡ get_or os c.loop-object.object-index c.object-item.result) same c.object-item.is in
    takes_more c.args.spec.now.objects c.args.spec.now.eoe c.loop-object.object-index c.object-item.result lt is c.loop-object.objects c.insert.new.self (rw (← c.in_ok-copy.ensures) c.in_ok-insert.ensures.placed) c.loop-object.invariant
