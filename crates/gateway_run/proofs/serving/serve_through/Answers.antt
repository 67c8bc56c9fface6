use Rattle.std.proofs.Common.{◌≡◌}
use Rattle.std.specs.Prelude.{Err}
use Rattle.run_record.proofs.Underway.{has_frames}
use Rattle.gateway_run.specs.Serving.{told}
use Rattle.gateway_run.specs.declared.stop.Stop.TheVariants as stops
use Rattle.gateway_run.proofs.Ended.{first_serving, served, faulted, fault_of, cut_of}
use Rattle.gateway_run.proofs.serving.serve_through.Goals as goal

pub finish-requires : goal.finish-requires
finish-requires g c = (c.in-Ok.ensures.goes c.args.plan.now c.args.count (told g.P.Port.heard g.P.Port.sent g.P.Port.over g.P.Port.port_faults c.args.port.now)
    (first_serving c.args.plan.now c.args.count (told g.P.Port.heard g.P.Port.sent g.P.Port.over g.P.Port.port_faults c.args.port.now) c.in_ok-serving.serving c.args.book.now c.in_ok-serving.ensures.session c.in_ok-serving.ensures.serves c.in_ok-serving.ensures.switch c.in_ok-serving.ensures.requests c.in_ok-serving.ensures.outbox c.in_ok-serving.ensures.count c.in_ok-serving.ensures.over c.requires.new c.ranges.count.fits c.requires.plan)).on.underway.slaves

pub finish-requires-in-Err-PortFault : goal.finish-requires-in-Err-PortFault
finish-requires-in-Err-PortFault g c =
    let is = c.in-Err-PortFault.is in
    let so = c.in-Err-PortFault.field-0-is in
    let e : c.turns.result ≡ Err stops.PortFault = cc in
    let h = fault_of c.args.plan.now c.args.count (told g.P.Port.heard g.P.Port.sent g.P.Port.over g.P.Port.port_faults c.args.port.now) (told g.P.Port.heard g.P.Port.sent g.P.Port.over g.P.Port.port_faults c.turns.new.port) c.turns.new.serving c.turns.new.book c.turns.result e (c.turns.ensures.goes c.args.plan.now c.args.count (told g.P.Port.heard g.P.Port.sent g.P.Port.over g.P.Port.port_faults c.args.port.now)
    (first_serving c.args.plan.now c.args.count (told g.P.Port.heard g.P.Port.sent g.P.Port.over g.P.Port.port_faults c.args.port.now) c.in_ok-serving.serving c.args.book.now c.in_ok-serving.ensures.session c.in_ok-serving.ensures.serves c.in_ok-serving.ensures.switch c.in_ok-serving.ensures.requests c.in_ok-serving.ensures.outbox c.in_ok-serving.ensures.count c.in_ok-serving.ensures.over c.requires.new c.ranges.count.fits c.requires.plan)) in
    h.on.underway.slaves

pub returns-in-Err-NoMemory-clause-frames : goal.returns-in-Err-NoMemory-clause-frames
returns-in-Err-NoMemory-clause-frames g c =
    let is = c.in-Err-NoMemory.is in
    let so = c.in-Err-NoMemory.field-0-is in
    let e : c.turns.result ≡ Err stops.NoMemory = cc in
    let h = cut_of c.args.plan.now c.args.count (told g.P.Port.heard g.P.Port.sent g.P.Port.over g.P.Port.port_faults c.args.port.now) (told g.P.Port.heard g.P.Port.sent g.P.Port.over g.P.Port.port_faults c.turns.new.port) c.turns.new.serving c.turns.new.book c.turns.result e (c.turns.ensures.goes c.args.plan.now c.args.count (told g.P.Port.heard g.P.Port.sent g.P.Port.over g.P.Port.port_faults c.args.port.now)
    (first_serving c.args.plan.now c.args.count (told g.P.Port.heard g.P.Port.sent g.P.Port.over g.P.Port.port_faults c.args.port.now) c.in_ok-serving.serving c.args.book.now c.in_ok-serving.ensures.session c.in_ok-serving.ensures.serves c.in_ok-serving.ensures.switch c.in_ok-serving.ensures.requests c.in_ok-serving.ensures.outbox c.in_ok-serving.ensures.count c.in_ok-serving.ensures.over c.requires.new c.ranges.count.fits c.requires.plan)) in
    h

pub returns-in-Ok-clause-frames : goal.returns-in-Ok-clause-frames
returns-in-Ok-clause-frames g c =
    has_frames c.args.plan.now c.args.count c.turns.new.serving.session c.turns.new.book c.finish.new.book (c.in-Ok.ensures.goes c.args.plan.now c.args.count (told g.P.Port.heard g.P.Port.sent g.P.Port.over g.P.Port.port_faults c.args.port.now)
    (first_serving c.args.plan.now c.args.count (told g.P.Port.heard g.P.Port.sent g.P.Port.over g.P.Port.port_faults c.args.port.now) c.in_ok-serving.serving c.args.book.now c.in_ok-serving.ensures.session c.in_ok-serving.ensures.serves c.in_ok-serving.ensures.switch c.in_ok-serving.ensures.requests c.in_ok-serving.ensures.outbox c.in_ok-serving.ensures.count c.in_ok-serving.ensures.over c.requires.new c.ranges.count.fits c.requires.plan)).on.underway
    c.finish.ensures.frames c.finish.ensures.switch

pub returns-in-Ok-clause-served : goal.returns-in-Ok-clause-served
returns-in-Ok-clause-served g c =
    served c.args.plan.now c.args.count (told g.P.Port.heard g.P.Port.sent g.P.Port.over g.P.Port.port_faults c.args.port.now) (told g.P.Port.heard g.P.Port.sent g.P.Port.over g.P.Port.port_faults c.turns.new.port) c.turns.new.serving c.turns.new.book c.finish.new.book c.in-Ok.ending c.finish.result c.requires.some
    (c.in-Ok.ensures.goes c.args.plan.now c.args.count (told g.P.Port.heard g.P.Port.sent g.P.Port.over g.P.Port.port_faults c.args.port.now)
    (first_serving c.args.plan.now c.args.count (told g.P.Port.heard g.P.Port.sent g.P.Port.over g.P.Port.port_faults c.args.port.now) c.in_ok-serving.serving c.args.book.now c.in_ok-serving.ensures.session c.in_ok-serving.ensures.serves c.in_ok-serving.ensures.switch c.in_ok-serving.ensures.requests c.in_ok-serving.ensures.outbox c.in_ok-serving.ensures.count c.in_ok-serving.ensures.over c.requires.new c.ranges.count.fits c.requires.plan))
    c.finish.ensures.frames c.finish.ensures.same c.finish.ensures.grams c.finish.ensures.replies c.finish.ensures.serving c.finish.ensures.many c.finish.ensures.rows c.finish.ensures.answers c.in-Ok.ensures.ends c.in-Ok.ensures.whole c.in-Ok.ensures.rests
    (c.in-Ok.ensures.left c.args.plan.now c.args.count (told g.P.Port.heard g.P.Port.sent g.P.Port.over g.P.Port.port_faults c.args.port.now)
    (first_serving c.args.plan.now c.args.count (told g.P.Port.heard g.P.Port.sent g.P.Port.over g.P.Port.port_faults c.args.port.now) c.in_ok-serving.serving c.args.book.now c.in_ok-serving.ensures.session c.in_ok-serving.ensures.serves c.in_ok-serving.ensures.switch c.in_ok-serving.ensures.requests c.in_ok-serving.ensures.outbox c.in_ok-serving.ensures.count c.in_ok-serving.ensures.over c.requires.new c.ranges.count.fits c.requires.plan))
    c.in-Ok.ensures.empty

pub returns-in-Err-PortFault-clause-frames : goal.returns-in-Err-PortFault-clause-frames
returns-in-Err-PortFault-clause-frames g c =
    let is = c.in-Err-PortFault.is in
    let so = c.in-Err-PortFault.field-0-is in
    let e : c.turns.result ≡ Err stops.PortFault = cc in
    let h = fault_of c.args.plan.now c.args.count (told g.P.Port.heard g.P.Port.sent g.P.Port.over g.P.Port.port_faults c.args.port.now) (told g.P.Port.heard g.P.Port.sent g.P.Port.over g.P.Port.port_faults c.turns.new.port) c.turns.new.serving c.turns.new.book c.turns.result e (c.turns.ensures.goes c.args.plan.now c.args.count (told g.P.Port.heard g.P.Port.sent g.P.Port.over g.P.Port.port_faults c.args.port.now)
    (first_serving c.args.plan.now c.args.count (told g.P.Port.heard g.P.Port.sent g.P.Port.over g.P.Port.port_faults c.args.port.now) c.in_ok-serving.serving c.args.book.now c.in_ok-serving.ensures.session c.in_ok-serving.ensures.serves c.in_ok-serving.ensures.switch c.in_ok-serving.ensures.requests c.in_ok-serving.ensures.outbox c.in_ok-serving.ensures.count c.in_ok-serving.ensures.over c.requires.new c.ranges.count.fits c.requires.plan)) in
    has_frames c.args.plan.now c.args.count c.turns.new.serving.session c.turns.new.book c.finish-in-Err-PortFault.new.book h.on.underway
    c.finish-in-Err-PortFault.ensures.frames c.finish-in-Err-PortFault.ensures.switch

pub returns-in-Err-PortFault-clause-served : goal.returns-in-Err-PortFault-clause-served
returns-in-Err-PortFault-clause-served g c =
    let is = c.in-Err-PortFault.is in
    let so = c.in-Err-PortFault.field-0-is in
    let e : c.turns.result ≡ Err stops.PortFault = cc in
    let h = fault_of c.args.plan.now c.args.count (told g.P.Port.heard g.P.Port.sent g.P.Port.over g.P.Port.port_faults c.args.port.now) (told g.P.Port.heard g.P.Port.sent g.P.Port.over g.P.Port.port_faults c.turns.new.port) c.turns.new.serving c.turns.new.book c.turns.result e (c.turns.ensures.goes c.args.plan.now c.args.count (told g.P.Port.heard g.P.Port.sent g.P.Port.over g.P.Port.port_faults c.args.port.now)
    (first_serving c.args.plan.now c.args.count (told g.P.Port.heard g.P.Port.sent g.P.Port.over g.P.Port.port_faults c.args.port.now) c.in_ok-serving.serving c.args.book.now c.in_ok-serving.ensures.session c.in_ok-serving.ensures.serves c.in_ok-serving.ensures.switch c.in_ok-serving.ensures.requests c.in_ok-serving.ensures.outbox c.in_ok-serving.ensures.count c.in_ok-serving.ensures.over c.requires.new c.ranges.count.fits c.requires.plan)) in
    faulted c.args.plan.now c.args.count (told g.P.Port.heard g.P.Port.sent g.P.Port.over g.P.Port.port_faults c.args.port.now) (told g.P.Port.heard g.P.Port.sent g.P.Port.over g.P.Port.port_faults c.turns.new.port) c.turns.new.serving c.turns.new.book c.finish-in-Err-PortFault.new.book c.finish-in-Err-PortFault.result c.requires.some
    h
    c.finish-in-Err-PortFault.ensures.frames c.finish-in-Err-PortFault.ensures.same c.finish-in-Err-PortFault.ensures.grams c.finish-in-Err-PortFault.ensures.replies c.finish-in-Err-PortFault.ensures.serving c.finish-in-Err-PortFault.ensures.many c.finish-in-Err-PortFault.ensures.rows c.finish-in-Err-PortFault.ensures.answers
