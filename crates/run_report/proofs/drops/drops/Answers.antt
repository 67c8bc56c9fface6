use Rattle.std.proofs.Common.{arith}
use Rattle.run_book.specs.Ports.{ports_of}
use Rattle.run_report.proofs.Dropped.{drops_of_switched, none_left}
use Rattle.run_report.proofs.drops.drops.Goals as goal

pub returns : goal.returns
returns c =
    let rest = c.loop-event.invariant.rest in
    let all = drops_of_switched (ports_of c.args.slaves.now) c.args.events.now in
    let none = none_left c.loop-event.switch c.args.events.now c.loop-event.event-index c.loop-event-test.false in
    omega (arith, rest, all, none)
