use Rattle.std.proofs.Common.{◌≡◌, [], Some, sym, subst, arith}
use Rattle.eoe_switch.specs.Switch.{queue_at}
use Rattle.master_node.specs.Forwards.{waiting_by}
use Rattle.master_node.proofs.Queued.{none_oldest, oldest_long}
use Rattle.master_node.proofs.lan.Lan.oldest.Goals as goal

pub returns-in_err-packet-clause-none : goal.returns-in_err-packet-clause-none
returns-in_err-packet-clause-none c = λ e.
    let s = c.args.self.now.switch in
    subst (λ o. waiting_by s o ≡ []) c.in_ok-port.ensures.is (none_oldest (queue_at s c.in_ok-port.port) (sym c.in_err-packet.ensures))

pub returns-then-len-lt-LEAST-clause-none : goal.returns-then-len-lt-LEAST-clause-none
returns-then-len-lt-LEAST-clause-none c = λ e.
    let long = oldest_long c.args.self.now.switch (Some c.in_ok-port.port) c.in_ok-packet.packet.now c.args.self.now.queued (sym c.in_ok-packet.ensures) in
    absurd (omega (arith, long, c.len.ensures, c.if-len-lt-LEAST.true))
