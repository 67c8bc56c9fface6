use Rattle.std.proofs.Common.{◌≡◌, true, sym, ap, subst}
use Rattle.eoe_switch.specs.Switch.{Switched, learned_from, route_of}
use Rattle.master_node.specs.Ported.{are_queued}
use Rattle.master_node.proofs.Queued.{queued_behind}
use Rattle.master_node.proofs.lan.Lan.arrive.Goals as goal

pub invariant_of-self-clause-queued : goal.invariant_of-self-clause-queued
invariant_of-self-clause-queued c =
    let s = c.args.self.now.switch in
    let packet = c.args.packet in
    subst (λ (z : Switched). are_queued z.ports ≡ true) (sym (ap (λ z. z.switch) c.arrive.ensures.table))
    (queued_behind (route_of (learned_from s.learned c.args.port packet.items) c.args.port packet.items) packet 0 s.ports c.args.self.now.queued c.requires.long)
