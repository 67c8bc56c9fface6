use Rattle.std.proofs.Common.{◌≡◌, sym, subst, true, length, List, ℕ, Option}
use Rattle.master_node.specs.Ported.{are_ports}
use Rattle.master_node.proofs.Ports.{port_here, port_inside, port_behind}
use Rattle.master_node.proofs.lan.Lan.port.Goals as goal

pub returns-clause-inside : goal.returns-clause-inside
returns-clause-inside c =
    let n = length c.args.self.now.switch.ports in
    port_inside n _ (port_here n c.as_slice.result.now c.args.slave (subst (λ (z : List (Option ℕ)). are_ports n z ≡ true) (sym c.as_slice.ensures.value) c.args.self.now.ported))

pub returns-clause-behind : goal.returns-clause-behind
returns-clause-behind c =
    let n = length c.args.self.now.switch.ports in
    port_behind n _ (port_here n c.as_slice.result.now c.args.slave (subst (λ (z : List (Option ℕ)). are_ports n z ≡ true) (sym c.as_slice.ensures.value) c.args.self.now.ported))
