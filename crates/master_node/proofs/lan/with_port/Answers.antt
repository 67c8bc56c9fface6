use Rattle.std.proofs.Common.{◌≡◌, ◌+◌, ◌++◌, ◌∷◌, [], Bool, ap, ◌∙◌, sym, subst, refl, arith, true, None, Some, List, ℕ, Option}
use Rattle.master_node.specs.Ported.{are_ports}
use Rattle.master_node.specs.Ports.{port_where}
use Rattle.master_node.proofs.Ports.{ports_push, port_next}
use Rattle.master_node.proofs.lan.with_port.Goals as goal

pub returns-then-not-serves-clause-ports : goal.returns-then-not-serves-clause-ports
returns-then-not-serves-clause-ports c =
    subst (λ (z : List (Option ℕ)). are_ports (c.args.last + 1) z ≡ true) (sym c.push.ensures.items)
    (ports_push (c.args.last + 1) (c.args.last + 1) c.args.ports.now.items None (omega arith) c.requires.ports refl)

pub returns-clause-ports : goal.returns-clause-ports
returns-clause-ports c =
    subst (λ (z : List (Option ℕ)). are_ports (c.args.last + 1 + 1) z ≡ true) (sym c.push-2.ensures.items)
    (ports_push (c.args.last + 1) (c.args.last + 1 + 1) c.args.ports.now.items (Some (c.args.last + 1)) (omega arith) c.requires.ports (port_next (c.args.last + 1) (omega arith)))

pub returns-then-not-serves-clause-is : goal.returns-then-not-serves-clause-is
returns-then-not-serves-clause-is c = λ room. c.push.ensures.items ∙ ap (λ (b : Bool). c.args.ports.now.items ++ port_where b c.args.last ∷ []) (sym c.if-not-serves.true)

pub returns-clause-is : goal.returns-clause-is
returns-clause-is c = λ room. c.push-2.ensures.items ∙ ap (λ (b : Bool). c.args.ports.now.items ++ port_where b c.args.last ∷ []) (sym c.if-not-serves.false)
