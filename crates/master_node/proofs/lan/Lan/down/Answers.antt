use Rattle.std.proofs.Common.{refl, true, sym, ap, ◌∙◌, ◌≡◌, subst}
use Rattle.master_node.specs.Downs.{down_by}
use Rattle.master_node.proofs.Downs.{lists_one, lists_none}
use Rattle.master_node.proofs.Happenings.{down_goes}
use Rattle.eoe_switch.specs.Switch.{Switched}
use Rattle.master_node.specs.Ported.{are_queued}
use Rattle.master_node.proofs.Queued.{queued_down}
use Rattle.master_node.proofs.lan.Lan.down.Goals as goal

pub returns-in-Some-clause-happens : goal.returns-in-Some-clause-happens
returns-in-Some-clause-happens c = down_goes c.in-Some.port _ _ c.in-Some.ensures.inside c.down.ensures.goes_on c.down.ensures.ports refl refl c.put.ensures.few c.put.ensures.all

pub returns-in-Some-clause-listed : goal.returns-in-Some-clause-listed
returns-in-Some-clause-listed c = lists_one _ _ _ _ (ap (λ z. down_by z true) (sym c.in-Some.ensures.is)) refl c.put.ensures.all

pub returns-in_default-clause-listed : goal.returns-in_default-clause-listed
returns-in_default-clause-listed c = lists_none _ _ _ (ap (λ z. down_by z true) (sym c.port.ensures.is ∙ c.in_default.is)) refl

pub invariant_of-self-clause-queued : goal.invariant_of-self-clause-queued
invariant_of-self-clause-queued c = subst (λ (z : Switched). are_queued z.ports ≡ true) (sym c.down.ensures.goes_on) (queued_down c.args.self.now.switch c.in-Some.port c.args.self.now.queued)
