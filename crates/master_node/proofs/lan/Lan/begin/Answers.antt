use Rattle.std.proofs.Common.{refl, sym, ap, ◌∙◌, ◌≡◌, true, subst}
use Rattle.std.specs.Prelude.{slice_get}
use Rattle.master_node.specs.Begins.{oldest_by}
use Rattle.master_node.specs.Forwards.{port_by}
use Rattle.master_node.proofs.Begins.{takes_one, takes_none}
use Rattle.master_node.proofs.Forwards.{taken_from, none_from, fewer_from}
use Rattle.master_node.proofs.Happenings.{happens_none, begun_goes}
use Rattle.master_node.proofs.Made.{makes_one, makes_none}
use Rattle.eoe_switch.specs.Switch.{Switched}
use Rattle.master_node.specs.Ported.{are_queued}
use Rattle.master_node.proofs.Queued.{queued_begun}
use Rattle.master_node.proofs.lan.Lan.begin.Goals as goal

pub returns-in-Some-clause-goes_on : goal.returns-in-Some-clause-goes_on
returns-in-Some-clause-goes_on c = taken_from _ _ _ c.in-Some.port (sym c.in-Some.ensures.is) c.begun.ensures.goes_on

pub returns-in-Some-clause-happens : goal.returns-in-Some-clause-happens
returns-in-Some-clause-happens c = begun_goes c.in-Some.port _ _ c.in-Some.ensures.inside c.begun.ensures.goes_on c.begun.ensures.ports refl refl c.put.ensures.few c.put.ensures.all

pub returns-in-Some-clause-made : goal.returns-in-Some-clause-made
returns-in-Some-clause-made c = makes_one _ _ _ tt refl c.put.ensures.all c.put.ensures.full

pub returns-in-Some-clause-takes : goal.returns-in-Some-clause-takes
returns-in-Some-clause-takes c =
    let s = c.args.self.now.switch in
    takes_one _ _ _ _ refl c.put.ensures.all c.begun.ensures.goes_on (ap (λ z. oldest_by s z) c.in-Some.ensures.is)

pub returns-in_default-clause-goes_on : goal.returns-in_default-clause-goes_on
returns-in_default-clause-goes_on c = none_from c.args.self.now.switch _ (sym c.port.ensures.is ∙ c.in_default.is)

pub returns-in_default-clause-happens : goal.returns-in_default-clause-happens
returns-in_default-clause-happens c = happens_none 1 _ _ refl

pub returns-in_default-clause-made : goal.returns-in_default-clause-made
returns-in_default-clause-made c = makes_none _ _ refl

pub returns-in_default-clause-takes : goal.returns-in_default-clause-takes
returns-in_default-clause-takes c =
    let s = c.args.self.now.switch in
    takes_none _ _ _ (ap (λ z. oldest_by s z) (sym c.in_default.is ∙ c.port.ensures.is)) refl

pub returns-in-Some-clause-fewer : goal.returns-in-Some-clause-fewer
returns-in-Some-clause-fewer c = λ k e. fewer_from c.args.self.now.switch _ (port_by (slice_get c.args.self.now.ports.items k)) c.in-Some.port c.begun.ensures.goes_on e

pub returns-in_default-clause-fewer : goal.returns-in_default-clause-fewer
returns-in_default-clause-fewer c = λ k e. e

pub invariant_of-self-clause-queued : goal.invariant_of-self-clause-queued
invariant_of-self-clause-queued c = subst (λ (z : Switched). are_queued z.ports ≡ true) (sym c.begun.ensures.goes_on) (queued_begun c.args.self.now.switch c.in-Some.port c.args.self.now.queued)
