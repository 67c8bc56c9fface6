use Rattle.std.proofs.Common.{refl, ◌<◌, ap, arith, length, sym, ◌∙◌}
use Rattle.master_node.proofs.Tells.{node_refl}
use Rattle.master_node.proofs.Servings.{tells_refl}
use Rattle.master_node.proofs.Endings.{ends_other, ends_told}
use Rattle.master_node.specs.Besides.{answered_does, answers, complete_does, stays}
use Rattle.master_node.specs.Handed.{work_at}
use Rattle.master_node.proofs.Besides.{does_as, does_none, so_here}
use Rattle.master_node.proofs.node.MasterNode.complete.Goals as goal

pub returns-in_default-clause-kept : goal.returns-in_default-clause-kept
returns-in_default-clause-kept c = node_refl _

pub returns-in_default-clause-tells : goal.returns-in_default-clause-tells
returns-in_default-clause-tells c = tells_refl _

pub returns-in-Some-clause-works : goal.returns-in-Some-clause-works
returns-in-Some-clause-works c = λ n. ends_other _ c.args.place c.args.self.now.posts.items c.answered.new.self.posts.items c.answered.ensures.works n

pub returns-in_default-clause-works : goal.returns-in_default-clause-works
returns-in_default-clause-works c = λ n. ends_told _ _ _ refl

pub returns-in-Some-clause-told : goal.returns-in-Some-clause-told
returns-in-Some-clause-told c =
    let m = c.args.self.now in
    let place = c.args.place in
    let s = c.index.result.now in
    let w = work_at m.posts.items place in
    let l : place < length m.tour.stops.items = omega (arith, c.requires, m.paired, m.tour.stops.ok.0) in
    so_here (λ t v. complete_does place t v) place m c.answered.new.self s l c.index.ensures
    (does_as place (answers place c.in-Some.kind) (complete_does place s w) m c.answered.new.self (ap (λ z. answered_does place z w) (sym c.in-Some.is ∙ c.answer.ensures.kept)) c.answered.ensures.told)

pub returns-in_default-clause-told : goal.returns-in_default-clause-told
returns-in_default-clause-told c =
    let m = c.args.self.now in
    let place = c.args.place in
    let s = c.index.result.now in
    let w = work_at m.posts.items place in
    let l : place < length m.tour.stops.items = omega (arith, c.requires, m.paired, m.tour.stops.ok.0) in
    so_here (λ t v. complete_does place t v) place m m s l c.index.ensures
    (does_as place (stays w) (complete_does place s w) m m (ap (λ z. answered_does place z w) (sym c.in_default.is ∙ c.answer.ensures.kept)) (does_none place m m refl refl))
