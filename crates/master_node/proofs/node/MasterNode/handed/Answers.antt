use Rattle.std.proofs.Common.{refl, ◌<◌, ap, arith, length, sym, ◌∙◌}
use Rattle.master_node.proofs.Tells.{node_refl}
use Rattle.master_node.proofs.Servings.{tells_refl}
use Rattle.master_node.proofs.Endings.{ends_other, ends_told}
use Rattle.life_runs.specs.of_mailbox_mail.declared.outcome.ReplyKind.{ReplyKind}
use Rattle.master_node.specs.Besides.{answers, handed_does, handed_where, stays}
use Rattle.master_node.specs.Handed.{work_at}
use Rattle.master_node.proofs.Besides.{does_as, does_none, so_here}
use Rattle.master_node.proofs.node.MasterNode.handed.Goals as goal

pub returns-else-is_free-clause-kept : goal.returns-else-is_free-clause-kept
returns-else-is_free-clause-kept c = node_refl _

pub returns-else-is_free-clause-tells : goal.returns-else-is_free-clause-tells
returns-else-is_free-clause-tells c = tells_refl _

pub returns-then-is_free-clause-works : goal.returns-then-is_free-clause-works
returns-then-is_free-clause-works c = λ n. ends_other _ c.args.place c.args.self.now.posts.items c.answered.new.self.posts.items c.answered.ensures.works n

pub returns-else-is_free-clause-works : goal.returns-else-is_free-clause-works
returns-else-is_free-clause-works c = λ n. ends_told _ _ _ refl

pub returns-then-is_free-clause-told : goal.returns-then-is_free-clause-told
returns-then-is_free-clause-told c =
    let m = c.args.self.now in
    let place = c.args.place in
    let s = c.index.result.now in
    let w = work_at m.posts.items place in
    let l : place < length m.tour.stops.items = omega (arith, c.requires, m.paired, m.tour.stops.ok.0) in
    so_here (λ t v. handed_does place t v) place m c.answered.new.self s l c.index.ensures
    (does_as place (answers place ReplyKind.Handed) (handed_does place s w) m c.answered.new.self (ap (λ z. handed_where place z w) (sym c.if-is_free.true ∙ c.is_free.ensures.is)) c.answered.ensures.told)

pub returns-else-is_free-clause-told : goal.returns-else-is_free-clause-told
returns-else-is_free-clause-told c =
    let m = c.args.self.now in
    let place = c.args.place in
    let s = c.index.result.now in
    let w = work_at m.posts.items place in
    let l : place < length m.tour.stops.items = omega (arith, c.requires, m.paired, m.tour.stops.ok.0) in
    so_here (λ t v. handed_does place t v) place m m s l c.index.ensures
    (does_as place (stays w) (handed_does place s w) m m (ap (λ z. handed_where place z w) (sym c.if-is_free.false ∙ c.is_free.ensures.is)) (does_none place m m refl refl))
