use Rattle.master_node.proofs.Tells.{node_refl}
use Rattle.master_node.proofs.Servings.{tells_refl}
use Rattle.std.proofs.Common.{◌<◌, length, arith, refl, ap, ◌∙◌, true, false, ◌∷◌, []}
use Rattle.std.specs.Prelude.{is_some, not}
use Rattle.master_node.proofs.Endings.{ends_free, ends_here, ends_told}
use Rattle.master_node.proofs.Downs.{here_is}
use Rattle.life_runs.specs.of_mailbox_mail.declared.outcome.ReplyKind.{ReplyKind}
use Rattle.master_node.specs.Besides.{answers, passed_does, stays}
use Rattle.master_node.specs.Handed.{work_at}
use Rattle.master_node.specs.declared.event.Event.{Event}
use Rattle.master_node.proofs.Besides.{besides_one, does_as, does_none, does_then, does_told, passed_none, passed_some, so_here}
use Rattle.master_node.proofs.node.MasterNode.passed.Goals as goal

pub returns-else-is_none-clause-kept : goal.returns-else-is_none-clause-kept
returns-else-is_none-clause-kept c = node_refl _

pub returns-else-is_none-clause-tells : goal.returns-else-is_none-clause-tells
returns-else-is_none-clause-tells c = tells_refl _

pub returns-then-is_none-clause-works : goal.returns-then-is_none-clause-works
returns-then-is_none-clause-works c =
    let m = c.args.self.now in
    let l : c.args.place < length m.tour.stops.items = omega (arith, c.requires, m.paired, m.tour.stops.ok.0) in
    ends_here _ c.args.place m.posts.items c.answered.new.self.posts.items c.answered.ensures.works (here_is (λ s. is_some s.side.passing) m.tour.stops.items c.args.place c.index.result.now false l c.index.ensures (c.is_none.ensures ∙ ap not c.if-is_none.true))

pub returns-else-is_none-clause-works : goal.returns-else-is_none-clause-works
returns-else-is_none-clause-works c =
    let m = c.args.self.now in
    let l : c.args.place < length m.tour.stops.items = omega (arith, c.requires, m.paired, m.tour.stops.ok.0) in
    ends_free _ c.args.place m.posts.items m.posts.items (λ key e. here_is (λ s. is_some s.side.passing) m.tour.stops.items c.args.place c.index.result.now true l c.index.ensures (c.is_none.ensures ∙ ap not c.if-is_none.false)) (ends_told _ _ _ refl)

pub returns-then-is_none-clause-told : goal.returns-then-is_none-clause-told
returns-then-is_none-clause-told c =
    let m = c.args.self.now in
    let n = c.answered.new.self in
    let place = c.args.place in
    let key = c.args.key in
    let s = c.index.result.now in
    let w = work_at m.posts.items place in
    let l : place < length m.tour.stops.items = omega (arith, c.requires, m.paired, m.tour.stops.ok.0) in
    so_here (λ t v. passed_does place key t v) place m _ s l c.index.ensures
    (does_as place _ (passed_does place key s w) m _ (passed_none place key s.side.passing w (c.is_none.ensures ∙ ap not c.if-is_none.true))
    (does_then place (answers place ReplyKind.Handed) (λ v. record { told = Event.GatewayDone key ∷ []; work = v }) m n _ c.answered.ensures.told (does_told place (Event.GatewayDone key ∷ []) n _ (besides_one n _ _ c.put.ensures.last c.put.ensures.few c.put.ensures.head (λ k. refl)) refl)))

pub returns-else-is_none-clause-told : goal.returns-else-is_none-clause-told
returns-else-is_none-clause-told c =
    let m = c.args.self.now in
    let place = c.args.place in
    let key = c.args.key in
    let s = c.index.result.now in
    let w = work_at m.posts.items place in
    let l : place < length m.tour.stops.items = omega (arith, c.requires, m.paired, m.tour.stops.ok.0) in
    so_here (λ t v. passed_does place key t v) place m m s l c.index.ensures
    (does_as place (stays w) (passed_does place key s w) m m (passed_some place key s.side.passing w (c.is_none.ensures ∙ ap not c.if-is_none.false)) (does_none place m m refl refl))
