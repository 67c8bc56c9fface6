use Rattle.std.proofs.Common.{refl, sym, ◌∙◌, ◌<◌, Some, ◌∷◌, [], ap, arith, length}
use Rattle.master_node.proofs.Tells.{node_refl, node_told}
use Rattle.master_node.proofs.Servings.{tells_refl, tells_told}
use Rattle.master_node.proofs.Endings.{ends_other, ends_told}
use Rattle.life_runs.specs.of_mailbox_mail.declared.outcome.ReplyKind.{ReplyKind}
use Rattle.master_node.specs.Handed.{work_at}
use Rattle.master_node.specs.Besides.{answers, opened_where, stays, turned_does, turned_where}
use Rattle.master_node.specs.declared.event.Event.{Event}
use Rattle.master_node.proofs.Besides.{besides_one, does_as, does_none, does_then, does_told, so_here, state_is}
use Rattle.master_node.proofs.node.MasterNode.turned.Goals as goal

pub returns-in-Some-Cleared-clause-kept : goal.returns-in-Some-Cleared-clause-kept
returns-in-Some-Cleared-clause-kept c = node_told _ _ refl refl refl

pub returns-else-own-clause-kept : goal.returns-else-own-clause-kept
returns-else-own-clause-kept c = node_told _ _ refl refl refl

pub returns-in-Some-GivenUp-clause-kept : goal.returns-in-Some-GivenUp-clause-kept
returns-in-Some-GivenUp-clause-kept c = node_refl _

pub returns-in-None-clause-kept : goal.returns-in-None-clause-kept
returns-in-None-clause-kept c = node_refl _

pub returns-in-Some-Cleared-clause-tells : goal.returns-in-Some-Cleared-clause-tells
returns-in-Some-Cleared-clause-tells c = tells_told _ _ refl refl refl

pub returns-else-own-clause-tells : goal.returns-else-own-clause-tells
returns-else-own-clause-tells c = tells_told _ _ refl refl refl

pub returns-in-Some-GivenUp-clause-tells : goal.returns-in-Some-GivenUp-clause-tells
returns-in-Some-GivenUp-clause-tells c = tells_refl _

pub returns-in-None-clause-tells : goal.returns-in-None-clause-tells
returns-in-None-clause-tells c = tells_refl _

pub returns-in-Some-Cleared-clause-works : goal.returns-in-Some-Cleared-clause-works
returns-in-Some-Cleared-clause-works c = ends_told _ _ _ refl

pub returns-else-own-clause-works : goal.returns-else-own-clause-works
returns-else-own-clause-works c = ends_told _ _ _ refl

pub returns-in-Some-GivenUp-clause-works : goal.returns-in-Some-GivenUp-clause-works
returns-in-Some-GivenUp-clause-works c = ends_told _ _ _ refl

pub returns-in-None-clause-works : goal.returns-in-None-clause-works
returns-in-None-clause-works c = ends_told _ _ _ refl

pub returns-then-own-clause-works : goal.returns-then-own-clause-works
returns-then-own-clause-works c =
    ends_other _ c.args.place c.args.self.now.posts.items c.answered.new.self.posts.items c.answered.ensures.works (λ key e. (let state = state_is (work_at c.args.self.now.posts.items c.args.place) (sym c.has_state-own.ensures ∙ c.if-own.true) in let bad = sym state ∙ e in absurd (cc)))

pub returns-in-Some-Cleared-clause-told : goal.returns-in-Some-Cleared-clause-told
returns-in-Some-Cleared-clause-told c =
    let m = c.args.self.now in
    let place = c.args.place in
    let s = c.index.result.now in
    let w = work_at m.posts.items place in
    let l : place < length m.tour.stops.items = omega (arith, c.requires, m.paired, m.tour.stops.ok.0) in
    so_here (λ t v. turned_does place t v) place m _ s l c.index.ensures
    (does_as place _ (turned_does place s w) m _ ((λ i. record { told = Event.Cleared place (c.has_state-own.ensures i) ∷ []; work = w }) ∙ ap (λ z. turned_where place z w) (sym (c.in-Some-Cleared.is ∙ ap Some (rw c.in-Some-Cleared.is at c.in-Some-Cleared.field-0-is))))
    (does_told place (Event.Cleared place c.has_state-own.result ∷ []) m _ (besides_one m _ _ c.put.ensures.last c.put.ensures.few c.put.ensures.head (λ k. refl)) refl))

pub returns-else-own-clause-told : goal.returns-else-own-clause-told
returns-else-own-clause-told c =
    let m = c.args.self.now in
    let place = c.args.place in
    let s = c.index.result.now in
    let w = work_at m.posts.items place in
    let l : place < length m.tour.stops.items = omega (arith, c.requires, m.paired, m.tour.stops.ok.0) in
    so_here (λ t v. turned_does place t v) place m _ s l c.index.ensures
    (does_as place _ (turned_does place s w) m _ (ap (λ z. opened_where place z w) (sym (sym c.has_state-own.ensures ∙ c.if-own.false)) ∙ ap (λ z. turned_where place z w) (sym (c.in-Some-Opened.is ∙ ap Some (rw c.in-Some-Opened.is at c.in-Some-Opened.field-0-is))))
    (does_told place (Event.Opened place ∷ []) m _ (besides_one m _ _ c.put-in-Some-Opened.ensures.last c.put-in-Some-Opened.ensures.few c.put-in-Some-Opened.ensures.head (λ k. refl)) refl))

pub returns-then-own-clause-told : goal.returns-then-own-clause-told
returns-then-own-clause-told c =
    let m = c.args.self.now in
    let place = c.args.place in
    let s = c.index.result.now in
    let w = work_at m.posts.items place in
    let l : place < length m.tour.stops.items = omega (arith, c.requires, m.paired, m.tour.stops.ok.0) in
    so_here (λ t v. turned_does place t v) place m _ s l c.index.ensures
    (does_as place _ (turned_does place s w) m _ (ap (λ z. opened_where place z w) (sym (sym c.has_state-own.ensures ∙ c.if-own.true)) ∙ ap (λ z. turned_where place z w) (sym (c.in-Some-Opened.is ∙ ap Some (rw c.in-Some-Opened.is at c.in-Some-Opened.field-0-is))))
    (does_then place (record { told = Event.Opened place ∷ []; work = w }) (λ v. answers place ReplyKind.Done) m _ _ (does_told place (Event.Opened place ∷ []) m _ (besides_one m _ _ c.put-in-Some-Opened.ensures.last c.put-in-Some-Opened.ensures.few c.put-in-Some-Opened.ensures.head (λ k. refl)) refl) c.answered.ensures.told))

pub returns-in-Some-GivenUp-clause-told : goal.returns-in-Some-GivenUp-clause-told
returns-in-Some-GivenUp-clause-told c =
    let m = c.args.self.now in
    let place = c.args.place in
    let s = c.index.result.now in
    let w = work_at m.posts.items place in
    let l : place < length m.tour.stops.items = omega (arith, c.requires, m.paired, m.tour.stops.ok.0) in
    so_here (λ t v. turned_does place t v) place m m s l c.index.ensures
    (does_as place (stays w) (turned_does place s w) m m (ap (λ z. turned_where place z w) (sym (c.in-Some-GivenUp.is ∙ ap Some (rw c.in-Some-GivenUp.is at c.in-Some-GivenUp.field-0-is)))) (does_none place m m refl refl))

pub returns-in-None-clause-told : goal.returns-in-None-clause-told
returns-in-None-clause-told c =
    let m = c.args.self.now in
    let place = c.args.place in
    let s = c.index.result.now in
    let w = work_at m.posts.items place in
    let l : place < length m.tour.stops.items = omega (arith, c.requires, m.paired, m.tour.stops.ok.0) in
    so_here (λ t v. turned_does place t v) place m m s l c.index.ensures
    (does_as place (stays w) (turned_does place s w) m m (ap (λ z. turned_where place z w) (sym c.in-None.is)) (does_none place m m refl refl))
