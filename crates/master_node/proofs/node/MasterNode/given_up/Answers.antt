use Rattle.std.proofs.Common.{◌≡◌, ◌<◌, refl, ap, sym, ◌∙◌, arith, length, true, false, subst, [], ◌∷◌}
use Rattle.std.specs.Prelude.{◌&&◌, not, slice_get}
use Rattle.life_runs.specs.of_master_tour.Goes.{is_live, holds_at}
use Rattle.master_node.specs.Downs.{is_given_up, down_by}
use Rattle.master_node.specs.Forwards.{port_by}
use Rattle.master_node.proofs.Downs.{lists_as, lists_from, lists_none, down_not, here_is}
use Rattle.master_node.proofs.Tells.{node_then, node_told, node_refl}
use Rattle.master_node.proofs.Happenings.{happens_none, happens_from}
use Rattle.life_runs.specs.of_master_tour.Walks.{StepsAt}
use Rattle.master_node.specs.Serving.{mails_in}
use Rattle.master_node.proofs.Droppeds.{drops_none, drops_one}
use Rattle.master_node.specs.declared.post.Work.{Work}
use Rattle.master_node.proofs.Endings.{drop_none, drop_one}
use Rattle.master_node.specs.Besides.{given_at, given_told}
use Rattle.master_node.specs.declared.event.Event.{Event}
use Rattle.master_node.proofs.Besides.{besides_as, besides_none, besides_put, given_is, given_not, stop_here}
use Rattle.master_node.specs.Answered.{answer_at}
use Rattle.master_node.proofs.Answereds.{given_answers}
use Rattle.master_node.proofs.node.MasterNode.given_up.Goals as goal

pub returns-clause-kept : goal.returns-clause-kept
returns-clause-kept c = node_then _ _ _ c.down_where.ensures.kept (node_then _ _ _ (node_told _ _ refl refl refl) c.dropped.ensures.kept)

pub returns-then-not-is_given_up-clause-kept : goal.returns-then-not-is_given_up-clause-kept
returns-then-not-is_given_up-clause-kept c = node_refl _

pub returns-clause-lan : goal.returns-clause-lan
returns-clause-lan c = happens_from 1 _ _ _ c.dropped.ensures.lan c.down_where.ensures.lan

pub returns-then-not-is_given_up-clause-lan : goal.returns-then-not-is_given_up-clause-lan
returns-then-not-is_given_up-clause-lan c = happens_none 1 _ _ refl

pub returns-clause-listed : goal.returns-clause-listed
returns-clause-listed c =
    let m = c.args.self.now in
    let p = c.args.place in
    let l : p < length m.tour.stops.items = omega (arith, c.requires, m.paired, m.tour.stops.ok.0) in
    let given : holds_at (λ s. is_given_up s.news) m.tour.stops.items p ≡ true =
    here_is (λ s. is_given_up s.news) m.tour.stops.items p c.index.result.now true l c.index.ensures (sym c.is_given_up.ensures ∙ c.if-not-is_given_up.false) in
    lists_as _ _ _ _
    (ap (λ z. down_by (port_by (slice_get m.lan.ports.items p)) (z && holds_at (λ s. not (is_live s.stand)) m.tour.stops.items p)) given
    ∙ (λ i. down_by (port_by (slice_get (sym c.dropped.ensures.lan i).ports.items p)) (holds_at (λ s. not (is_live s.stand)) (sym c.dropped.ensures.tour i).stops.items p)))
    (lists_from _ _ _ _ c.dropped.ensures.lan c.down_where.ensures.listed)

pub returns-then-not-is_given_up-clause-listed : goal.returns-then-not-is_given_up-clause-listed
returns-then-not-is_given_up-clause-listed c =
    let m = c.args.self.now in
    let p = c.args.place in
    let l : p < length m.tour.stops.items = omega (arith, c.requires, m.paired, m.tour.stops.ok.0) in
    lists_none _ _ _
    (down_not _ _
    (ap (λ z. z && holds_at (λ s. not (is_live s.stand)) m.tour.stops.items p)
    (here_is (λ s. is_given_up s.news) m.tour.stops.items p c.index.result.now false l c.index.ensures (sym c.is_given_up.ensures ∙ c.if-not-is_given_up.true))))
    refl

pub returns-clause-mails : goal.returns-clause-mails
returns-clause-mails c =
    let m = c.args.self.now in
    let p = c.args.place in
    let l : p < length m.tour.stops.items = omega (arith, c.requires, m.paired, m.tour.stops.ok.0) in
    drops_one _ p (mails_in m) _ (here_is (λ s. is_given_up s.news) m.tour.stops.items p c.index.result.now true l c.index.ensures (sym c.is_given_up.ensures ∙ c.if-not-is_given_up.false))
    (subst (λ z. StepsAt (λ ks ls. ls ≡ []) p (mails_in m) z) (sym c.down_where.ensures.mails) c.dropped.ensures.mails)

pub returns-then-not-is_given_up-clause-mails : goal.returns-then-not-is_given_up-clause-mails
returns-then-not-is_given_up-clause-mails c =
    let m = c.args.self.now in
    let p = c.args.place in
    let l : p < length m.tour.stops.items = omega (arith, c.requires, m.paired, m.tour.stops.ok.0) in
    drops_none _ p (mails_in m) (mails_in m) (here_is (λ s. is_given_up s.news) m.tour.stops.items p c.index.result.now false l c.index.ensures (sym c.is_given_up.ensures ∙ c.if-not-is_given_up.true)) refl

pub returns-clause-works : goal.returns-clause-works
returns-clause-works c =
    let m = c.args.self.now in
    let p = c.args.place in
    let l : p < length m.tour.stops.items = omega (arith, c.requires, m.paired, m.tour.stops.ok.0) in
    drop_one _ p m.posts.items _ (here_is (λ s. is_given_up s.news) m.tour.stops.items p c.index.result.now true l c.index.ensures (sym c.is_given_up.ensures ∙ c.if-not-is_given_up.false))
    (subst (λ z. StepsAt (λ v w. w.work ≡ Work.Nothing) p m.posts.items z.items) (sym c.down_where.ensures.works) c.dropped.ensures.works)

pub returns-then-not-is_given_up-clause-works : goal.returns-then-not-is_given_up-clause-works
returns-then-not-is_given_up-clause-works c =
    let m = c.args.self.now in
    let p = c.args.place in
    let l : p < length m.tour.stops.items = omega (arith, c.requires, m.paired, m.tour.stops.ok.0) in
    drop_none _ p m.posts.items m.posts.items (here_is (λ s. is_given_up s.news) m.tour.stops.items p c.index.result.now false l c.index.ensures (sym c.is_given_up.ensures ∙ c.if-not-is_given_up.true)) refl

pub returns-clause-told : goal.returns-clause-told
returns-clause-told c =
    let m = c.args.self.now in
    let place = c.args.place in
    let s = c.index.result.now in
    let l : place < length m.tour.stops.items = omega (arith, c.requires, m.paired, m.tour.stops.ok.0) in
    besides_as (Event.GivenUp place ∷ []) (given_at m.tour.stops.items place) m c.down_where.new.self
    (given_is place s.news (sym c.is_given_up.ensures ∙ c.if-not-is_given_up.false) ∙ sym (stop_here [] (λ t. given_told place t.news) m.tour.stops.items place s l c.index.ensures))
    (besides_put m c.dropped.new.self c.down_where.new.self c.put.new.self (Event.GivenUp place) c.dropped.ensures.list c.down_where.ensures.list c.put.ensures.last c.put.ensures.few c.put.ensures.head
    (λ k. ap (λ z. answer_at z.items k) c.down_where.ensures.works ∙ given_answers place m.posts.items c.dropped.new.self.posts.items c.dropped.ensures.answers k))

pub returns-then-not-is_given_up-clause-told : goal.returns-then-not-is_given_up-clause-told
returns-then-not-is_given_up-clause-told c =
    let m = c.args.self.now in
    let place = c.args.place in
    let s = c.index.result.now in
    let l : place < length m.tour.stops.items = omega (arith, c.requires, m.paired, m.tour.stops.ok.0) in
    besides_as [] (given_at m.tour.stops.items place) m m
    (given_not place s.news (sym c.is_given_up.ensures ∙ c.if-not-is_given_up.true) ∙ sym (stop_here [] (λ t. given_told place t.news) m.tour.stops.items place s l c.index.ensures)) (besides_none m m refl refl)
