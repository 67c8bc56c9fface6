use Rattle.std.proofs.Common.{ℕ, ◌<◌, ◌∙◌, refl, ◌∷◌, [], ap, arith, length}
use Rattle.std.specs.Prelude.{slice_get}
use Rattle.master_node.specs.Arrivals.{arrive_by}
use Rattle.master_node.specs.Forwards.{port_by}
use Rattle.master_node.proofs.Arrivals.{heard_here}
use Rattle.master_node.proofs.Downs.{lists_as, lists_on}
use Rattle.master_node.proofs.Tells.{node_then}
use Rattle.master_node.proofs.Happenings.{happens_on}
use Rattle.master_node.proofs.Servings.{tells_then}
use Rattle.master_node.specs.Handed.{passing_at}
use Rattle.master_node.proofs.Endings.{ends_from, ends_then}
use Rattle.master_node.specs.Besides.{heard_does, over_does, then_does, turned_does}
use Rattle.master_node.proofs.Besides.{so_apart, so_then}
use Rattle.master_node.proofs.node.MasterNode.back.Goals as goal

pub returns-clause-kept : goal.returns-clause-kept
returns-clause-kept c = node_then _ _ _ c.turned.ensures.kept (node_then _ _ _ c.over.ensures.kept c.heard_where.ensures.kept)

pub returns-clause-lan : goal.returns-clause-lan
returns-clause-lan c = happens_on 1 _ _ _ (c.turned.ensures.lan ∙ c.over.ensures.lan) c.heard_where.ensures.lan

pub returns-clause-listed : goal.returns-clause-listed
returns-clause-listed c =
    let m = c.args.self.now in
    let l : c.args.place < length m.tour.stops.items = omega (arith, c.requires, m.paired, m.tour.stops.ok.0) in
    lists_on _ _ _ _ (c.turned.ensures.lan ∙ c.over.ensures.lan)
    (lists_as _ _ _ _ (ap (λ z. arrive_by (port_by (slice_get m.lan.ports.items c.args.place)) z) (heard_here m.tour.stops.items c.args.place c.index.result.now l c.index.ensures)) c.heard_where.ensures.listed)

pub returns-clause-tells : goal.returns-clause-tells
returns-clause-tells c = tells_then _ _ _ c.turned.ensures.tells (tells_then _ _ _ c.over.ensures.tells c.heard_where.ensures.tells)

pub returns-clause-works : goal.returns-clause-works
returns-clause-works c =
    let m = c.args.self.now in
    let n1 = c.heard_where.new.self in
    let n2 = c.over.new.self in
    let goes1 = λ (k : ℕ). ap (λ z. passing_at z.stops.items k) c.heard_where.ensures.tells.tour in
    let goes2 = λ (k : ℕ). ap (λ z. passing_at z.stops.items k) c.over.ensures.tells.tour ∙ goes1 k in
    ends_then (λ k. passing_at m.tour.stops.items k) (c.args.place ∷ []) [] m.posts.items n2.posts.items c.turned.new.self.posts.items
    (ends_then (λ k. passing_at m.tour.stops.items k) [] (c.args.place ∷ []) m.posts.items n1.posts.items n2.posts.items c.heard_where.ensures.works
    (ends_from _ (λ k. passing_at n1.tour.stops.items k) (c.args.place ∷ []) _ _ goes1 c.over.ensures.works))
    (ends_from _ (λ k. passing_at n2.tour.stops.items k) [] _ _ goes2 c.turned.ensures.works)

pub returns-clause-told : goal.returns-clause-told
returns-clause-told c =
    let m = c.args.self.now in
    let n1 = c.heard_where.new.self in
    let n2 = c.over.new.self in
    let place = c.args.place in
    let s = c.index.result.now in
    let l : place < length m.tour.stops.items = omega (arith, c.requires, m.paired, m.tour.stops.ok.0) in
    so_then (λ t w. then_does (heard_does place t.side.heard t w) (λ v. over_does place t v)) (λ t w. turned_does place t w) place m n2 c.turned.new.self (c.over.ensures.tells.tour ∙ c.heard_where.ensures.tells.tour)
    (so_then (λ t w. heard_does place t.side.heard t w) (λ t w. over_does place t w) place m n1 n2 c.heard_where.ensures.tells.tour
    (so_apart (λ t w. heard_does place s.side.heard t w) (λ t w. heard_does place t.side.heard t w) place m n1 s l c.index.ensures refl c.heard_where.ensures.told)
    c.over.ensures.told)
    c.turned.ensures.told
