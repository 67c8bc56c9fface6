use Rattle.std.proofs.Common.{◌<◌, ◌∷◌, [], refl, sym, ap, ◌∙◌, arith, length}
use Rattle.std.specs.Prelude.{slice_get}
use Rattle.life_runs.specs.of_master_hand.Brings.{as_list}
use Rattle.master_node.specs.Arrivals.{arrive_by, kept_at}
use Rattle.master_node.specs.Besides.{emitted_does}
use Rattle.master_node.specs.Forwards.{port_by}
use Rattle.master_node.proofs.Arrivals.{kept_here, arrive_none}
use Rattle.master_node.proofs.Besides.{so_on}
use Rattle.master_node.proofs.Downs.{lists_as, lists_from, lists_none}
use Rattle.master_node.proofs.Tells.{node_told}
use Rattle.master_node.proofs.Happenings.{happens_from, happens_none}
use Rattle.master_node.proofs.Servings.{tells_told}
use Rattle.master_node.proofs.Endings.{ends_told}
use Rattle.master_node.proofs.node.MasterNode.emitted.Goals as goal

pub returns-in-Some-clause-kept : goal.returns-in-Some-clause-kept
returns-in-Some-clause-kept c = (let e = c.alerted.ensures in node_told _ _ e.tour.0 e.tour.1 e.posts)

pub returns-in_default-clause-kept : goal.returns-in_default-clause-kept
returns-in_default-clause-kept c = (let e = c.alerted.ensures in node_told _ _ e.tour.0 e.tour.1 e.posts)

pub returns-in-Some-clause-lan : goal.returns-in-Some-clause-lan
returns-in-Some-clause-lan c = happens_from 1 _ _ _ c.alerted.ensures.lan c.came.ensures.happens

pub returns-in_default-clause-lan : goal.returns-in_default-clause-lan
returns-in_default-clause-lan c = happens_none 1 _ _ c.alerted.ensures.lan

pub returns-in-Some-clause-listed : goal.returns-in-Some-clause-listed
returns-in-Some-clause-listed c =
    let m = c.args.self.now in
    let n = c.alerted.new.self in
    let place = c.args.place in
    let e = c.alerted.ensures in
    let l : place < length n.tour.stops.items = omega (arith, c.requires, n.paired, n.tour.stops.ok.0, ap (λ z. length z.items) e.posts) in
    lists_from _ _ _ _ e.lan
    (lists_as _ _ _ _
    ((λ i. arrive_by (port_by (slice_get (sym e.lan i).ports.items place)) (kept_at (sym e.tour.0 i).stops.items place))
    ∙ ap (λ z. arrive_by (port_by (slice_get n.lan.ports.items place)) z)
    (kept_here n.tour.stops.items place c.index.result.now l c.index.ensures ∙ ap as_list (sym c.in-Some.ensures) ∙ ap (λ z. z ∷ []) (sym (c.buffer_of-packet.ensures ∙ c.as_slice.ensures.value))))
    c.came.ensures.listed)

pub returns-in_default-clause-listed : goal.returns-in_default-clause-listed
returns-in_default-clause-listed c =
    let m = c.args.self.now in
    let n = c.alerted.new.self in
    let place = c.args.place in
    let e = c.alerted.ensures in
    let l : place < length n.tour.stops.items = omega (arith, c.requires, n.paired, n.tour.stops.ok.0, ap (λ z. length z.items) e.posts) in
    let port = port_by (slice_get m.lan.ports.items place) in
    lists_none _ _ _
    (ap (λ z. arrive_by port (kept_at z.stops.items place)) (sym e.tour.0)
    ∙ ap (λ z. arrive_by port z) (kept_here n.tour.stops.items place c.index.result.now l c.index.ensures ∙ ap as_list (sym c.in_default.ensures)) ∙ arrive_none port)
    e.lan

pub returns-in-Some-clause-tells : goal.returns-in-Some-clause-tells
returns-in-Some-clause-tells c = (let e = c.alerted.ensures in tells_told _ _ e.tour.0 e.tour.1 e.posts)

pub returns-in_default-clause-tells : goal.returns-in_default-clause-tells
returns-in_default-clause-tells c = (let e = c.alerted.ensures in tells_told _ _ e.tour.0 e.tour.1 e.posts)

pub returns-in-Some-clause-works : goal.returns-in-Some-clause-works
returns-in-Some-clause-works c = ends_told _ _ _ (ap (λ z. z.items) c.alerted.ensures.posts)

pub returns-in_default-clause-works : goal.returns-in_default-clause-works
returns-in_default-clause-works c = ends_told _ _ _ (ap (λ z. z.items) c.alerted.ensures.posts)

pub returns-in-Some-clause-told : goal.returns-in-Some-clause-told
returns-in-Some-clause-told c = so_on (λ s w. emitted_does c.args.place s w) c.args.place c.args.self.now c.alerted.new.self _ refl refl c.alerted.ensures.told
