use Rattle.std.proofs.Common.{refl, ap, ◌∙◌, arith, length, ◌≤◌}
use Rattle.std.specs.Prelude.{slice_get}
use Rattle.master_node.specs.Arrivals.{arrive_by}
use Rattle.master_node.specs.Forwards.{port_by}
use Rattle.master_node.proofs.Tells.{node_refl}
use Rattle.master_node.proofs.Arrivals.{arrive_none, heard_beyond}
use Rattle.master_node.proofs.Downs.{lists_none}
use Rattle.master_node.proofs.Happenings.{happens_none}
use Rattle.master_node.proofs.Servings.{tells_refl}
use Rattle.master_node.proofs.Endings.{ends_free, ends_told, none_beyond}
use Rattle.master_node.specs.Besides.{back_does}
use Rattle.master_node.proofs.Besides.{so_beyond}
use Rattle.master_node.proofs.node.MasterNode.back_at.Goals as goal

pub returns-else-place-len-clause-kept : goal.returns-else-place-len-clause-kept
returns-else-place-len-clause-kept c = node_refl _

pub returns-else-place-len-clause-lan : goal.returns-else-place-len-clause-lan
returns-else-place-len-clause-lan c = happens_none 1 _ _ refl

pub returns-else-place-len-clause-listed : goal.returns-else-place-len-clause-listed
returns-else-place-len-clause-listed c =
    let m = c.args.self.now in
    let p = c.args.place in
    let l : length m.tour.stops.items ≤ p = omega (arith, c.if-place-len.false, c.len.ensures, m.paired, m.tour.stops.ok.0) in
    lists_none _ _ _ (ap (λ z. arrive_by (port_by (slice_get m.lan.ports.items p)) z) (heard_beyond m.tour.stops.items p l) ∙ arrive_none (port_by (slice_get m.lan.ports.items p))) refl

pub returns-else-place-len-clause-tells : goal.returns-else-place-len-clause-tells
returns-else-place-len-clause-tells c = tells_refl _

pub returns-else-place-len-clause-works : goal.returns-else-place-len-clause-works
returns-else-place-len-clause-works c =
    let m = c.args.self.now in
    ends_free _ c.args.place m.posts.items m.posts.items (λ key e. absurd (none_beyond m.posts.items c.args.place (omega (arith, c.if-place-len.false, c.len.ensures, m.posts.ok.0)) key e)) (ends_told _ _ _ refl)

pub returns-else-place-len-clause-told : goal.returns-else-place-len-clause-told
returns-else-place-len-clause-told c =
    let m = c.args.self.now in
    let place = c.args.place in
    so_beyond (λ s w. back_does place s w) place m (omega (arith, c.if-place-len.false, c.len.ensures, m.paired, m.tour.stops.ok.0))
