use Rattle.std.proofs.Common.{◌<◌, refl, ap, sym, ◌∙◌, arith, length, true, false}
use Rattle.std.specs.Prelude.{not, slice_get}
use Rattle.master_node.specs.Forwards.{port_by}
use Rattle.life_runs.specs.of_master_tour.Goes.{is_live}
use Rattle.master_node.specs.Downs.{down_by}
use Rattle.master_node.proofs.Tells.{node_refl, node_told}
use Rattle.master_node.proofs.Happenings.{happens_none}
use Rattle.master_node.proofs.Downs.{lists_as, lists_none, down_not, here_is}
use Rattle.master_node.proofs.node.MasterNode.down_where.Goals as goal

pub returns-then-not-is_live-clause-kept : goal.returns-then-not-is_live-clause-kept
returns-then-not-is_live-clause-kept c = node_told _ _ refl refl refl

pub returns-else-not-is_live-clause-kept : goal.returns-else-not-is_live-clause-kept
returns-else-not-is_live-clause-kept c = node_refl _

pub returns-else-not-is_live-clause-lan : goal.returns-else-not-is_live-clause-lan
returns-else-not-is_live-clause-lan c = happens_none 1 _ _ refl

pub returns-then-not-is_live-clause-listed : goal.returns-then-not-is_live-clause-listed
returns-then-not-is_live-clause-listed c =
    let m = c.args.self.now in
    let l : c.args.place < length m.tour.stops.items = omega (arith, c.requires, m.paired, m.tour.stops.ok.0) in
    lists_as _ _ _ _ (ap (λ z. down_by (port_by (slice_get m.lan.ports.items c.args.place)) z) (here_is (λ s. not (is_live s.stand)) m.tour.stops.items c.args.place c.index.result.now true l c.index.ensures (ap not (sym c.is_live.ensures ∙ c.if-not-is_live.true)))) c.down.ensures.listed

pub returns-else-not-is_live-clause-listed : goal.returns-else-not-is_live-clause-listed
returns-else-not-is_live-clause-listed c =
    let m = c.args.self.now in
    let l : c.args.place < length m.tour.stops.items = omega (arith, c.requires, m.paired, m.tour.stops.ok.0) in
    lists_none _ _ _ (down_not _ _ (here_is (λ s. not (is_live s.stand)) m.tour.stops.items c.args.place c.index.result.now false l c.index.ensures (ap not (sym c.is_live.ensures ∙ c.if-not-is_live.false)))) refl
