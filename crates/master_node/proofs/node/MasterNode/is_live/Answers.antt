use Rattle.std.proofs.Common.{◌<◌, arith, length}
use Rattle.master_node.proofs.Places.{tested_here}
use Rattle.master_node.proofs.node.MasterNode.is_live.Goals as goal

pub returns : goal.returns
returns c =
    let m = c.args.self.now in
    let l : c.args.slave < length m.tour.stops.items = omega (arith, c.requires, m.paired, m.tour.stops.ok.0) in
    tested_here _ m.tour.stops.items c.args.slave c.index.result.now c.is_live.result l c.index.ensures c.is_live.ensures
