use Rattle.std.proofs.Common.{◌<◌, length, arith}
use Rattle.master_node.proofs.Quiets.{gave_here}
use Rattle.master_node.proofs.node.MasterNode.gave_up_more.Goals as goal

pub returns : goal.returns
returns c = λ lens as' lives.
    let m = c.args.self.now in
    let l : c.args.slave < length m.tour.stops.items = omega (arith, c.requires, m.paired, m.tour.stops.ok.0) in
    gave_here lens c.args.recover c.args.times as' m.tour.stops.items c.args.slave c.index-stop.result.now c.gave_more.result lives l c.index-stop.ensures c.gave_more.ensures
