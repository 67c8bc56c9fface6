use Rattle.std.proofs.Common.{◌≡◌, ◌<◌, length, arith}
use Rattle.life_runs.specs.of_life_model.Lives.{Stand}
use Rattle.master_node.specs.Changed.{TellsChange}
use Rattle.master_node.specs.Told.{IsTold}
use Rattle.master_node.proofs.Says.{both_here, lead_open}
use Rattle.master_node.proofs.node.MasterNode.changed.Goals as goal

pub returns : goal.returns
returns c = λ lens recover as' x.
    let m = c.args.self.now in
    let l : c.args.slave < length m.tour.stops.items = omega (arith, c.requires, m.paired, m.tour.stops.ok.0) in
    both_here (λ a s. IsTold lens recover a s) (λ a. a.lived.life.stand ≡ Stand.Open → TellsChange c.changed_by.result a.lived.life.era.account) as' m.tour.stops.items c.args.slave c.index.result.now x l c.index.ensures
    (λ a p e. let shown = lead_open lens recover a c.index.result.now p e in c.changed_by.ensures a.lived.life.era.account shown.state shown.over)
