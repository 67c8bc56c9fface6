use Rattle.std.proofs.Common.{◌≡◌, ◌<◌, ◌∙◌, length, arith}
use Rattle.life_runs.specs.Spans.{is_leaving}
use Rattle.master_node.specs.Told.{IsTold}
use Rattle.master_node.proofs.Says.{both_here}
use Rattle.master_node.proofs.Stoods.{lead_leaves}
use Rattle.master_node.proofs.node.MasterNode.is_leaving.Goals as goal

pub returns : goal.returns
returns c = λ lens recover as' x.
    let m = c.args.self.now in
    let l : c.args.slave < length m.tour.stops.items = omega (arith, c.requires, m.paired, m.tour.stops.ok.0) in
    both_here (λ a s. IsTold lens recover a s) (λ a. c.leaves.result ≡ is_leaving a.lived.life.stand) as' m.tour.stops.items c.args.slave c.index.result.now x l c.index.ensures
    (λ a p. c.leaves.ensures ∙ lead_leaves lens recover a c.index.result.now p)
