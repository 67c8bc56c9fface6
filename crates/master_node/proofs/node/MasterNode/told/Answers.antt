use Rattle.std.proofs.Common.{◌≡◌, ◌<◌, length, arith}
use Rattle.life_runs.specs.of_life_model.Lives.{Stand}
use Rattle.life_runs.specs.Led.{speech_at}
use Rattle.master_node.specs.Told.{IsTold, Tells}
use Rattle.master_node.proofs.Says.{if_ok_so, both_here, lead_open}
use Rattle.master_node.proofs.node.MasterNode.told.Goals as goal

pub returns : goal.returns
returns c =
    let m = c.args.self.now in
    let l : c.args.slave < length m.tour.stops.items = omega (arith, c.requires, m.paired, m.tour.stops.ok.0) in
    if_ok_so c.told_of.result
    (λ told h. λ lens recover as' x.
    both_here (λ a s. IsTold lens recover a s) (λ a. a.lived.life.stand ≡ Stand.Open → Tells told c.args.into.now c.told_of.new.into a.lived.life.era.side.now) as' m.tour.stops.items c.args.slave c.index.result.now x l c.index.ensures
    (λ a p e. h (speech_at lens a.lived.spot) a.lived.life.era.side.now (lead_open lens recover a c.index.result.now p e).row))
    c.told_of.ensures.told
