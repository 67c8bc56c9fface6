use Rattle.std.proofs.Common.{◌≡◌, ◌<◌, ◌∙◌, ap, length, arith}
use Rattle.std.specs.Prelude.{is_some}
use Rattle.life_runs.specs.of_life_model.Lives.{Stand}
use Rattle.master_node.specs.Told.{IsTold}
use Rattle.master_node.proofs.Says.{both_here, duty_open}
use Rattle.master_node.proofs.node.MasterNode.changes_state.Goals as goal

pub returns : goal.returns
returns c = λ lens recover as' x.
    let m = c.args.self.now in
    let l : c.args.slave < length m.tour.stops.items = omega (arith, c.requires, m.paired, m.tour.stops.ok.0) in
    both_here (λ a s. IsTold lens recover a s) (λ a. a.lived.life.stand ≡ Stand.Open → c.is_some.result ≡ is_some a.lived.life.era.account.hand) as' m.tour.stops.items c.args.slave c.index.result.now x l c.index.ensures
    (λ a p e. c.is_some.ensures ∙ ap is_some c.state_in_hand.ensures ∙ duty_open lens recover a c.index.result.now p e)
