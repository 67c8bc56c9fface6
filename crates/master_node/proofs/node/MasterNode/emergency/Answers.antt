use Rattle.std.proofs.Common.{◌≡◌, ◌<◌, length, arith}
use Rattle.std.specs.Prelude.{option_map}
use Rattle.life_runs.specs.of_master_hand.Brings.{as_list, emergencies_in}
use Rattle.life_runs.specs.of_master_tour.Brings.{accepted_in}
use Rattle.master_node.specs.Brought.{StopBrought}
use Rattle.master_node.proofs.Says.{both_here}
use Rattle.master_node.proofs.node.MasterNode.emergency.Goals as goal

pub returns : goal.returns
returns c = λ us back x.
    let m = c.args.self.now in
    let l : c.args.slave < length m.tour.stops.items = omega (arith, c.requires, m.paired, m.tour.stops.ok.0) in
    both_here (λ u s. StopBrought back u s) (λ u. as_list (option_map (λ octets. octets.now.items) c.emergency_of.result) ≡ emergencies_in (accepted_in u.lived.spot u.lived.life back)) us m.tour.stops.items c.args.slave c.index.result.now x l c.index.ensures
    (λ u p. c.emergency_of.ensures (accepted_in u.lived.spot u.lived.life back) p)
