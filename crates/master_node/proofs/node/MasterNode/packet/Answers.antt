use Rattle.std.proofs.Common.{◌≡◌, ◌<◌, length, arith}
use Rattle.std.specs.Prelude.{option_map}
use Rattle.life_runs.specs.of_master_hand.Brings.{as_list}
use Rattle.life_runs.specs.of_master_hand.Joins.{packets_in}
use Rattle.master_node.specs.Joined.{StopCompleted, mails_back}
use Rattle.master_node.proofs.Joineds.{three_here}
use Rattle.master_node.proofs.node.MasterNode.packet.Goals as goal

pub returns : goal.returns
returns c = λ us befores back x.
    let m = c.args.self.now in
    let l : c.args.slave < length m.tour.stops.items = omega (arith, c.requires, m.paired, m.tour.stops.ok.0) in
    three_here (λ u j s. StopCompleted back u j s) (λ u j. as_list (option_map (λ packet. packet.now.items) c.packet_of.result) ≡ packets_in j (mails_back back u)) us befores m.tour.stops.items c.args.slave c.index.result.now x l c.index.ensures
    (λ u j p. c.packet_of.ensures j (mails_back back u) p)
