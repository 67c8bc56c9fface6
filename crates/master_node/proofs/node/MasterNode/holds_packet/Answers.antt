use Rattle.std.proofs.Common.{◌<◌, ◌∙◌, sym, subst, length, arith}
use Rattle.life_runs.specs.of_master_tour.declared.stop.Stand.{Stand}
use Rattle.master_node.specs.Resting.{StandRests, StopRests}
use Rattle.master_node.proofs.Restings.{if_here, never}
use Rattle.master_node.proofs.node.MasterNode.holds_packet.Goals as goal
use Rattle.master_node.proofs.node.MasterNode.holds_packet.Goals.{in-Open, in_default}

pub returns-in-Packet : goal.returns-in-Packet
returns-in-Packet c = λ p.
    let m = c.args.self.now in
    let l : c.args.place < length m.tour.stops.items = omega (arith, c.requires, m.paired, m.tour.stops.ok.0) in
    let rests = if_here (λ s. StopRests m.lan c.args.place s) m.tour.stops.items c.args.place c.index-stop.result.now l c.index-stop.ensures p in
    elim c.match-matches.branch [
      | in-Open w ↦
          let r = (subst (λ (k : Stand). StandRests m.lan c.args.place k c.index-stop.result.now.side) w.in-Open.is rests).0 in
          absurd (never (sym c.if-is_free.false ∙ c.is_free.ensures.may r.speech r.side r.account r.known r.shows r.hand r.unpassed r.free r.done))
      | in_default w ↦ absurd (never (sym w.matches-is ∙ c.if-not-matches.false))
    ]
