use Rattle.std.proofs.Common.{◌≡◌, ap, sym, ◌∙◌, count_ones, arith}
use Rattle.run_book.specs.of_eoe_switch.Switch.{Arrived, route_of, learned_from, drops_of}
use Rattle.run_report.specs.Drops.{behind, drops_at}
use Rattle.run_report.proofs.Dropped.{ones_of_full, few_drops}
use Rattle.run_report.proofs.drops.drops_at.Goals as goal

pub returns-in-Arrive-clause-drops : goal.returns-in-Arrive-clause-drops
returns-in-Arrive-clause-drops c =
    let s = c.args.switch.now in
    let route = route_of (learned_from s.learned c.in-Arrive.port c.in-Arrive.packet.items) c.in-Arrive.port c.in-Arrive.packet.items in
    ap (λ (a : Arrived). count_ones a.full) c.arrive.ensures.table ∙ ones_of_full route c.in-Arrive.packet s.ports ∙ ap (drops_at s) (sym c.in-Arrive.is)

pub returns-in-Arrive-clause-switch : goal.returns-in-Arrive-clause-switch
returns-in-Arrive-clause-switch c = ap (λ (a : Arrived). a.switch) c.arrive.ensures.table ∙ ap (behind c.args.switch.now) (sym c.in-Arrive.is)

pub returns-in-Arrive-clause-few : goal.returns-in-Arrive-clause-few
returns-in-Arrive-clause-few c =
    let s = c.args.switch.now in
    let route = route_of (learned_from s.learned c.in-Arrive.port c.in-Arrive.packet.items) c.in-Arrive.port c.in-Arrive.packet.items in
    let same : count_ones c.arrive.result.1.bits ≡ drops_of route c.in-Arrive.packet 0 s.ports =
    ap (λ (a : Arrived). count_ones a.full) c.arrive.ensures.table ∙ ones_of_full route c.in-Arrive.packet s.ports in
    let few = few_drops route c.in-Arrive.packet 0 s.ports in
    omega (arith, same, few)
