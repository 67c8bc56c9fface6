use Rattle.std.proofs.Common.{◌≡◌, ◌<◌, refl, sym, subst, arith, length, Some, ap}
use Rattle.life_runs.specs.of_master_tour.Walks.{StepsAt}
use Rattle.life_runs.proofs.of_master_tour.Walks.{steps_set, each_same}
use Rattle.master_node.specs.Begins.{TakesOn, taken_for}
use Rattle.master_node.specs.Coming.{PassesBy}
use Rattle.master_node.proofs.Kepts.{stop_side, stop_same}
use Rattle.master_node.proofs.Lists.{steps_same, steps_each}
use Rattle.master_node.proofs.Visits.{state_passes}
use Rattle.master_node.proofs.Rooms.{sends_same}
use Rattle.master_node.proofs.Begins.{takes_none}
use Rattle.master_node.proofs.Happenings.{happens_none}
use Rattle.master_node.proofs.Made.{makes_none}
use Rattle.master_node.proofs.node.MasterNode.pass_by.Goals as goal

pub returns-in-State-clause-begun : goal.returns-in-State-clause-begun
returns-in-State-clause-begun c =
    let m = c.args.self.now in
    let l : c.args.place < length m.tour.stops.items = omega (arith, c.requires, m.paired, m.tour.stops.ok.0) in
    steps_set _ c.args.place m.tour.stops.items c.index_mut.result.now _ l c.index_mut.ensures.value (state_passes _ _ _ _ c.in-State.is (λ n. stop_side _ _ _ (c.pass_by.ensures.kept n) refl refl refl refl refl refl))

pub returns-in-Packet-clause-begun : goal.returns-in-Packet-clause-begun
returns-in-Packet-clause-begun c =
    let m = c.args.self.now in
    let l : c.args.place < length m.tour.stops.items = omega (arith, c.requires, m.paired, m.tour.stops.ok.0) in
    let e = c.in-Packet.is in
    subst (λ z. StepsAt (λ s t. PassesBy (Some z) s t) c.args.place m.tour.stops.items m.tour.stops.items) (sym e) (steps_same _ c.args.place m.tour.stops.items l (λ s. stop_same s))

pub returns-in-Mail-clause-begun : goal.returns-in-Mail-clause-begun
returns-in-Mail-clause-begun c =
    let m = c.args.self.now in
    let l : c.args.place < length m.tour.stops.items = omega (arith, c.requires, m.paired, m.tour.stops.ok.0) in
    let e = c.in-Mail.is in
    subst (λ z. StepsAt (λ s t. PassesBy (Some z) s t) c.args.place m.tour.stops.items m.tour.stops.items) (sym e) (steps_same _ c.args.place m.tour.stops.items l (λ s. stop_same s))

pub returns-in-Script-clause-begun : goal.returns-in-Script-clause-begun
returns-in-Script-clause-begun c =
    let m = c.args.self.now in
    let l : c.args.place < length m.tour.stops.items = omega (arith, c.requires, m.paired, m.tour.stops.ok.0) in
    let e = c.in-Script.is in
    subst (λ z. StepsAt (λ s t. PassesBy (Some z) s t) c.args.place m.tour.stops.items m.tour.stops.items) (sym e) (steps_same _ c.args.place m.tour.stops.items l (λ s. stop_same s))

pub returns-in-State-clause-joins : goal.returns-in-State-clause-joins
returns-in-State-clause-joins c =
    let m = c.args.self.now in
    let l : c.args.place < length m.tour.stops.items = omega (arith, c.requires, m.paired, m.tour.stops.ok.0) in
    steps_each (λ s t. t.side.hand.found.join ≡ s.side.hand.found.join) (λ s t. t.side.hand.found.join ≡ s.side.hand.found.join) c.args.place m.tour.stops.items _ (λ s. refl) (λ s t p. p)
    (steps_set (λ s t. t.side.hand.found.join ≡ s.side.hand.found.join) c.args.place m.tour.stops.items c.index_mut.result.now _ l c.index_mut.ensures.value (ap (λ z. z.join) c.pass_by.ensures.found))

pub returns-in-Packet-clause-joins : goal.returns-in-Packet-clause-joins
returns-in-Packet-clause-joins c = each_same _ c.args.self.now.tour.stops.items (λ s. refl)

pub returns-in-Mail-clause-joins : goal.returns-in-Mail-clause-joins
returns-in-Mail-clause-joins c = each_same _ c.args.self.now.tour.stops.items (λ s. refl)

pub returns-in-Script-clause-joins : goal.returns-in-Script-clause-joins
returns-in-Script-clause-joins c = each_same _ c.args.self.now.tour.stops.items (λ s. refl)

pub returns-in-State-clause-put : goal.returns-in-State-clause-put
returns-in-State-clause-put c =
    let m = c.args.self.now in
    let l : c.args.place < length m.tour.stops.items = omega (arith, c.requires, m.paired, m.tour.stops.ok.0) in
    steps_set _ c.args.place m.tour.stops.items c.index_mut.result.now _ l c.index_mut.ensures.value (refl, refl, refl)

pub returns-in-Packet-clause-put : goal.returns-in-Packet-clause-put
returns-in-Packet-clause-put c =
    let m = c.args.self.now in
    let l : c.args.place < length m.tour.stops.items = omega (arith, c.requires, m.paired, m.tour.stops.ok.0) in
    steps_same _ c.args.place m.tour.stops.items l (λ s. (refl, refl, refl))

pub returns-in-Mail-clause-put : goal.returns-in-Mail-clause-put
returns-in-Mail-clause-put c =
    let m = c.args.self.now in
    let l : c.args.place < length m.tour.stops.items = omega (arith, c.requires, m.paired, m.tour.stops.ok.0) in
    steps_same _ c.args.place m.tour.stops.items l (λ s. (refl, refl, refl))

pub returns-in-Script-clause-put : goal.returns-in-Script-clause-put
returns-in-Script-clause-put c =
    let m = c.args.self.now in
    let l : c.args.place < length m.tour.stops.items = omega (arith, c.requires, m.paired, m.tour.stops.ok.0) in
    steps_same _ c.args.place m.tour.stops.items l (λ s. (refl, refl, refl))

pub returns-in-State-clause-sends : goal.returns-in-State-clause-sends
returns-in-State-clause-sends c =
    let m = c.args.self.now in
    let l : c.args.place < length m.tour.stops.items = omega (arith, c.requires, m.paired, m.tour.stops.ok.0) in
    let e = c.pass_by.ensures.sends in
    steps_set _ c.args.place m.tour.stops.items c.index_mut.result.now _ l c.index_mut.ensures.value (record { out = e.0; inn = e.1; duty = e.2; passing = e.3; turn = e.4; paused = e.5; carried = e.6; stand = refl })

pub returns-in-Packet-clause-sends : goal.returns-in-Packet-clause-sends
returns-in-Packet-clause-sends c =
    let m = c.args.self.now in
    let l : c.args.place < length m.tour.stops.items = omega (arith, c.requires, m.paired, m.tour.stops.ok.0) in
    steps_same _ c.args.place m.tour.stops.items l (λ s. sends_same s)

pub returns-in-Mail-clause-sends : goal.returns-in-Mail-clause-sends
returns-in-Mail-clause-sends c =
    let m = c.args.self.now in
    let l : c.args.place < length m.tour.stops.items = omega (arith, c.requires, m.paired, m.tour.stops.ok.0) in
    steps_same _ c.args.place m.tour.stops.items l (λ s. sends_same s)

pub returns-in-Script-clause-sends : goal.returns-in-Script-clause-sends
returns-in-Script-clause-sends c =
    let m = c.args.self.now in
    let l : c.args.place < length m.tour.stops.items = omega (arith, c.requires, m.paired, m.tour.stops.ok.0) in
    steps_same _ c.args.place m.tour.stops.items l (λ s. sends_same s)

pub returns-in-Packet-clause-takes : goal.returns-in-Packet-clause-takes
returns-in-Packet-clause-takes c =
    let m = c.args.self.now in
    subst (λ z. TakesOn (taken_for m.lan c.args.place (Some z)) m.lan c.begin.new.self) (sym c.in-Packet.is) c.begin.ensures.takes

pub returns-in-Mail-clause-takes : goal.returns-in-Mail-clause-takes
returns-in-Mail-clause-takes c =
    let m = c.args.self.now in
    takes_none _ m.lan m.lan (ap (λ z. taken_for m.lan c.args.place (Some z)) (sym c.in-Mail.is)) refl

pub returns-in-Script-clause-takes : goal.returns-in-Script-clause-takes
returns-in-Script-clause-takes c =
    let m = c.args.self.now in
    takes_none _ m.lan m.lan (ap (λ z. taken_for m.lan c.args.place (Some z)) (sym c.in-Script.is)) refl

pub returns-in-State-clause-takes : goal.returns-in-State-clause-takes
returns-in-State-clause-takes c =
    let m = c.args.self.now in
    takes_none _ m.lan m.lan (ap (λ z. taken_for m.lan c.args.place (Some z)) (sym c.in-State.is)) refl

pub returns-in-Mail-clause-lan : goal.returns-in-Mail-clause-lan
returns-in-Mail-clause-lan c = happens_none 1 _ _ refl

pub returns-in-Script-clause-lan : goal.returns-in-Script-clause-lan
returns-in-Script-clause-lan c = happens_none 1 _ _ refl

pub returns-in-State-clause-lan : goal.returns-in-State-clause-lan
returns-in-State-clause-lan c = happens_none 1 _ _ refl

pub returns-in-Mail-clause-made : goal.returns-in-Mail-clause-made
returns-in-Mail-clause-made c = makes_none _ _ refl

pub returns-in-Script-clause-made : goal.returns-in-Script-clause-made
returns-in-Script-clause-made c = makes_none _ _ refl

pub returns-in-State-clause-made : goal.returns-in-State-clause-made
returns-in-State-clause-made c = makes_none _ _ refl

pub returns-in-Mail-clause-fewer : goal.returns-in-Mail-clause-fewer
returns-in-Mail-clause-fewer c = λ k e. e

pub returns-in-Script-clause-fewer : goal.returns-in-Script-clause-fewer
returns-in-Script-clause-fewer c = λ k e. e

pub returns-in-State-clause-fewer : goal.returns-in-State-clause-fewer
returns-in-State-clause-fewer c = λ k e. e
