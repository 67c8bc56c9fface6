use Rattle.std.proofs.Common.{◌<◌, ◌∷◌, [], refl, ap, ◌∙◌, arith, length}
use Rattle.life_runs.specs.of_master_hand.Brings.{emergency_kept}
use Rattle.master_node.specs.Besides.{emergency_told, emitted_does}
use Rattle.master_node.specs.declared.event.Event.{Event}
use Rattle.master_node.proofs.Besides.{besides_as, besides_none, besides_one, does_told, so_here}
use Rattle.master_node.proofs.node.MasterNode.alerted.Goals as goal

pub returns-in-Some-clause-told : goal.returns-in-Some-clause-told
returns-in-Some-clause-told c =
    let m = c.args.self.now in
    let place = c.args.place in
    let s = c.index.result.now in
    let l : place < length m.tour.stops.items = omega (arith, c.requires, m.paired, m.tour.stops.ok.0) in
    so_here (λ t w. emitted_does place t w) place m _ s l c.index.ensures
    (does_told place (emergency_told place (emergency_kept s.side.hand.found)) m _
    (besides_as (_ ∷ []) (emergency_told place (emergency_kept s.side.hand.found)) m _
    (ap (λ z. Event.Emergency place z ∷ []) (λ i. record { items = (c.buffer_of-octets.ensures ∙ c.as_slice.ensures.value) i }) ∙ ap (emergency_told place) c.in-Some.ensures)
    (besides_one m _ _ c.put.ensures.last c.put.ensures.few c.put.ensures.head (λ k. refl)))
    refl)

pub returns-in_default-clause-told : goal.returns-in_default-clause-told
returns-in_default-clause-told c =
    let m = c.args.self.now in
    let place = c.args.place in
    let s = c.index.result.now in
    let l : place < length m.tour.stops.items = omega (arith, c.requires, m.paired, m.tour.stops.ok.0) in
    so_here (λ t w. emitted_does place t w) place m m s l c.index.ensures
    (does_told place (emergency_told place (emergency_kept s.side.hand.found)) m m
    (besides_as [] (emergency_told place (emergency_kept s.side.hand.found)) m m (ap (emergency_told place) c.in_default.ensures) (besides_none m m refl refl)) refl)
