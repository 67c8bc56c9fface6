use Rattle.std.proofs.Common.{◌≡◌, ℕ, true, false, Option, Some, None, List, refl, sym, ap, ◌∙◌}
use Rattle.std.specs.Prelude.{is_some, slice_get}
use Rattle.life_runs.specs.of_master_hand.declared.hand.InHand.{InHand}
use Rattle.life_runs.specs.of_master_side.declared.hand.Hand.{Ghosts}
use Rattle.life_runs.specs.of_master_side.declared.hand.Heard.{Heard}
use Rattle.life_runs.specs.of_master_tour.declared.stop.Stop.{Stop}
use Rattle.master_node.specs.Arrivals.{arrive_by, kept_at, packets_of}
use Rattle.master_node.specs.Besides.{accepted_does, heard_does, stays}
use Rattle.master_node.specs.Forwards.{port_by}
use Rattle.master_node.specs.Handed.{work_at}
use Rattle.master_node.specs.declared.post.Work.{Work}
use Rattle.master_node.proofs.Arrivals.{arrive_none}
use Rattle.master_node.proofs.Besides.{so_as, so_stays}
use Rattle.master_node.proofs.Downs.{lists_as, lists_none}
use Rattle.master_node.proofs.Endings.{ends_told}
use Rattle.master_node.proofs.Servings.{tells_refl}
use Rattle.master_node.proofs.Tells.{node_refl}
use Rattle.master_node.proofs.node.MasterNode.heard_where.Goals as goal

-- a mail was accepted, or none was
heard_some : {G : Ghosts InHand} (place : ℕ) (what : Option Heard) (s : Stop InHand G) (w : Work) → is_some what ≡ true → accepted_does place s w ≡ heard_does place what s w
heard_some place None s w e = absurd (let bad : false ≡ true = e in cc)
heard_some place (Some what) s w e = refl

heard_none : {G : Ghosts InHand} (place : ℕ) (what : Option Heard) (s : Stop InHand G) (w : Work) → is_some what ≡ false → stays w ≡ heard_does place what s w
heard_none place None s w e = refl
heard_none place (Some what) s w e = absurd (let bad : true ≡ false = e in cc)

packets_some : (what : Option Heard) (ps : List (List ℕ)) → is_some what ≡ true → packets_of what ps ≡ ps
packets_some None ps e = absurd (let bad : false ≡ true = e in cc)
packets_some (Some what) ps e = refl

packets_none : (what : Option Heard) (ps : List (List ℕ)) → is_some what ≡ false → packets_of what ps ≡ packets_of None ps
packets_none None ps e = refl
packets_none (Some what) ps e = absurd (let bad : true ≡ false = e in cc)

pub returns-else-is_some-clause-kept : goal.returns-else-is_some-clause-kept
returns-else-is_some-clause-kept c = node_refl _

pub returns-then-is_some-clause-listed : goal.returns-then-is_some-clause-listed
returns-then-is_some-clause-listed c =
    let m = c.args.self.now in
    lists_as _ _ _ _ (ap (λ z. arrive_by (port_by (slice_get m.lan.ports.items c.args.place)) z) (packets_some c.args.what (kept_at m.tour.stops.items c.args.place) (sym c.is_some.ensures ∙ c.if-is_some.true))) c.heard.ensures.listed

pub returns-else-is_some-clause-listed : goal.returns-else-is_some-clause-listed
returns-else-is_some-clause-listed c =
    let m = c.args.self.now in
    let port = port_by (slice_get m.lan.ports.items c.args.place) in
    lists_none _ _ _ (ap (λ z. arrive_by port z) (packets_none c.args.what (kept_at m.tour.stops.items c.args.place) (sym c.is_some.ensures ∙ c.if-is_some.false)) ∙ arrive_none port) refl

pub returns-else-is_some-clause-tells : goal.returns-else-is_some-clause-tells
returns-else-is_some-clause-tells c = tells_refl _

pub returns-else-is_some-clause-works : goal.returns-else-is_some-clause-works
returns-else-is_some-clause-works c = ends_told _ _ _ refl

pub returns-then-is_some-clause-told : goal.returns-then-is_some-clause-told
returns-then-is_some-clause-told c =
    let m = c.args.self.now in
    let place = c.args.place in
    so_as (λ s w. accepted_does place s w) (λ s w. heard_does place c.args.what s w) place m c.heard.new.self (λ s. heard_some place c.args.what s (work_at m.posts.items place) (sym c.is_some.ensures ∙ c.if-is_some.true)) c.heard.ensures.told

pub returns-else-is_some-clause-told : goal.returns-else-is_some-clause-told
returns-else-is_some-clause-told c =
    let m = c.args.self.now in
    let place = c.args.place in
    so_as (λ s w. stays w) (λ s w. heard_does place c.args.what s w) place m m (λ s. heard_none place c.args.what s (work_at m.posts.items place) (sym c.is_some.ensures ∙ c.if-is_some.false)) (so_stays place m)
