use Rattle.std.proofs.Common.{refl, ◌<◌, ◌∷◌, [], ◌∙◌, ap, arith, length}
use Rattle.master_node.proofs.Tells.{node_refl, node_told}
use Rattle.master_node.proofs.Servings.{tells_refl, tells_told}
use Rattle.master_node.proofs.Endings.{ends_told}
use Rattle.life_runs.specs.of_master_hand.Replied.{reply_kept}
use Rattle.master_node.specs.Besides.{replied_does, reply_told}
use Rattle.master_node.specs.declared.event.Event.{Event}
use Rattle.master_node.proofs.Besides.{bare_is, besides_as, besides_none, besides_one, does_told, so_here}
use Rattle.master_node.proofs.node.MasterNode.replied.Goals as goal

pub returns-in-Some-clause-kept : goal.returns-in-Some-clause-kept
returns-in-Some-clause-kept c = node_told _ _ refl refl refl

pub returns-in_default-clause-kept : goal.returns-in_default-clause-kept
returns-in_default-clause-kept c = node_refl _

pub returns-in-Some-clause-tells : goal.returns-in-Some-clause-tells
returns-in-Some-clause-tells c = tells_told _ _ refl refl refl

pub returns-in_default-clause-tells : goal.returns-in_default-clause-tells
returns-in_default-clause-tells c = tells_refl _

pub returns-in-Some-clause-works : goal.returns-in-Some-clause-works
returns-in-Some-clause-works c = ends_told _ _ _ refl

pub returns-in_default-clause-works : goal.returns-in_default-clause-works
returns-in_default-clause-works c = ends_told _ _ _ refl

pub returns-in-Some-clause-told : goal.returns-in-Some-clause-told
returns-in-Some-clause-told c =
    let m = c.args.self.now in
    let place = c.args.place in
    let key = c.args.key in
    let s = c.index.result.now in
    let l : place < length m.tour.stops.items = omega (arith, c.requires, m.paired, m.tour.stops.ok.0) in
    let b = c.bare-mail.ensures in
    so_here (λ t w. replied_does key t w) place m _ s l c.index.ensures
    (does_told place (reply_told key (reply_kept s.side.hand.found)) m _
    (besides_as (_ ∷ []) (reply_told key (reply_kept s.side.hand.found)) m _
    (ap (λ z. Event.GatewayReply key z ∷ []) (bare_is c.in-Some.mail.now _ b.local.0 b.local.1 b.same.0 b.same.1) ∙ ap (reply_told key) c.in-Some.ensures) (besides_one m _ _ c.put.ensures.last c.put.ensures.few c.put.ensures.head (λ k. refl)))
    refl)

pub returns-in_default-clause-told : goal.returns-in_default-clause-told
returns-in_default-clause-told c =
    let m = c.args.self.now in
    let place = c.args.place in
    let key = c.args.key in
    let s = c.index.result.now in
    let l : place < length m.tour.stops.items = omega (arith, c.requires, m.paired, m.tour.stops.ok.0) in
    so_here (λ t w. replied_does key t w) place m m s l c.index.ensures
    (does_told place (reply_told key (reply_kept s.side.hand.found)) m m (besides_as [] (reply_told key (reply_kept s.side.hand.found)) m m (ap (reply_told key) c.in_default.ensures) (besides_none m m refl refl)) refl)
