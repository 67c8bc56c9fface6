use Rattle.std.proofs.Common.{◌≡◌, ◌∙◌, ◌<◌, Some, inl, inr, refl, sym, ap, arith, length}
use Rattle.life_runs.specs.of_master_hand.declared.laying.Laid.{Laid}
use Rattle.master_node.specs.Begins.{IsOldest}
use Rattle.life_runs.proofs.of_master_tour.Walks.{steps_set}
use Rattle.master_node.proofs.Kepts.{stop_side}
use Rattle.master_node.proofs.Servings.{posts_set}
use Rattle.master_node.specs.Handed.{LaysWork}
use Rattle.master_node.specs.declared.coming.Coming.{Coming}
use Rattle.master_node.proofs.Numbereds.{numbers_same}
use Rattle.master_node.proofs.node.MasterNode.lay_packet.Goals as goal

pub returns-in-Some-clause-laid : goal.returns-in-Some-clause-laid
returns-in-Some-clause-laid c =
    let m = c.args.self.now in
    let l : c.args.place < length m.tour.stops.items = omega (arith, c.requires, m.paired, m.tour.stops.ok.0) in
    steps_set _ c.args.place m.tour.stops.items c.index_mut.result.now _ l c.index_mut.ensures.value (stop_side _ _ _ c.lay_packet.ensures.kept refl refl refl refl refl refl, inl c.lay_packet.ensures.laid)

pub returns-in-None-clause-laid : goal.returns-in-None-clause-laid
returns-in-None-clause-laid c =
    let m = c.args.self.now in
    let l : c.args.place < length m.tour.stops.items = omega (arith, c.requires, m.paired, m.tour.stops.ok.0) in
    steps_set _ c.args.place m.tour.stops.items c.index_mut-in-None.result.now _ l c.index_mut-in-None.ensures.value (stop_side _ _ _ c.lay_nothing.ensures.kept refl refl refl refl refl refl, inr c.lay_nothing.ensures.laid)

pub returns-in-Some-clause-oldest : goal.returns-in-Some-clause-oldest
returns-in-Some-clause-oldest c =
    let m = c.args.self.now in
    let l : c.args.place < length m.tour.stops.items = omega (arith, c.requires, m.paired, m.tour.stops.ok.0) in
    steps_set (λ s t. IsOldest m.lan c.args.place t) c.args.place m.tour.stops.items c.index_mut.result.now _ l c.index_mut.ensures.value
    (λ e. c.in-Some.ensures.oldest ∙ ap (λ z. Some (record { items = z })) (sym c.lay_packet.ensures.packet))

pub returns-in-None-clause-oldest : goal.returns-in-None-clause-oldest
returns-in-None-clause-oldest c =
    let m = c.args.self.now in
    let l : c.args.place < length m.tour.stops.items = omega (arith, c.requires, m.paired, m.tour.stops.ok.0) in
    steps_set (λ s t. IsOldest m.lan c.args.place t) c.args.place m.tour.stops.items c.index_mut-in-None.result.now _ l c.index_mut-in-None.ensures.value
    (λ e. absurd (let bad : Laid.Nothing ≡ Laid.Packet = sym c.lay_nothing.ensures.laid ∙ e in cc))

pub returns-in-Some-clause-origins : goal.returns-in-Some-clause-origins
returns-in-Some-clause-origins c =
    let m = c.args.self.now in
    let l : c.args.place < length m.tour.stops.items = omega (arith, c.requires, m.paired, m.tour.stops.ok.0) in
    let k : c.args.place < length m.posts.items = omega (arith, c.requires, m.posts.ok.0) in
    steps_set _ c.args.place m.tour.stops.items c.index_mut.result.now _ l c.index_mut.ensures.value (steps_set _ c.args.place m.posts.items c.index_mut-post.result.now _ k c.index_mut-post.ensures.value (record { counts = refl; origin = refl; gateway = tt; numbered = numbers_same c.index_mut-post.result.now _ refl refl; answer = refl }))

pub returns-in-None-clause-origins : goal.returns-in-None-clause-origins
returns-in-None-clause-origins c =
    let m = c.args.self.now in
    let l : c.args.place < length m.tour.stops.items = omega (arith, c.requires, m.paired, m.tour.stops.ok.0) in
    let k : c.args.place < length m.posts.items = omega (arith, c.requires, m.posts.ok.0) in
    steps_set _ c.args.place m.tour.stops.items c.index_mut-in-None.result.now _ l c.index_mut-in-None.ensures.value (steps_set _ c.args.place m.posts.items c.index_mut-post.result.now _ k c.index_mut-post.ensures.value (record { counts = refl; origin = refl; gateway = tt; numbered = numbers_same c.index_mut-post.result.now _ refl refl; answer = refl }))

pub returns-in-Some-clause-sure : goal.returns-in-Some-clause-sure
returns-in-Some-clause-sure c = λ n.
    let m = c.args.self.now in
    let l : c.args.place < length m.tour.stops.items = omega (arith, c.requires, m.paired, m.tour.stops.ok.0) in
    steps_set (λ s t. t.side.hand.laying.laid ≡ Laid.Packet) c.args.place m.tour.stops.items c.index_mut.result.now _ l c.index_mut.ensures.value c.lay_packet.ensures.laid

pub returns-in-None-clause-sure : goal.returns-in-None-clause-sure
returns-in-None-clause-sure c = λ n. absurd (n (c.oldest.ensures.none c.in-None.is))

pub returns-in-Some-clause-mails : goal.returns-in-Some-clause-mails
returns-in-Some-clause-mails c =
    let m = c.args.self.now in
    let k : c.args.place < length m.posts.items = omega (arith, c.requires, m.posts.ok.0) in
    posts_set m.posts.items c.args.place c.index_mut-post.result.now _ k c.index_mut-post.ensures.value refl

pub returns-in-None-clause-mails : goal.returns-in-None-clause-mails
returns-in-None-clause-mails c =
    let m = c.args.self.now in
    let k : c.args.place < length m.posts.items = omega (arith, c.requires, m.posts.ok.0) in
    posts_set m.posts.items c.args.place c.index_mut-post.result.now _ k c.index_mut-post.ensures.value refl

pub returns-in-Some-clause-works : goal.returns-in-Some-clause-works
returns-in-Some-clause-works c =
    let m = c.args.self.now in
    let k : c.args.place < length m.posts.items = omega (arith, c.requires, m.posts.ok.0) in
    steps_set (λ p q. LaysWork (Some Coming.Packet) p q) c.args.place m.posts.items c.index_mut-post.result.now _ k c.index_mut-post.ensures.value (record { work = refl; next = refl })

pub returns-in-None-clause-works : goal.returns-in-None-clause-works
returns-in-None-clause-works c =
    let m = c.args.self.now in
    let k : c.args.place < length m.posts.items = omega (arith, c.requires, m.posts.ok.0) in
    steps_set (λ p q. LaysWork (Some Coming.Packet) p q) c.args.place m.posts.items c.index_mut-post.result.now _ k c.index_mut-post.ensures.value (record { work = refl; next = refl })
