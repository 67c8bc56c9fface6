use Rattle.std.proofs.Common.{◌<◌, refl, arith, length, ap, Some}
use Rattle.life_runs.proofs.of_master_tour.Walks.{steps_set}
use Rattle.master_node.proofs.Kepts.{stop_side}
use Rattle.master_node.specs.declared.event.Origin.{Origin}
use Rattle.master_node.proofs.Servings.{posts_set}
use Rattle.master_node.specs.Handed.{LaysWork}
use Rattle.master_node.specs.declared.coming.Coming.{Coming}
use Rattle.master_node.proofs.Numbereds.{numbers_same}
use Rattle.master_node.proofs.node.MasterNode.lay_script.Goals as goal

pub returns-clause-laid : goal.returns-clause-laid
returns-clause-laid c =
    let m = c.args.self.now in
    let l : c.args.place < length m.tour.stops.items = omega (arith, c.requires, m.paired, m.tour.stops.ok.0) in
    steps_set _ c.args.place m.tour.stops.items c.index_mut.result.now _ l c.index_mut.ensures.value (stop_side _ _ _ c.lay_script.ensures.kept refl refl refl refl refl refl, c.lay_script.ensures.laid)

pub returns-clause-origins : goal.returns-clause-origins
returns-clause-origins c =
    let m = c.args.self.now in
    let l : c.args.place < length m.tour.stops.items = omega (arith, c.requires, m.paired, m.tour.stops.ok.0) in
    let k : c.args.place < length m.posts.items = omega (arith, c.requires, m.posts.ok.0) in
    steps_set _ c.args.place m.tour.stops.items c.index_mut.result.now _ l c.index_mut.ensures.value
    (steps_set _ c.args.place m.posts.items c.index_mut-post.result.now _ k c.index_mut-post.ensures.value (record { counts = refl; origin = ap (λ z. Origin.Script z) c.number-number.ensures; gateway = tt; numbered = numbers_same c.index_mut-post.result.now _ refl refl; answer = refl }))

pub returns-clause-mails : goal.returns-clause-mails
returns-clause-mails c =
    let m = c.args.self.now in
    let k : c.args.place < length m.posts.items = omega (arith, c.requires, m.posts.ok.0) in
    posts_set m.posts.items c.args.place c.index_mut-post.result.now _ k c.index_mut-post.ensures.value refl

pub returns-clause-works : goal.returns-clause-works
returns-clause-works c =
    let m = c.args.self.now in
    let k : c.args.place < length m.posts.items = omega (arith, c.requires, m.posts.ok.0) in
    steps_set (λ p q. LaysWork (Some Coming.Script) p q) c.args.place m.posts.items c.index_mut-post.result.now _ k c.index_mut-post.ensures.value (record { work = refl; next = refl })
