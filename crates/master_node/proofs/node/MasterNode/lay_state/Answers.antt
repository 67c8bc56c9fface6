use Rattle.std.proofs.Common.{◌<◌, refl, ap, arith, length, Some}
use Rattle.life_runs.proofs.of_master_tour.Walks.{steps_set}
use Rattle.master_node.specs.declared.event.Origin.{Origin}
use Rattle.master_node.proofs.Listing.{steps_stay}
use Rattle.master_node.proofs.Servings.{posts_set}
use Rattle.master_node.specs.Handed.{LaysWork}
use Rattle.master_node.specs.declared.coming.Coming.{Coming}
use Rattle.master_node.proofs.Numbereds.{numbers_same}
use Rattle.master_node.proofs.node.MasterNode.lay_state.Goals as goal

pub returns-clause-origins : goal.returns-clause-origins
returns-clause-origins c =
    let m = c.args.self.now in
    let l : c.args.place < length m.tour.stops.items = omega (arith, c.requires, m.paired, m.tour.stops.ok.0) in
    let k : c.args.place < length m.posts.items = omega (arith, c.requires, m.posts.ok.0) in
    steps_stay _ c.args.place m.tour.stops.items c.index.result.now l c.index.ensures
    (steps_set _ c.args.place m.posts.items c.index_mut-post.result.now _ k c.index_mut-post.ensures.value (refl, ap (λ z. Origin.Script z) c.number-number.ensures, numbers_same c.index_mut-post.result.now _ refl refl, refl))

pub returns-clause-mails : goal.returns-clause-mails
returns-clause-mails c =
    let m = c.args.self.now in
    let k : c.args.place < length m.posts.items = omega (arith, c.requires, m.posts.ok.0) in
    posts_set m.posts.items c.args.place c.index_mut-post.result.now _ k c.index_mut-post.ensures.value refl

pub returns-clause-works : goal.returns-clause-works
returns-clause-works c = λ target.
    let m = c.args.self.now in
    let k : c.args.place < length m.posts.items = omega (arith, c.requires, m.posts.ok.0) in
    steps_set (λ p q. LaysWork (Some (Coming.State target)) p q) c.args.place m.posts.items c.index_mut-post.result.now _ k c.index_mut-post.ensures.value (record { work = refl; next = refl })
