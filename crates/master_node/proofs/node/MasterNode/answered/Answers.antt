use Rattle.std.proofs.Common.{refl, arith, ◌≡◌, ◌<◌, length, Some}
use Rattle.master_node.specs.Shows.{WaitsNone}
use Rattle.master_node.proofs.Kepts.{node_same}
use Rattle.master_node.proofs.Lists.{all_set}
use Rattle.master_node.proofs.Servings.{posts_set}
use Rattle.master_node.proofs.Listing.{forwards_set}
use Rattle.master_node.proofs.Numbereds.{numbers_same, numbers_set}
use Rattle.life_runs.proofs.of_master_tour.Walks.{steps_set}
use Rattle.master_node.specs.declared.post.Work.{Work}
use Rattle.master_node.proofs.Besides.{besides_one, does_answered}
use Rattle.master_node.proofs.Answereds.{answered_answers}
use Rattle.master_node.proofs.node.MasterNode.answered.Goals as goal

pub returns-clause-kept : goal.returns-clause-kept
returns-clause-kept c =
    let m = c.args.self.now in
    let r = c.requires in
    let k = m.posts.ok.0 in
    node_same m _ refl refl (λ q. all_set WaitsNone m.posts.items c.args.place c.index_mut-post.result.now _ (omega (arith, r, k)) c.index_mut-post.ensures.value (λ p. p) q) (forwards_set m.posts.items c.args.place c.index_mut-post.result.now _ (omega (arith, r, k)) c.index_mut-post.ensures.value refl)
    (numbers_set m.posts.items c.args.place c.index_mut-post.result.now _ (omega (arith, r, k)) c.index_mut-post.ensures.value (numbers_same c.index_mut-post.result.now _ refl refl))

pub returns-clause-tells : goal.returns-clause-tells
returns-clause-tells c =
    let m = c.args.self.now in
    let r = c.requires in
    let k = m.posts.ok.0 in
    record { tour = refl; made = refl; mails = posts_set m.posts.items c.args.place c.index_mut-post.result.now _ (omega (arith, r, k)) c.index_mut-post.ensures.value refl }

pub returns-clause-works : goal.returns-clause-works
returns-clause-works c =
    let m = c.args.self.now in
    let l : c.args.place < length m.posts.items = omega (arith, c.requires, m.posts.ok.0) in
    steps_set (λ p q. q.work ≡ Work.Nothing) c.args.place m.posts.items c.index_mut-post.result.now _ l c.index_mut-post.ensures.value refl

pub returns-clause-answers : goal.returns-clause-answers
returns-clause-answers c =
    let m = c.args.self.now in
    let l : c.args.place < length m.posts.items = omega (arith, c.requires, m.posts.ok.0) in
    steps_set (λ p q. q.answer ≡ Some c.args.kind) c.args.place m.posts.items c.index_mut-post.result.now _ l c.index_mut-post.ensures.value refl

pub returns-clause-told : goal.returns-clause-told
returns-clause-told c =
    let m = c.args.self.now in
    does_answered c.args.place c.args.kind m _
    (besides_one m _ _ c.put.ensures.last c.put.ensures.few c.put.ensures.head (answered_answers c.args.kind c.args.place m.posts.items _ (returns-clause-answers c))) (returns-clause-works c)
