use Rattle.std.proofs.Common.{refl, arith, ◌≡◌, ◌<◌, length, None}
use Rattle.master_node.specs.Shows.{WaitsNone}
use Rattle.master_node.proofs.Kepts.{node_same}
use Rattle.master_node.proofs.Lists.{all_set}
use Rattle.master_node.proofs.Listing.{forwards_set}
use Rattle.master_node.proofs.Numbereds.{numbers_set}
use Rattle.master_node.proofs.Droppeds.{drops_set}
use Rattle.life_runs.proofs.of_master_tour.Walks.{steps_set}
use Rattle.master_node.specs.declared.post.Work.{Work}
use Rattle.master_node.proofs.node.MasterNode.dropped.Goals as goal

pub returns-clause-kept : goal.returns-clause-kept
returns-clause-kept c =
    let m = c.args.self.now in
    let r = c.requires in
    let k = m.posts.ok.0 in
    node_same m _ refl refl (λ q. all_set WaitsNone m.posts.items c.args.place c.index_mut.result.now c.drop_all.new.self (omega (arith, r, k)) c.index_mut.ensures.value (λ p. c.drop_all.ensures.mails) q) (forwards_set m.posts.items c.args.place c.index_mut.result.now c.drop_all.new.self (omega (arith, r, k)) c.index_mut.ensures.value c.drop_all.ensures.forwards)
    (numbers_set m.posts.items c.args.place c.index_mut.result.now c.drop_all.new.self (omega (arith, r, k)) c.index_mut.ensures.value c.drop_all.ensures.numbered)

pub returns-clause-mails : goal.returns-clause-mails
returns-clause-mails c =
    let m = c.args.self.now in
    let r = c.requires in
    let k = m.posts.ok.0 in
    drops_set m.posts.items c.args.place c.index_mut.result.now c.drop_all.new.self (omega (arith, r, k)) c.index_mut.ensures.value c.drop_all.ensures.mails

pub returns-clause-works : goal.returns-clause-works
returns-clause-works c =
    let m = c.args.self.now in
    let l : c.args.place < length m.posts.items = omega (arith, c.requires, m.posts.ok.0) in
    steps_set (λ p q. q.work ≡ Work.Nothing) c.args.place m.posts.items c.index_mut.result.now _ l c.index_mut.ensures.value c.drop_all.ensures.work

pub returns-clause-answers : goal.returns-clause-answers
returns-clause-answers c =
    let m = c.args.self.now in
    let l : c.args.place < length m.posts.items = omega (arith, c.requires, m.posts.ok.0) in
    steps_set (λ p q. q.answer ≡ None) c.args.place m.posts.items c.index_mut.result.now _ l c.index_mut.ensures.value c.drop_all.ensures.answer
