use Rattle.std.proofs.Common.{◌<◌, refl, arith, length, ◌≡◌, ◌∙◌, ◌+◌, ◌≤◌, Some, None, sym, ap, subst}
use Rattle.life_runs.proofs.of_master_tour.Walks.{steps_set}
use Rattle.master_node.proofs.Kepts.{stop_side, stop_same}
use Rattle.master_node.proofs.Lists.{steps_same}
use Rattle.master_node.specs.declared.coming.Coming.{Coming}
use Rattle.master_node.specs.Passes.{IsReady}
use Rattle.master_node.proofs.Mailings.{ready_none, ready_so, waits_here, waits_set, waits_taken}
use Rattle.master_node.specs.Handed.{LaysWork}
use Rattle.master_node.proofs.Handings.{oldest_none, oldest_so}
use Rattle.master_node.specs.declared.event.Origin.{Origin}
use Rattle.master_node.proofs.Numbereds.{numbers_same}
use Rattle.master_node.proofs.node.MasterNode.lay_mail.Goals as goal

pub returns-in-Some-clause-laid : goal.returns-in-Some-clause-laid
returns-in-Some-clause-laid c =
    let m = c.args.self.now in
    let l : c.args.place < length m.tour.stops.items = omega (arith, c.requires, m.paired, m.tour.stops.ok.0) in
    steps_set _ c.args.place m.tour.stops.items c.index_mut.result.now _ l c.index_mut.ensures.value (stop_side _ _ _ c.lay_mail.ensures.kept refl refl refl refl refl refl)

pub returns-in_default-clause-laid : goal.returns-in_default-clause-laid
returns-in_default-clause-laid c =
    let m = c.args.self.now in
    let l : c.args.place < length m.tour.stops.items = omega (arith, c.requires, m.paired, m.tour.stops.ok.0) in
    steps_same _ c.args.place m.tour.stops.items l (λ s. stop_same s)

pub returns-in-Some-clause-origins : goal.returns-in-Some-clause-origins
returns-in-Some-clause-origins c =
    let m = c.args.self.now in
    let l : c.args.place < length m.tour.stops.items = omega (arith, c.requires, m.paired, m.tour.stops.ok.0) in
    let k : c.args.place < length m.posts.items = omega (arith, c.requires, m.posts.ok.0) in
    steps_set _ c.args.place m.tour.stops.items c.index_mut.result.now _ l c.index_mut.ensures.value
    (steps_set _ c.args.place m.posts.items c.index_mut-post.result.now _ k c.index_mut-post.ensures.value (record { counts = c.take.ensures.forwards; origin = tt; gateway = c.take.ensures.origin ∙ ap (λ z. Origin.Gateway z) c.oldest.ensures; numbered = λ asked h. numbers_same c.take.new.self _ refl refl asked (c.take.ensures.numbered asked (numbers_same c.index_mut-post.result.now _ refl refl asked h)); answer = c.take.ensures.answer }))

pub returns-in_default-clause-origins : goal.returns-in_default-clause-origins
returns-in_default-clause-origins c =
    let m = c.args.self.now in
    let l : c.args.place < length m.tour.stops.items = omega (arith, c.requires, m.paired, m.tour.stops.ok.0) in
    let k : c.args.place < length m.posts.items = omega (arith, c.requires, m.posts.ok.0) in
    steps_same _ c.args.place m.tour.stops.items l
    (λ s. steps_set _ c.args.place m.posts.items c.index_mut-post.result.now _ k c.index_mut-post.ensures.value (record { counts = c.take.ensures.forwards; origin = tt; gateway = c.take.ensures.origin ∙ ap (λ z. Origin.Gateway z) c.oldest.ensures; numbered = λ asked h. numbers_same c.take.new.self _ refl refl asked (c.take.ensures.numbered asked (numbers_same c.index_mut-post.result.now _ refl refl asked h)); answer = c.take.ensures.answer }))

pub returns-in-Some-clause-mails : goal.returns-in-Some-clause-mails
returns-in-Some-clause-mails c =
    let m = c.args.self.now in
    let k : c.args.place < length m.posts.items = omega (arith, c.requires, m.posts.ok.0) in
    waits_set (Some Coming.Mail) m.posts.items c.args.place c.index_mut-post.result.now _ k c.index_mut-post.ensures.value (waits_taken c.index_mut-post.result.now.mails.items c.take.new.self.mails.items c.take.ensures.mails)

pub returns-in_default-clause-mails : goal.returns-in_default-clause-mails
returns-in_default-clause-mails c =
    let m = c.args.self.now in
    let k : c.args.place < length m.posts.items = omega (arith, c.requires, m.posts.ok.0) in
    waits_set (Some Coming.Mail) m.posts.items c.args.place c.index_mut-post.result.now _ k c.index_mut-post.ensures.value (waits_taken c.index_mut-post.result.now.mails.items c.take.new.self.mails.items c.take.ensures.mails)

pub returns-in-Some-clause-ready : goal.returns-in-Some-clause-ready
returns-in-Some-clause-ready c =
    let m = c.args.self.now in
    let l : c.args.place < length m.tour.stops.items = omega (arith, c.requires, m.paired, m.tour.stops.ok.0) in
    let k : c.args.place < length m.posts.items = omega (arith, c.requires, m.posts.ok.0) in
    let p = c.index_mut-post.result.now in
    let side = c.index_mut.result.now.side in
    let same = c.lay_mail.ensures.kept.side.out_is in
    steps_set (λ s t. IsReady t.side.out.len _ t.side.hand.laying) c.args.place m.tour.stops.items c.index_mut.result.now _ l c.index_mut.ensures.value
    (subst (λ z. IsReady c.lay_mail.new.side.out.len z c.lay_mail.new.side.hand.laying) (sym (waits_here m.posts.items c.args.place p k c.index_mut-post.ensures.value))
    (ready_so c.lay_mail.new.side.out.len p c.in-Some.asked c.lay_mail.new.side.hand.laying (sym c.in-Some.is ∙ c.take.ensures.oldest) (λ f. c.lay_mail.ensures.laid (subst (λ z. 6 + length c.in-Some.asked.mail.body.items ≤ z.len) same f))))

pub returns-in_default-clause-ready : goal.returns-in_default-clause-ready
returns-in_default-clause-ready c =
    let m = c.args.self.now in
    let l : c.args.place < length m.tour.stops.items = omega (arith, c.requires, m.paired, m.tour.stops.ok.0) in
    let k : c.args.place < length m.posts.items = omega (arith, c.requires, m.posts.ok.0) in
    let p = c.index_mut-post.result.now in
    let none : c.take.result ≡ None = cc in
    steps_same (λ s t. IsReady t.side.out.len _ t.side.hand.laying) c.args.place m.tour.stops.items l
    (λ s. subst (λ z. IsReady s.side.out.len z s.side.hand.laying) (sym (waits_here m.posts.items c.args.place p k c.index_mut-post.ensures.value)) (ready_none s.side.out.len p s.side.hand.laying (sym c.take.ensures.oldest ∙ none)))

pub returns-in-Some-clause-works : goal.returns-in-Some-clause-works
returns-in-Some-clause-works c =
    let m = c.args.self.now in
    let k : c.args.place < length m.posts.items = omega (arith, c.requires, m.posts.ok.0) in
    let p = c.index_mut-post.result.now in
    steps_set (λ p q. LaysWork (Some Coming.Mail) p q) c.args.place m.posts.items p _ k c.index_mut-post.ensures.value (record { work = c.take.ensures.work; next = oldest_so p c.in-Some.asked (sym c.in-Some.is ∙ c.take.ensures.oldest) })

pub returns-in_default-clause-works : goal.returns-in_default-clause-works
returns-in_default-clause-works c =
    let m = c.args.self.now in
    let k : c.args.place < length m.posts.items = omega (arith, c.requires, m.posts.ok.0) in
    let p = c.index_mut-post.result.now in
    let none : c.take.result ≡ None = cc in
    steps_set (λ p q. LaysWork (Some Coming.Mail) p q) c.args.place m.posts.items p _ k c.index_mut-post.ensures.value (record { work = c.take.ensures.work; next = oldest_none p _ (sym c.take.ensures.oldest ∙ none) })
