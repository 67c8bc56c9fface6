use Rattle.std.proofs.Common.{◌≡◌, ◌⊎◌, inl, inr, ◌<◌, ℕ, [], refl, sym, ap, ◌∙◌, length, arith}
use Rattle.life_runs.specs.of_master_hand.contracts.hand.InHandHand.TheImpl as Impl
use Rattle.life_runs.specs.of_master_hand.declared.hand.InHand.{InHand}
use Rattle.life_runs.specs.of_master_tour.declared.stop.Stop.{Stop}
use Rattle.master_node.specs.Besides.{complete_does, emitted_does, mail_does, replied_does, stays}
use Rattle.master_node.specs.Handed.{passing_at, work_at}
use Rattle.master_node.specs.declared.post.Work.{Work}
use Rattle.master_node.proofs.Besides.{so_stays, so_then, so_where}
use Rattle.master_node.proofs.Endings.{ends_from, ends_then, not_passed, work_got}
use Rattle.master_node.proofs.Servings.{tells_then}
use Rattle.master_node.proofs.Tells.{node_then}
use Rattle.master_node.proofs.node.MasterNode.heard.Goals as goal

-- nothing happens but in a service by mails
none_does : (place : ℕ) (s : Stop InHand Impl.ghosts) (w : Work) → (w ≡ Work.Nothing) ⊎ ((w ≡ Work.State) ⊎ (w ≡ Work.Packet)) → stays w ≡ mail_does place s w
none_does place s w (inl e) = ap stays e ∙ sym (ap (λ z. mail_does place s z) e)
none_does place s w (inr (inl e)) = ap stays e ∙ sym (ap (λ z. mail_does place s z) e)
none_does place s w (inr (inr e)) = ap stays e ∙ sym (ap (λ z. mail_does place s z) e)

pub returns-in-Passed-clause-kept : goal.returns-in-Passed-clause-kept
returns-in-Passed-clause-kept c = node_then _ _ _ c.replied.ensures.kept c.emitted.ensures.kept

pub returns-in-Mails-clause-kept : goal.returns-in-Mails-clause-kept
returns-in-Mails-clause-kept c = node_then _ _ _ c.complete.ensures.kept c.emitted.ensures.kept

pub returns-in-Passed-clause-tells : goal.returns-in-Passed-clause-tells
returns-in-Passed-clause-tells c = tells_then _ _ _ c.replied.ensures.tells c.emitted.ensures.tells

pub returns-in-Mails-clause-tells : goal.returns-in-Mails-clause-tells
returns-in-Mails-clause-tells c = tells_then _ _ _ c.complete.ensures.tells c.emitted.ensures.tells

pub returns-in-Passed-clause-works : goal.returns-in-Passed-clause-works
returns-in-Passed-clause-works c =
    let m = c.args.self.now in
    let n = c.emitted.new.self in
    ends_then (λ k. passing_at m.tour.stops.items k) [] [] m.posts.items n.posts.items c.replied.new.self.posts.items c.emitted.ensures.works
    (ends_from _ (λ k. passing_at n.tour.stops.items k) [] _ _ (λ k. ap (λ z. passing_at z.stops.items k) c.emitted.ensures.tells.tour) c.replied.ensures.works)

pub returns-in-Mails-clause-works : goal.returns-in-Mails-clause-works
returns-in-Mails-clause-works c =
    let m = c.args.self.now in
    let n = c.emitted.new.self in
    let l : c.args.place < length n.posts.items = omega (arith, c.requires, m.posts.ok.0, n.posts.ok.0, c.emitted.ensures.posts) in
    ends_then (λ k. passing_at m.tour.stops.items k) [] [] m.posts.items n.posts.items c.complete.new.self.posts.items c.emitted.ensures.works
    (ends_from _ (λ k. passing_at n.tour.stops.items k) [] _ _ (λ k. ap (λ z. passing_at z.stops.items k) c.emitted.ensures.tells.tour)
    (c.complete.ensures.works (not_passed n.posts.items c.args.place c.index.result.now l c.index.ensures (λ k f. (let bad = sym c.in-Mails.is ∙ f in absurd (cc))))))

pub returns-in-Passed-clause-told : goal.returns-in-Passed-clause-told
returns-in-Passed-clause-told c =
    let m = c.args.self.now in
    let n = c.emitted.new.self in
    let place = c.args.place in
    let key = c.in-Passed.key in
    let l : place < length n.posts.items = omega (arith, c.requires, m.posts.ok.0, n.posts.ok.0, c.emitted.ensures.posts) in
    let is : work_at n.posts.items place ≡ Work.Passed key = work_got n.posts.items place c.index.result.now l c.index.ensures ∙ c.in-Passed.is in
    so_then (λ s w. emitted_does place s w) (λ s w. mail_does place s w) place m n c.replied.new.self c.emitted.ensures.tells.tour c.emitted.ensures.told
    (so_where (λ s w. replied_does key s w) (λ s w. mail_does place s w) place (Work.Passed key) n c.replied.new.self is (λ s. refl) c.replied.ensures.told)

pub returns-in-Mails-clause-told : goal.returns-in-Mails-clause-told
returns-in-Mails-clause-told c =
    let m = c.args.self.now in
    let n = c.emitted.new.self in
    let place = c.args.place in
    let l : place < length n.posts.items = omega (arith, c.requires, m.posts.ok.0, n.posts.ok.0, c.emitted.ensures.posts) in
    let is : work_at n.posts.items place ≡ Work.Mails = work_got n.posts.items place c.index.result.now l c.index.ensures ∙ c.in-Mails.is in
    so_then (λ s w. emitted_does place s w) (λ s w. mail_does place s w) place m n c.complete.new.self c.emitted.ensures.tells.tour c.emitted.ensures.told
    (so_where (λ s w. complete_does place s w) (λ s w. mail_does place s w) place Work.Mails n c.complete.new.self is (λ s. refl) c.complete.ensures.told)

pub returns-in-Nothing-clause-told : goal.returns-in-Nothing-clause-told
returns-in-Nothing-clause-told c =
    let m = c.args.self.now in
    let n = c.emitted.new.self in
    let place = c.args.place in
    let w = work_at n.posts.items place in
    let got = c.index.result.now.work in
    let l : place < length n.posts.items = omega (arith, c.requires, m.posts.ok.0, n.posts.ok.0, c.emitted.ensures.posts) in
    so_then (λ s v. emitted_does place s v) (λ s v. mail_does place s v) place m n n c.emitted.ensures.tells.tour c.emitted.ensures.told
    (so_where (λ s v. stays v) (λ s v. mail_does place s v) place got n n (work_got n.posts.items place c.index.result.now l c.index.ensures) (λ s. none_does place s got c.in-Nothing.is) (so_stays place n))
