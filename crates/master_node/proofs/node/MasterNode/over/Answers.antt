use Rattle.master_node.proofs.Tells.{node_refl}
use Rattle.master_node.proofs.Servings.{tells_refl}
use Rattle.std.proofs.Common.{◌≡◌, ◌⊎◌, inl, inr, ◌<◌, ℕ, length, arith, refl, sym, ◌∙◌, ap}
use Rattle.master_node.specs.declared.post.Work.{Work}
use Rattle.master_node.specs.Handed.{work_at}
use Rattle.master_node.proofs.Endings.{ends_free, ends_told, not_passed, work_got}
use Rattle.life_runs.specs.of_master_hand.contracts.hand.InHandHand.TheImpl as Impl
use Rattle.life_runs.specs.of_master_hand.declared.hand.InHand.{InHand}
use Rattle.life_runs.specs.of_master_tour.declared.stop.Stop.{Stop}
use Rattle.master_node.specs.Besides.{handed_does, met_does, over_does, passed_does, stays}
use Rattle.master_node.proofs.Besides.{so_stays, so_where}
use Rattle.master_node.proofs.node.MasterNode.over.Goals as goal

-- no mail is in hand that is passed on
no_mail : (w : Work) → (w ≡ Work.Nothing) ⊎ (w ≡ Work.Mails) → (key : ℕ) → w ≡ Work.Passed key → ⊥
no_mail w (inl e) key f = absurd (let bad : Work.Nothing ≡ Work.Passed key = sym e ∙ f in cc)
no_mail w (inr e) key f = absurd (let bad : Work.Mails ≡ Work.Passed key = sym e ∙ f in cc)

-- a service that has a reply by mails of its own isn't over by this
mails_stay : (place : ℕ) (s : Stop InHand Impl.ghosts) (w : Work) → (w ≡ Work.Nothing) ⊎ (w ≡ Work.Mails) → stays w ≡ over_does place s w
mails_stay place s w (inl e) = ap stays e ∙ sym (ap (λ z. over_does place s z) e)
mails_stay place s w (inr e) = ap stays e ∙ sym (ap (λ z. over_does place s z) e)

pub returns-in-Nothing-clause-kept : goal.returns-in-Nothing-clause-kept
returns-in-Nothing-clause-kept c = node_refl _

pub returns-in-Nothing-clause-tells : goal.returns-in-Nothing-clause-tells
returns-in-Nothing-clause-tells c = tells_refl _

pub returns-in-Nothing-clause-works : goal.returns-in-Nothing-clause-works
returns-in-Nothing-clause-works c =
    let m = c.args.self.now in
    let l : c.args.place < length m.posts.items = omega (arith, c.requires, m.posts.ok.0) in
    let none = λ (key : ℕ) (e : work_at m.posts.items c.args.place ≡ Work.Passed key). not_passed m.posts.items c.args.place c.index.result.now l c.index.ensures (no_mail c.index.result.now.work c.in-Nothing.is) key e in
    ends_free _ c.args.place m.posts.items m.posts.items (λ key e. absurd (none key e)) (ends_told _ _ _ refl)

pub returns-in-Packet-clause-works : goal.returns-in-Packet-clause-works
returns-in-Packet-clause-works c =
    let m = c.args.self.now in
    let l : c.args.place < length m.posts.items = omega (arith, c.requires, m.posts.ok.0) in
    let none = λ (key : ℕ) (e : work_at m.posts.items c.args.place ≡ Work.Passed key). not_passed m.posts.items c.args.place c.index.result.now l c.index.ensures (λ k f. (let bad = sym c.in-Packet.is ∙ f in absurd (cc))) key e in
    ends_free _ c.args.place m.posts.items c.handed.new.self.posts.items (λ key e. absurd (none key e)) (c.handed.ensures.works none)

pub returns-in-State-clause-works : goal.returns-in-State-clause-works
returns-in-State-clause-works c =
    let m = c.args.self.now in
    let l : c.args.place < length m.posts.items = omega (arith, c.requires, m.posts.ok.0) in
    let none = λ (key : ℕ) (e : work_at m.posts.items c.args.place ≡ Work.Passed key). not_passed m.posts.items c.args.place c.index.result.now l c.index.ensures (λ k f. (let bad = sym c.in-State.is ∙ f in absurd (cc))) key e in
    ends_free _ c.args.place m.posts.items c.met.new.self.posts.items (λ key e. absurd (none key e)) (c.met.ensures.works none)

pub returns-in-Passed-clause-works : goal.returns-in-Passed-clause-works
returns-in-Passed-clause-works c = c.passed.ensures.works

pub returns-in-Nothing-clause-told : goal.returns-in-Nothing-clause-told
returns-in-Nothing-clause-told c =
    let m = c.args.self.now in
    let place = c.args.place in
    let l : place < length m.posts.items = omega (arith, c.requires, m.posts.ok.0) in
    let is : work_at m.posts.items place ≡ c.index.result.now.work = work_got m.posts.items place c.index.result.now l c.index.ensures in
    so_where (λ s w. stays w) (λ s w. over_does place s w) place c.index.result.now.work m m is (λ s. mails_stay place s c.index.result.now.work c.in-Nothing.is) (so_stays place m)

pub returns-in-Packet-clause-told : goal.returns-in-Packet-clause-told
returns-in-Packet-clause-told c =
    let m = c.args.self.now in
    let place = c.args.place in
    let l : place < length m.posts.items = omega (arith, c.requires, m.posts.ok.0) in
    let is : work_at m.posts.items place ≡ Work.Packet = work_got m.posts.items place c.index.result.now l c.index.ensures ∙ c.in-Packet.is in
    so_where (λ s w. handed_does place s w) (λ s w. over_does place s w) place Work.Packet m c.handed.new.self is (λ s. refl) c.handed.ensures.told

pub returns-in-Passed-clause-told : goal.returns-in-Passed-clause-told
returns-in-Passed-clause-told c =
    let m = c.args.self.now in
    let place = c.args.place in
    let l : place < length m.posts.items = omega (arith, c.requires, m.posts.ok.0) in
    let is : work_at m.posts.items place ≡ Work.Passed c.in-Passed.key = work_got m.posts.items place c.index.result.now l c.index.ensures ∙ c.in-Passed.is in
    so_where (λ s w. passed_does place c.in-Passed.key s w) (λ s w. over_does place s w) place (Work.Passed c.in-Passed.key) m c.passed.new.self is (λ s. refl) c.passed.ensures.told

pub returns-in-State-clause-told : goal.returns-in-State-clause-told
returns-in-State-clause-told c =
    let m = c.args.self.now in
    let place = c.args.place in
    let l : place < length m.posts.items = omega (arith, c.requires, m.posts.ok.0) in
    let is : work_at m.posts.items place ≡ Work.State = work_got m.posts.items place c.index.result.now l c.index.ensures ∙ c.in-State.is in
    so_where (λ s w. met_does place s w) (λ s w. over_does place s w) place Work.State m c.met.new.self is (λ s. refl) c.met.ensures.told
