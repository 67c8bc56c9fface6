use Rattle.std.proofs.Common.{◌≡◌, ◌<◌, ◌∙◌, [], sym, arith, length, subst}
use Rattle.std.specs.Prelude.{slice_get}
use Rattle.master_node.proofs.Restings.{if_less, none_before}
use Rattle.life_runs.proofs.of_master_tour.Walks.{steps_both, steps_set}
use Rattle.master_node.specs.Appends.{AppendsMail}
use Rattle.master_node.proofs.Places.{waiting_here}
use Rattle.life_runs.specs.of_frame_view.Shares.{AreDistinct}
use Rattle.master_node.specs.Shows.{GoesOn, lived_of}
use Rattle.master_node.proofs.Servings.{asked_so, leads_same}
use Rattle.master_node.proofs.Numbereds.{numbers_asked}
use Rattle.master_node.proofs.Answereds.{same_answers}
use Rattle.master_node.proofs.Listing.{forwards_set}
use Rattle.master_node.proofs.node.MasterNode.ask.Goals as goal

pub returns-clause-full : goal.returns-clause-full
returns-clause-full c =
    let l : c.args.slave < length c.args.self.now.posts.items = omega (arith, c.requires, c.args.self.now.posts.ok.0) in
    let e = waiting_here c.args.self.now.posts.items c.args.slave c.index_mut.result.now l c.index_mut.ensures.value in
    (λ h. sym e ∙ c.ask.ensures.full.0 h, λ h. c.ask.ensures.full.1 (e ∙ h))

pub returns-clause-waits : goal.returns-clause-waits
returns-clause-waits c = λ r.
    let l : c.args.slave < length c.args.self.now.posts.items = omega (arith, c.requires, c.args.self.now.posts.ok.0) in
    steps_set (λ p q. AppendsMail c.args.key c.args.mail.now p.mails.items q.mails.items) c.args.slave c.args.self.now.posts.items c.index_mut.result.now c.ask.new.self l c.index_mut.ensures.value (c.ask.ensures.appends (let e = waiting_here c.args.self.now.posts.items c.args.slave c.index_mut.result.now l c.index_mut.ensures.value in omega (arith, e, r)))

pub returns-clause-stays : goal.returns-clause-stays
returns-clause-stays c = λ r.
    let l : c.args.slave < length c.args.self.now.posts.items = omega (arith, c.requires, c.args.self.now.posts.ok.0) in
    steps_set (λ p q. q ≡ p) c.args.slave c.args.self.now.posts.items c.index_mut.result.now c.ask.new.self l c.index_mut.ensures.value (c.ask.ensures.same r)

pub returns-clause-works : goal.returns-clause-works
returns-clause-works c =
    let l : c.args.slave < length c.args.self.now.posts.items = omega (arith, c.requires, c.args.self.now.posts.ok.0) in
    steps_set (λ p q. q.work ≡ p.work) c.args.slave c.args.self.now.posts.items c.index_mut.result.now c.ask.new.self l c.index_mut.ensures.value c.ask.ensures.work

pub returns-clause-served : goal.returns-clause-served
returns-clause-served c = λ lens recover retry missed made ws r f h.
    let m = c.args.self.now in
    let l : c.args.slave < length m.posts.items = omega (arith, c.requires, m.posts.ok.0) in
    let stays = steps_set (λ p q. q.oldest ≡ p.oldest) c.args.slave m.posts.items c.index_mut.result.now c.ask.new.self l c.index_mut.ensures.value c.ask.ensures.oldest in
    let a = asked_so lens recover made c.args.key c.args.mail.now c.args.slave ws m.posts.items _ m.tour.stops.items r f h.each (steps_both _ _ c.args.slave m.posts.items _ (returns-clause-waits c r) (returns-clause-works c)) in (
      a.asks,
      a.is,
      a.may,
      record {
        each = a.each;
        distinct = subst (λ z. AreDistinct z) (sym (leads_same lived_of c.args.slave a.asks ws)) h.distinct;
        goes = subst (λ z. GoesOn m.tour.again m.tour.visit.items m.tour.opened z) (sym (leads_same (λ l. l) c.args.slave a.asks ws)) h.goes;
        missed_is = h.missed_is;
        retry_is = h.retry_is;
        again = h.again;
        made_is = h.made_is;
        early = h.early;
        numbered = numbers_asked c.args.key c.args.mail.now a.asks c.args.slave ws m.posts.items _ (steps_both _ _ c.args.slave m.posts.items _ (returns-clause-waits c r) stays) h.numbered;
      },
    )

pub returns-clause-idle : goal.returns-clause-idle
returns-clause-idle c = λ idle.
    let m = c.args.self.now in
    let l : c.args.slave < length m.posts.items = omega (arith, c.requires, m.posts.ok.0) in
    let goes = steps_set (λ p q. q.mails.items ≡ [] → p.mails.items ≡ []) c.args.slave m.posts.items c.index_mut.result.now c.ask.new.self l c.index_mut.ensures.value c.ask.ensures.empty in
    record { rest = λ k. if_less _ _ (slice_get m.tour.stops.items k) (λ s p. (p.0, λ o. none_before c.args.slave m.posts.items _ goes k (p.1 o))) (idle.rest k); come = idle.come }

pub returns-clause-counts : goal.returns-clause-counts
returns-clause-counts c =
    let m = c.args.self.now in
    let l : c.args.slave < length m.posts.items = omega (arith, c.requires, m.posts.ok.0) in
    forwards_set m.posts.items c.args.slave c.index_mut.result.now c.ask.new.self l c.index_mut.ensures.value c.ask.ensures.forwards

pub returns-clause-answers : goal.returns-clause-answers
returns-clause-answers c =
    let m = c.args.self.now in
    let l : c.args.slave < length m.posts.items = omega (arith, c.requires, m.posts.ok.0) in
    same_answers (λ p q. q.answer ≡ p.answer) (λ p q e. e) c.args.slave m.posts.items _ (steps_set (λ p q. q.answer ≡ p.answer) c.args.slave m.posts.items c.index_mut.result.now c.ask.new.self l c.index_mut.ensures.value c.ask.ensures.answer)
