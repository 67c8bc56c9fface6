use Rattle.std.proofs.Common.{◌≡◌, true, sym, subst, ap, ◌∙◌, Option, Some, None, refl}
use Rattle.master_side.specs.declared.carried.Wish.{Wish}
use Rattle.master_side.specs.Shown.{SideShows, Begins, wish_begun, takes_ready}
use Rattle.master_duty.specs.of_segment_model.Ends as Ends
use Rattle.master_side.specs.Passing.{PassingShows, passing_seen, passing_behind}
use Rattle.master_side.proofs.Passings.{still_shows}
use Rattle.master_side.proofs.Agains.{again_most}
use Rattle.master_side.proofs.side.Side.begin.Goals as goal

pub returns-in-Mails-clause-picked : goal.returns-in-Mails-clause-picked
returns-in-Mails-clause-picked g c = λ x made d a s.
    let old = c.args.self.now in
    let new = c.begin_mails.new.self in
    let f = c.is_free.ensures.free x d a s c.if-not-is_free.false in
    let e : c.args.wish ≡ Some Wish.Mails = c.in-Some.is ∙ ap Some c.in-Mails.is in
    subst (λ (w : Option Wish). Begins x g.H.Hand.acknowledged made d a (wish_begun c.begin_mails.result w (g.H.Hand.ready old.hand)) (λ e b. SideShows (g.H.Hand.shows new.hand x) new.out new.inn new.fresh new.duty e b)) (sym e)
    (c.begin_mails.ensures.picked x made d a s f.0 f.2)

pub returns-in-Mails-clause-unpassed : goal.returns-in-Mails-clause-unpassed
returns-in-Mails-clause-unpassed g c = λ p h.
    let e : c.args.wish ≡ Some Wish.Mails = c.in-Some.is ∙ ap Some c.in-Mails.is in
    c.begin_mails.ensures.unpassed (λ t. h (λ i. takes_ready (t i) (e i)))

pub returns-in-State-clause-picked : goal.returns-in-State-clause-picked
returns-in-State-clause-picked g c = λ x made d a s.
    let old = c.args.self.now in
    let new = c.begin_state.new.self in
    let f = c.is_free.ensures.free x d a s c.if-not-is_free.false in
    let e : c.args.wish ≡ Some (Wish.State c.in-State.target) = c.in-Some.is ∙ ap Some c.in-State.is in
    subst (λ (w : Option Wish). Begins x g.H.Hand.acknowledged made d a (wish_begun true w (g.H.Hand.ready old.hand)) (λ e b. SideShows (g.H.Hand.shows new.hand x) new.out new.inn new.fresh new.duty e b)) (sym e)
    (c.begin_state.ensures.picked x made d a s f.0 f.1 f.2)

pub returns-then-not-is_free-clause-again : goal.returns-then-not-is_free-clause-again
returns-then-not-is_free-clause-again g c = λ r. again_most c.args.self.now r

pub returns-in_default-clause-again : goal.returns-in_default-clause-again
returns-in_default-clause-again g c = λ r. again_most c.args.self.now r

pub returns-in-Mails-clause-again : goal.returns-in-Mails-clause-again
returns-in-Mails-clause-again g c = λ r. let f = c.is_free.ensures.bare c.if-not-is_free.false in c.begin_mails.ensures.again f.0 f.1 r

pub returns-in-State-clause-again : goal.returns-in-State-clause-again
returns-in-State-clause-again g c = λ r. let f = c.is_free.ensures.bare c.if-not-is_free.false in c.begin_state.ensures.again f.0 f.1 r

pub returns-in-Mails-clause-passing : goal.returns-in-Mails-clause-passing
returns-in-Mails-clause-passing g c = λ p s.
    let ready = g.H.Hand.ready c.args.self.now.hand in
    let passed = g.H.Hand.passed in
    let new = c.begin_mails.new.self in
    let e : c.args.wish ≡ Some Wish.Mails = c.in-Some.is ∙ ap Some c.in-Mails.is in
    let n : p ≡ None = s.is ∙ ap passing_seen (c.is_free.ensures.bare c.if-not-is_free.false).1 in
    subst (λ (w : Option Wish). PassingShows (g.H.Hand.awaits new.hand) new.passing (passing_behind passed p (wish_begun c.begin_mails.result w ready))) (sym e)
    (subst (λ (q : Option Ends.Passing). PassingShows (g.H.Hand.awaits new.hand) new.passing (passing_behind passed q (wish_begun c.begin_mails.result (Some Wish.Mails) ready))) (sym n) c.begin_mails.ensures.passing)

pub returns-in-State-clause-passing : goal.returns-in-State-clause-passing
returns-in-State-clause-passing g c = λ p s.
    let old = c.args.self.now in
    let new = c.begin_state.new.self in
    let k = c.begin_state.ensures.kept in
    let e : c.args.wish ≡ Some (Wish.State c.in-State.target) = c.in-Some.is ∙ ap Some c.in-State.is in
    subst (λ (w : Option Wish). PassingShows (g.H.Hand.awaits new.hand) new.passing (passing_behind g.H.Hand.passed p (wish_begun true w (g.H.Hand.ready old.hand)))) (sym e)
    (still_shows (g.H.Hand.awaits old.hand) (g.H.Hand.awaits new.hand) old.passing new.passing p (λ t. subst (λ h. g.H.Hand.awaits h ≡ true) (sym k.0) t) k.1 s)

pub returns-in-Mails-clause-first : goal.returns-in-Mails-clause-first
returns-in-Mails-clause-first g c = λ b w e held h.
    let f = c.is_free.ensures.bare c.if-not-is_free.false in
    let is : c.args.wish ≡ Some Wish.Mails = c.in-Some.is ∙ ap Some c.in-Mails.is in
    c.begin_mails.ensures.first f.0 refl w (sym is ∙ e) held h

pub returns-in-State-clause-first : goal.returns-in-State-clause-first
returns-in-State-clause-first g c = λ b w e held h.
    let is : c.args.wish ≡ Some (Wish.State c.in-State.target) = c.in-Some.is ∙ ap Some c.in-State.is in
    c.begin_state.ensures.first refl w (sym is ∙ e) held h

pub returns-in-Mails-clause-recalled : goal.returns-in-Mails-clause-recalled
returns-in-Mails-clause-recalled g c =
    let free = c.if-not-is_free.false in
    let f = c.is_free.ensures.bare free in
    c.begin_mails.ensures.recalled f.0 f.1 (c.is_free.ensures.knows free)

pub returns-in-State-clause-recalled : goal.returns-in-State-clause-recalled
returns-in-State-clause-recalled g c = let f = c.is_free.ensures.bare c.if-not-is_free.false in c.begin_state.ensures.recalled f.0 f.1
