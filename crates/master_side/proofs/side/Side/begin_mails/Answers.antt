use Rattle.std.proofs.Common.{◌≡◌, sym, subst, ◌∙◌, true, false, Bool, refl, ap}
use Rattle.std.specs.Prelude.{if◌then◌else◌, Some, None, Option}
use Rattle.master_side.proofs.Agains.{mails_most, never}
use Rattle.master_side.proofs.Begins.{begins_ready, none_passed}
use Rattle.master_side.proofs.Recalls.{begun_recall}
use Rattle.master_side.specs.Passing.{PassingShows, passing_behind}
use Rattle.master_side.specs.Shown.{wish_begun}
use Rattle.master_side.specs.declared.carried.Wish.{Wish}
use Rattle.master_side.specs.declared.passing.Passing.{Passing}
use Rattle.master_side.proofs.Passings.{begun_waits, begun_other, begun_none}
use Rattle.master_side.proofs.side.Side.begin_mails.Goals.{then-began, else-began, then-passed, else-passed}
use Rattle.mailbox_master.specs.Any.{in_half_of}
use Rattle.master_side.specs.First.{HoldsFirst, first_by}
use Rattle.master_side.specs.Sent.{gram_len}
use Rattle.master_side.proofs.First.{mails_at, wish_mails}
use Rattle.master_side.proofs.side.Side.begin_mails.Goals as goal

pub returns-clause-picked : goal.returns-clause-picked
returns-clause-picked g c = λ x made d a s free none.
    begins_ready x g.H.Hand.acknowledged made d a (g.H.Hand.shows c.args.self.now.hand x) _ c.args.self.now.out c.args.self.now.inn c.args.self.now.fresh c.args.self.now.duty (g.H.Hand.ready c.args.self.now.hand) c.begin-began.result c.begin-began.ensures.did s none free (λ now q frame t e. c.begin-began.ensures.begun x now q frame t e) (λ now t e. c.begin-began.ensures.none x now t e)

pub returns-clause-unpassed : goal.returns-clause-unpassed
returns-clause-unpassed g c = λ h.
    let ready = g.H.Hand.ready c.args.self.now.hand in
    elim c.if-passed.branch [
      | then-passed w ↦ elim c.if-began.branch [
        | then-began v ↦ absurd (let no = none_passed ready c.begin-began.result (g.H.Hand.passes c.begin-began.new.self) g.H.Hand.passed c.begin-began.ensures.did v.if-began.true (h v.if-began.true) c.begin-began.ensures.passes in
            never (sym w.if-passed.true ∙ v.passed-is ∙ v.is_passed-passed.ensures ∙ no))
        | else-began v ↦ absurd (never (sym w.if-passed.true ∙ v.passed-is ∙ v.if-began.false))
      ]
      | else-passed w ↦ w.passing-is
    ]

pub returns-clause-again : goal.returns-clause-again
returns-clause-again g c = λ n p r held h.
    elim c.if-passed.branch [
      | then-passed w ↦ mails_most c.args.self.now _ true w.passing-is n p r held h
      | else-passed w ↦ mails_most c.args.self.now _ false w.passing-is n p r held h
    ]

pub returns-clause-passing : goal.returns-clause-passing
returns-clause-passing g c =
    let ready = g.H.Hand.ready c.args.self.now.hand in
    let hand = c.begin-began.new.self in
    let awaits = g.H.Hand.awaits hand in
    let passed = g.H.Hand.passed in
    let life = passing_behind passed None (wish_begun c.begin-began.result (Some Wish.Mails) ready) in
    elim c.if-passed.branch [
      | then-passed w ↦ elim c.if-began.branch [
        | then-began v ↦ subst (λ (p : Option Passing). PassingShows awaits p life) (sym w.passing-is)
            (begun_waits passed ready c.begin-began.result (g.H.Hand.passes hand) awaits c.begin-began.ensures.did c.begin-began.ensures.passes c.begin-began.ensures.awaits v.if-began.true (sym v.is_passed-passed.ensures ∙ sym v.passed-is ∙ w.if-passed.true))
        | else-began v ↦ absurd (never (sym w.if-passed.true ∙ v.passed-is ∙ v.if-began.false))
      ]
      | else-passed w ↦ elim c.if-began.branch [
        | then-began v ↦ subst (λ (p : Option Passing). PassingShows awaits p life) (sym w.passing-is)
            (begun_other passed ready c.begin-began.result (g.H.Hand.passes hand) awaits c.begin-began.ensures.passes (sym v.is_passed-passed.ensures ∙ sym v.passed-is ∙ w.if-passed.false))
        | else-began v ↦ subst (λ (p : Option Passing). PassingShows awaits p life) (sym w.passing-is) (begun_none passed ready c.begin-began.result awaits v.if-began.false)
      ]
    ]

pub returns-clause-recalled : goal.returns-clause-recalled
returns-clause-recalled g c = λ n p k.
    let old = c.args.self.now in
    begun_recall old.paused old.turn (g.H.Hand.knows old.hand) (g.H.Hand.knows c.begin-began.new.self) old.duty old.duty old.passing c.if-passed.passing n p (c.begin-began.ensures.knows ∙ same c.begin-began.result (g.H.Hand.knows old.hand) k)
  where
    same : (b known : Bool) → known ≡ true → (if b then true else known) ≡ known
    same true known e = sym e
    same false known e = refl

pub returns-clause-first : goal.returns-clause-first
returns-clause-first g c = λ n b w e held h.
    let old = c.args.self.now in
    let s = (in_half_of old.inn).state in
    let some = subst (λ z. HoldsFirst z held) (sym (wish_mails w e)) h in
    let to = ap (λ z. gram_len old.out old.inn (first_by s old.paused z)) (wish_mails w e) in
    elim c.if-passed.branch [
      | then-passed v ↦ mails_at old.out old.inn old.duty _ s false old.paused held true v.passing-is n some ∙ to
      | else-passed v ↦ mails_at old.out old.inn old.duty _ s false old.paused held false v.passing-is n some ∙ to
    ]
