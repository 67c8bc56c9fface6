use Rattle.std.proofs.Common.{◌≡◌, inl, inr, false, map, sym, ◌∙◌, subst, rules}
use Rattle.std.proofs.lemmas.Bool.{OnFalse_at}
use Rattle.run_record.specs.Ran.{EndsSo, EndsAs}
use Rattle.run_record.proofs.Underway.{begun, still_left, many, stepped_on, stopped, has_frames, ended, ran_so, ran_as}
use Rattle.run_record.specs.Led.{exchanged}
use Rattle.run_record.proofs.Leads.{one_led_more, none_led, same_led}
use Rattle.run_record.proofs.RunStanding.{frame_led, run_first, run_more, stands_led}
use Rattle.std.proofs.lemmas.List.{length-map}
use Rattle.run_record.proofs.Overs.{led_book}
use Rattle.run_notes.proofs.Ways.{any_err}
use Rattle.run_record.proofs.running.run_through.Goals as goal

pub returns-in_err-step-clause-frames : goal.returns-in_err-step-clause-frames
returns-in_err-step-clause-frames c =
    let s = c.loop-settled.session in
    let under = c.loop-settled.invariant.underway in
    let no : c.spent.result ≡ false = search rules in
    stopped c.args.plan.now 0 s c.loop-settled.book c.step.new.book under (still_left s.ring.number s.budget c.spent.result c.spent.ensures.value no under.few) c.in_err-step.ensures.err

pub returns-in_err-session-clause-cut : goal.returns-in_err-session-clause-cut
returns-in_err-session-clause-cut c = any_err c.from_residual.result (none_led c.args.plan.now c.args.book.now.frames c.requires.new.frames)

pub returns-in_err-step-clause-cut : goal.returns-in_err-step-clause-cut
returns-in_err-step-clause-cut c =
    let plan = c.args.plan.now in
    let s = c.loop-settled.session in
    let book = c.loop-settled.book in
    let under = c.loop-settled.invariant.underway in
    let stands = c.loop-settled.invariant.stands in
    let goes : c.loop-settled.settled ≡ false = search rules in
    let fs = map exchanged book.frames in
    any_err c.from_residual-in_err-step.result
    (elim c.in_err-step.ensures.err.frames [
      | inl same ↦ same_led plan book.frames c.step.new.book.frames same (stands_led plan s book stands)
      | inr f ↦ one_led_more plan book.frames f.0 c.step.new.book.frames f.1 (frame_led plan s book (exchanged f.0) stands
          (f.4 plan fs (length-map book.frames exchanged ∙ many plan 0 s book under) (OnFalse_at goes c.loop-settled.invariant.lives plan fs under.recover stands.serving) stands.serving.leading))
    ])

pub loop-settled-init : goal.loop-settled-init
loop-settled-init c =
    let plan = c.args.plan.now in
    let s = c.in_ok-session.session in
    let begins = c.in_ok-session.ensures in
    let new = c.requires.new in
    record {
      underway = begun plan 0 s c.args.book.now begins.session new begins.switch;
      serving = new.serving;
      grams = new.grams;
      replies = new.replies;
      settled = c.settled-settled.ensures.rest;
      rests = c.settled-settled.ensures.served;
      lives = c.settled-settled.ensures.lives;
      done = c.settled-settled.ensures.done;
      stands = run_first plan s c.args.book.now begins.session new begins.serves;
    }

pub loop-settled-preserved : goal.loop-settled-preserved
loop-settled-preserved c =
    let s = c.loop-settled.session in
    let under = c.loop-settled.invariant.underway in
    let no : c.spent.result ≡ false = search rules in
    let step = c.in_ok-step.ensures.ok in
    let goes : c.loop-settled.settled ≡ false = search rules in
    let plan = c.args.plan.now in
    let stood = c.loop-settled.invariant.stands in
    let frames = length-map c.loop-settled.book.frames exchanged in
    record {
      underway = stepped_on c.args.plan.now 0 s c.loop-settled.book c.step.new.self c.step.new.book step.0 under (still_left s.ring.number s.budget c.spent.result c.spent.ensures.value no under.few) step.1;
      serving = step.1.rest.serving ∙ c.loop-settled.invariant.serving;
      grams = step.1.rest.grams ∙ c.loop-settled.invariant.grams;
      replies = step.1.rest.replies ∙ c.loop-settled.invariant.replies;
      settled = c.settled-settled-in-loop-settled.ensures.rest;
      rests = c.settled-settled-in-loop-settled.ensures.served;
      lives = c.settled-settled-in-loop-settled.ensures.lives;
      done = c.settled-settled-in-loop-settled.ensures.done;
      stands = run_more plan s c.step.new.self c.loop-settled.book c.step.new.book step.0 step.2.0 stood step.1.put step.1.asked (frames ∙ many plan 0 s c.loop-settled.book under) (step.2.1 plan.host under.switched)
          (step.2.2 plan (map exchanged c.loop-settled.book.frames) under.recover (frames ∙ many plan 0 s c.loop-settled.book under)
          (OnFalse_at goes c.loop-settled.invariant.lives plan (map exchanged c.loop-settled.book.frames) under.recover stood.serving) (OnFalse_at goes c.loop-settled.invariant.done) stood.serving);
    }

pub returns-clause-frames : goal.returns-clause-frames
returns-clause-frames c =
    has_frames c.args.plan.now 0 c.loop-settled.session c.loop-settled.book c.finish.new.book c.loop-settled.invariant.underway c.finish.ensures.frames c.finish.ensures.switch

pub returns-clause-ends : goal.returns-clause-ends
returns-clause-ends c =
    let s = c.loop-settled.session in
    let so = c.ending_of-ending.ensures.ends in
    elim c.finish.ensures.answers [
      | inl same ↦ subst (EndsAs c.args.plan.now c.finish.new.book) (sym same)
          (ran_as c.args.plan.now s c.finish.new.book c.ending_of-ending.result so (ended c.args.plan.now 0 s c.loop-settled.book c.finish.new.book c.loop-settled.invariant.underway c.finish.ensures.frames c.finish.ensures.same
          (c.finish.ensures.rows (λ none. subst (EndsSo s) (sym same ∙ none) so)) c.finish.ensures.many c.ending_of-ending.result (ran_so s c.ending_of-ending.result so)))
      | inr none ↦ subst (EndsAs c.args.plan.now c.finish.new.book) (sym none) tt
    ]

pub returns-clause-led : goal.returns-clause-led
returns-clause-led c =
    let s = c.loop-settled.session in
    let invariant = c.loop-settled.invariant in
    led_book c.args.plan.now s c.loop-settled.book c.finish.new.book invariant.underway invariant.stands c.finish.ensures.frames c.finish.ensures.same c.finish.ensures.many c.ending_of-ending.result c.finish.result c.loop-settled.settled
    c.ending_of-ending.ensures.ends invariant.rests c.ending_of-ending.ensures.cut c.ending_of-ending.ensures.whole invariant.lives invariant.done c.finish.ensures.answers c.finish.ensures.rows
