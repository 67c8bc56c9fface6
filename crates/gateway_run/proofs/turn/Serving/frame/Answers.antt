use Rattle.std.proofs.Common.{◌≡◌, true, false, refl, ap, ◌∙◌, rules}
use Rattle.std.proofs.lemmas.Bool.{OnFalse_at}
use Rattle.std.specs.Prelude.{Err}
use Rattle.std.proofs.lemmas.Result.{err_from_is_err_and}
use Rattle.run_record.specs.Session.{IsDone, has_live}
use Rattle.gateway_run.proofs.Cut.{frames_stepped}
use Rattle.gateway_run.proofs.Turns.{stepped, frames_cut, goes_without}
use Rattle.gateway_run.proofs.turn.Serving.frame.Goals as goal

pub returns-clause-goes : goal.returns-clause-goes
returns-clause-goes c = λ plan count first now may h.
    let goes : c.args.rests ≡ false = search rules in
    let is : (has_live c.args.self.now.session.master ≡ true) × (IsDone c.args.self.now.session → ⊥) = OnFalse_at goes may.0 in
    stepped plan count first now c.args.self.now _ c.args.book.now c.step.new.book c.in_ok-step.ensures.ok.0 h c.if-spent.ensures.left c.in_ok-step.ensures.ok.1 c.in_ok-step.ensures.ok.2.0 c.in_ok-step.ensures.ok.2.1 c.in_ok-step.ensures.ok.2.2 is.0 is.1 may.1 c.in_ok-note_all.ensures refl refl

pub returns-in_err-step-clause-goes : goal.returns-in_err-step-clause-goes
returns-in_err-step-clause-goes c = λ plan count first now may h.
    let p = err_from_is_err_and c.from_residual.result c.from_residual.ensures.1 in
    goes_without plan count first _ now _ c.step.new.book c.from_residual.result (p.1 ∙ ap Err p.2)
    (frames_cut plan count first now c.args.self.now c.args.book.now c.step.new.book h.serving c.if-spent.ensures.left c.in_err-step.ensures.err)

pub returns-in_err-note_all-clause-goes : goal.returns-in_err-note_all-clause-goes
returns-in_err-note_all-clause-goes c = λ plan count first now may h.
    let p = err_from_is_err_and c.from_residual-in_err-note_all.result c.from_residual-in_err-note_all.ensures.1 in
    goes_without plan count first _ now _ c.step.new.book c.from_residual-in_err-note_all.result (p.1 ∙ ap Err p.2)
    (frames_stepped plan count first now c.args.self.now c.step.new.self c.args.book.now c.step.new.book c.in_ok-step.ensures.ok.0 h.serving c.if-spent.ensures.left c.in_ok-step.ensures.ok.1)
