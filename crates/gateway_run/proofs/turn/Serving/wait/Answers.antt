use Rattle.std.proofs.Common.{◌≡◌, refl, ap, ◌∙◌}
use Rattle.std.specs.Prelude.{Err}
use Rattle.std.proofs.lemmas.Result.{err_from_is_err_and}
use Rattle.gateway_run.proofs.Turns.{same_gram, goes_so, listen_failed}
use Rattle.gateway_run.proofs.turn.Serving.wait.Goals as goal

pub returns-in_err-heard-clause-goes : goal.returns-in_err-heard-clause-goes
returns-in_err-heard-clause-goes g c = λ plan count first free h.
    let p = err_from_is_err_and c.from_residual.result c.from_residual.ensures.1 in
    listen_failed plan count first _ _ _ c.args.book.now _ c.in_err-heard.field-0.0 c.from_residual.result (same_gram plan count first _ c.args.self.now _ c.args.book.now refl refl refl refl h)
    c.in_err-heard.ensures.hears c.in_err-heard.ensures.sends c.in_err-heard.ensures.ended (λ same. c.wait.ensures.cause (c.in_err-heard.was ∙ ap Err same)) c.in_err-heard.ensures.later (p.1 ∙ ap Err p.2)

pub returns-in_err-take-clause-goes : goal.returns-in_err-take-clause-goes
returns-in_err-take-clause-goes g c = λ plan count first free h.
    let p = err_from_is_err_and c.from_residual-in_err-take.result c.from_residual-in_err-take.ensures.1 in
    let e = p.1 in
    let e2 = p.2 in
    let same : c.from_residual-in_err-take.result ≡ Err c.in_err-take.field-0.0 = cc in
    goes_so plan count first _ _ _ c.take.new.self c.take.new.book c.in_err-take.field-0.0 c.take.result c.from_residual-in_err-take.result c.in_err-take.was same
    (c.take.ensures.goes plan count first _ _ free (same_gram plan count first _ c.args.self.now _ c.args.book.now refl refl refl refl h)
    (record { hears = c.in_ok-heard.ensures.hears; sent = c.in_ok-heard.ensures.sends; over = c.in_ok-heard.ensures.ended; later = c.in_ok-heard.ensures.later }))

pub returns-clause-goes : goal.returns-clause-goes
returns-clause-goes g c = λ plan count first free h.
    c.in_ok-take.ensures.goes plan count first _ _ free (same_gram plan count first _ c.args.self.now _ c.args.book.now refl refl refl refl h)
    (record { hears = c.in_ok-heard.ensures.hears; sent = c.in_ok-heard.ensures.sends; over = c.in_ok-heard.ensures.ended; later = c.in_ok-heard.ensures.later })
