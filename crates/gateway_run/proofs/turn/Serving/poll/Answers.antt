use Rattle.std.proofs.Common.{◌≡◌, refl, ap, ◌∙◌, arith}
use Rattle.std.specs.Prelude.{Err}
use Rattle.std.proofs.lemmas.Result.{err_from_is_err_and}
use Rattle.gateway_run.proofs.Room.{not_full}
use Rattle.gateway_run.proofs.Turns.{same_gram, goes_so, listen_failed}
use Rattle.gateway_run.proofs.turn.Serving.poll.Goals as goal

pub returns-in_err-heard-clause-goes : goal.returns-in_err-heard-clause-goes
returns-in_err-heard-clause-goes g c = λ plan count first h.
    let p = err_from_is_err_and c.from_residual.result c.from_residual.ensures.1 in
    let e = p.1 in
    let e2 = p.2 in
    listen_failed plan count first _ _ _ c.loop-self.book _ c.in_err-heard.field-0.0 c.from_residual.result (same_gram plan count first _ c.loop-self.self _ c.loop-self.book refl refl refl refl (c.loop-self.invariant.goes plan count first h))
    c.in_err-heard.ensures.hears c.in_err-heard.ensures.sends c.in_err-heard.ensures.ended (λ same. c.poll.ensures.cause (c.in_err-heard.was ∙ ap Err same)) c.in_err-heard.ensures.later (p.1 ∙ ap Err p.2)

pub returns-in_err-take-clause-goes : goal.returns-in_err-take-clause-goes
returns-in_err-take-clause-goes g c = λ plan count first h.
    let p = err_from_is_err_and c.from_residual-in_err-take.result c.from_residual-in_err-take.ensures.1 in
    let e = p.1 in
    let e2 = p.2 in
    let same : c.from_residual-in_err-take.result ≡ Err c.in_err-take.field-0.0 = cc in
    goes_so plan count first _ _ _ c.take.new.self c.take.new.book c.in_err-take.field-0.0 c.take.result c.from_residual-in_err-take.result c.in_err-take.was same
    (c.take.ensures.goes plan count first _ _ (not_full c.loop-self.self.desk c.is_full.result c.is_full.ensures c.if-not-is_full.true) (same_gram plan count first _ c.loop-self.self _ c.loop-self.book refl refl refl refl (c.loop-self.invariant.goes plan count first h))
    (record { hears = c.in_ok-heard.ensures.hears; sent = c.in_ok-heard.ensures.sends; over = c.in_ok-heard.ensures.ended; later = c.in_ok-heard.ensures.later }))

pub returns-then-not-branch-clause-goes : goal.returns-then-not-branch-clause-goes
returns-then-not-branch-clause-goes g c = λ plan count first h.
    c.in_ok-take.ensures.goes plan count first _ _ (not_full c.loop-self.self.desk c.is_full.result c.is_full.ensures c.if-not-is_full.true) (same_gram plan count first _ c.loop-self.self _ c.loop-self.book refl refl refl refl (c.loop-self.invariant.goes plan count first h))
    (record { hears = c.in_ok-heard.ensures.hears; sent = c.in_ok-heard.ensures.sends; over = c.in_ok-heard.ensures.ended; later = c.in_ok-heard.ensures.later })

pub loop-self-preserved : goal.loop-self-preserved
loop-self-preserved g c = record {
  goes = λ plan count first h.
      c.in_ok-take.ensures.goes plan count first _ _ (not_full c.loop-self.self.desk c.is_full.result c.is_full.ensures c.if-not-is_full.true) (same_gram plan count first _ c.loop-self.self _ c.loop-self.book refl refl refl refl (c.loop-self.invariant.goes plan count first h))
      (record { hears = c.in_ok-heard.ensures.hears; sent = c.in_ok-heard.ensures.sends; over = c.in_ok-heard.ensures.ended; later = c.in_ok-heard.ensures.later });
  live = c.in_ok-take.ensures.live ∙ c.loop-self.invariant.live;
  busy = λ done. c.loop-self.invariant.busy (c.in_ok-take.ensures.busy done);
  most = let a = c.in_ok-take.ensures.most in let b = c.loop-self.invariant.most in omega (arith, a, b);
  may = λ old. c.in_ok-take.ensures.may (λ quiet. c.loop-self.invariant.may old);
}

pub returns-then-not-branch-clause-may : goal.returns-then-not-branch-clause-may
returns-then-not-branch-clause-may g c = λ old. c.in_ok-take.ensures.may (λ quiet. c.loop-self.invariant.may old)
