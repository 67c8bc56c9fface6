use Rattle.std.proofs.Common.{◌≡◌, sym, subst}
use Rattle.std.specs.Prelude.{Err}
use Rattle.std.proofs.lemmas.Result.{err_from_is_err_and}
use Rattle.run_record.specs.Session.{SessionState}
use Rattle.gateway_run.specs.Serving.{IsHearing, LivesUnless, told}
use Rattle.gateway_run.proofs.Leds.{lives_on, lives_still}
use Rattle.gateway_run.proofs.Turns.{goes_so, hears_first}
use Rattle.gateway_run.proofs.turn.Serving.turn.Goals.{then-settled, else-settled}
use Rattle.gateway_run.proofs.turn.Serving.turn.Goals as goal

pub returns-in_err-hear-clause-goes : goal.returns-in_err-hear-clause-goes
returns-in_err-hear-clause-goes g c = λ plan count first may h.
    let p = err_from_is_err_and c.from_residual.result c.from_residual.ensures.1 in
    let e = p.1 in
    let e2 = p.2 in
    let same : c.from_residual.result ≡ Err c.in_err-hear.field-0.0 = cc in
    goes_so plan count first _ _ _ c.hear.new.self c.hear.new.book c.in_err-hear.field-0.0 c.hear.result c.from_residual.result c.in_err-hear.was same (c.hear.ensures.goes plan count first may.1 (hears_first plan count first _ c.args.self.now c.args.book.now may.2 h))

pub returns-in_err-on-clause-goes : goal.returns-in_err-on-clause-goes
returns-in_err-on-clause-goes g c = λ plan count first may h.
    let p = err_from_is_err_and c.from_residual-in_err-on.result c.from_residual-in_err-on.ensures.1 in
    let e = p.1 in
    let e2 = p.2 in
    let same : c.from_residual-in_err-on.result ≡ Err c.in_err-on.field-0.0 = cc in
    let now = told g.P.Port.heard g.P.Port.sent g.P.Port.over g.P.Port.port_faults c.hear.new.port in
    let heard : IsHearing plan count first now c.hear.new.self c.hear.new.book = c.in_ok-hear.ensures.goes plan count first may.1 (hears_first plan count first _ c.args.self.now c.args.book.now may.2 h) in
    let lives : LivesUnless c.if-settled.rests c.hear.new.self.session = elim c.if-settled.branch [
      | then-settled v ↦ lives_on plan count c.hear.new.self c.hear.new.book heard.serving.on c.if-settled.rests v.settled-rests.result v.rests-is v.settled-rests.ensures.lives v.settled-rests.ensures.done
      | else-settled v ↦ lives_still c.args.self.now.session c.hear.new.self.session c.in_ok-hear.ensures.live c.in_ok-hear.ensures.busy c.if-settled.rests c.args.settled v.if-settled.false may.0
    ] in
    goes_so plan count first _ _ now c.frame.new.self c.frame.new.book c.in_err-on.field-0.0 c.frame.result c.from_residual-in_err-on.result c.in_err-on.was same (c.frame.ensures.goes plan count first now (lives, c.in_ok-hear.ensures.may) heard)

pub returns-in_err-send-clause-goes : goal.returns-in_err-send-clause-goes
returns-in_err-send-clause-goes g c = λ plan count first may h.
    let p = err_from_is_err_and c.from_residual-in_err-send.result c.from_residual-in_err-send.ensures.1 in
    let e = p.1 in
    let e2 = p.2 in
    let same : c.from_residual-in_err-send.result ≡ Err c.in_err-send.field-0.0 = cc in
    let now = told g.P.Port.heard g.P.Port.sent g.P.Port.over g.P.Port.port_faults c.hear.new.port in
    let heard : IsHearing plan count first now c.hear.new.self c.hear.new.book = c.in_ok-hear.ensures.goes plan count first may.1 (hears_first plan count first _ c.args.self.now c.args.book.now may.2 h) in
    let lives : LivesUnless c.if-settled.rests c.hear.new.self.session = elim c.if-settled.branch [
      | then-settled v ↦ lives_on plan count c.hear.new.self c.hear.new.book heard.serving.on c.if-settled.rests v.settled-rests.result v.rests-is v.settled-rests.ensures.lives v.settled-rests.ensures.done
      | else-settled v ↦ lives_still c.args.self.now.session c.hear.new.self.session c.in_ok-hear.ensures.live c.in_ok-hear.ensures.busy c.if-settled.rests c.args.settled v.if-settled.false may.0
    ] in
    goes_so plan count first _ _ _ _ _ c.in_err-send.field-0.0 c.send.result c.from_residual-in_err-send.result c.in_err-send.was same
    (c.send.ensures.goes plan count first (c.in_ok-on.ensures.goes plan count first now (lives, c.in_ok-hear.ensures.may) heard))

pub returns-clause-goes : goal.returns-clause-goes
returns-clause-goes g c = λ plan count first may h.
    let now = told g.P.Port.heard g.P.Port.sent g.P.Port.over g.P.Port.port_faults c.hear.new.port in
    let heard : IsHearing plan count first now c.hear.new.self c.hear.new.book = c.in_ok-hear.ensures.goes plan count first may.1 (hears_first plan count first _ c.args.self.now c.args.book.now may.2 h) in
    let lives : LivesUnless c.if-settled.rests c.hear.new.self.session = elim c.if-settled.branch [
      | then-settled v ↦ lives_on plan count c.hear.new.self c.hear.new.book heard.serving.on c.if-settled.rests v.settled-rests.result v.rests-is v.settled-rests.ensures.lives v.settled-rests.ensures.done
      | else-settled v ↦ lives_still c.args.self.now.session c.hear.new.self.session c.in_ok-hear.ensures.live c.in_ok-hear.ensures.busy c.if-settled.rests c.args.settled v.if-settled.false may.0
    ] in
    c.in_ok-send.ensures.goes plan count first (c.in_ok-on.ensures.goes plan count first now (lives, c.in_ok-hear.ensures.may) heard)

pub returns-clause-left : goal.returns-clause-left
returns-clause-left g c = λ plan count first may h.
    let now = told g.P.Port.heard g.P.Port.sent g.P.Port.over g.P.Port.port_faults c.hear.new.port in
    let heard : IsHearing plan count first now c.hear.new.self c.hear.new.book = c.in_ok-hear.ensures.goes plan count first may.1 (hears_first plan count first _ c.args.self.now c.args.book.now may.2 h) in
    let lives : LivesUnless c.if-settled.rests c.hear.new.self.session = elim c.if-settled.branch [
      | then-settled v ↦ lives_on plan count c.hear.new.self c.hear.new.book heard.serving.on c.if-settled.rests v.settled-rests.result v.rests-is v.settled-rests.ensures.lives v.settled-rests.ensures.done
      | else-settled v ↦ lives_still c.args.self.now.session c.hear.new.self.session c.in_ok-hear.ensures.live c.in_ok-hear.ensures.busy c.if-settled.rests c.args.settled v.if-settled.false may.0
    ] in
    subst (λ (s : SessionState). LivesUnless c.in_ok-on.on s) (sym c.in_ok-send.ensures.session) (c.in_ok-on.ensures.left lives)
