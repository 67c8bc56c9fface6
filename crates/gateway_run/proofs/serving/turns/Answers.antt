use Rattle.std.proofs.Common.{◌≡◌, false, refl, rules}
use Rattle.std.proofs.lemmas.Bool.{OnFalse_at}
use Rattle.std.specs.Prelude.{Err}
use Rattle.std.proofs.lemmas.Result.{err_from_is_err_and}
use Rattle.gateway_run.specs.Serving.{IsServing, told}
use Rattle.gateway_run.proofs.Dones.{empty_on}
use Rattle.gateway_run.proofs.Leds.{lives_on}
use Rattle.gateway_run.proofs.Turns.{goes_so}
use Rattle.gateway_run.proofs.serving.turns.Goals as goal

pub returns-then-not-branch-clause-goes : goal.returns-then-not-branch-clause-goes
returns-then-not-branch-clause-goes g c = λ plan count first h.
    let now = told g.P.Port.heard g.P.Port.sent g.P.Port.over g.P.Port.port_faults c.loop-settled.port in
    let on : IsServing plan count first now c.loop-settled.serving c.loop-settled.book = c.loop-settled.invariant.goes plan count first h in
    c.in_ok-turn.ensures.goes plan count first (
      lives_on plan count c.loop-settled.serving c.loop-settled.book on.on c.loop-settled.settled c.loop-settled.settled refl c.loop-settled.invariant.lives c.loop-settled.invariant.done,
      empty_on plan count c.loop-settled.serving c.loop-settled.book on.on c.loop-settled.settled c.loop-settled.invariant.rests,
      c.loop-settled.invariant.empty,
    ) on

pub loop-settled-preserved : goal.loop-settled-preserved
loop-settled-preserved g c = record {
  goes = λ plan count first h.
      let now = told g.P.Port.heard g.P.Port.sent g.P.Port.over g.P.Port.port_faults c.loop-settled.port in
      let on : IsServing plan count first now c.loop-settled.serving c.loop-settled.book = c.loop-settled.invariant.goes plan count first h in
      c.in_ok-turn.ensures.goes plan count first (
        lives_on plan count c.loop-settled.serving c.loop-settled.book on.on c.loop-settled.settled c.loop-settled.settled refl c.loop-settled.invariant.lives c.loop-settled.invariant.done,
        empty_on plan count c.loop-settled.serving c.loop-settled.book on.on c.loop-settled.settled c.loop-settled.invariant.rests,
        c.loop-settled.invariant.empty,
      ) on;
  empty = c.in_ok-turn.ensures.empty;
  at_rest = c.settled-settled-in-loop-settled.ensures.rest;
  lives = c.settled-settled-in-loop-settled.ensures.lives;
  done = c.settled-settled-in-loop-settled.ensures.done;
  rests = c.settled-settled-in-loop-settled.ensures.served;
}

pub returns-in_err-turn-clause-goes : goal.returns-in_err-turn-clause-goes
returns-in_err-turn-clause-goes g c = λ plan count first h.
    let p = err_from_is_err_and c.from_residual.result c.from_residual.ensures.1 in
    let e = p.1 in
    let e2 = p.2 in
    let same : c.from_residual.result ≡ Err c.in_err-turn.field-0.0 = cc in
    let now = told g.P.Port.heard g.P.Port.sent g.P.Port.over g.P.Port.port_faults c.loop-settled.port in
    let on : IsServing plan count first now c.loop-settled.serving c.loop-settled.book = c.loop-settled.invariant.goes plan count first h in
    goes_so plan count first _ _ _ c.turn.new.self c.turn.new.book c.in_err-turn.field-0.0 c.turn.result c.from_residual.result c.in_err-turn.was same
    (c.turn.ensures.goes plan count first (
      lives_on plan count c.loop-settled.serving c.loop-settled.book on.on c.loop-settled.settled c.loop-settled.settled refl c.loop-settled.invariant.lives c.loop-settled.invariant.done,
      empty_on plan count c.loop-settled.serving c.loop-settled.book on.on c.loop-settled.settled c.loop-settled.invariant.rests,
      c.loop-settled.invariant.empty,
    ) on)

pub returns-then-not-branch-clause-left : goal.returns-then-not-branch-clause-left
returns-then-not-branch-clause-left g c = λ plan count first h spent.
    let now = told g.P.Port.heard g.P.Port.sent g.P.Port.over g.P.Port.port_faults c.loop-settled.port in
    let on : IsServing plan count first now c.loop-settled.serving c.loop-settled.book = c.loop-settled.invariant.goes plan count first h in
    let no : c.in_ok-turn.field-0 ≡ false = search rules in
    OnFalse_at no (c.in_ok-turn.ensures.left plan count first (
      lives_on plan count c.loop-settled.serving c.loop-settled.book on.on c.loop-settled.settled c.loop-settled.settled refl c.loop-settled.invariant.lives c.loop-settled.invariant.done,
      empty_on plan count c.loop-settled.serving c.loop-settled.book on.on c.loop-settled.settled c.loop-settled.invariant.rests,
      c.loop-settled.invariant.empty,
    ) on)

pub returns-clause-left : goal.returns-clause-left
returns-clause-left g c = λ plan count first h spent. absurd (c.ending_of.ensures.whole spent)
