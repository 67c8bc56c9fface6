use Rattle.std.proofs.Common.{Err, ap, ◌∙◌}
use Rattle.std.proofs.lemmas.Result.{err_from_is_err_and}
use Rattle.gateway_tool.specs.Told.{told}
use Rattle.gateway_tool.proofs.Courses.{went_unsent, went_unheard, went_unacknowledged, heard_at}
use Rattle.gateway_tool.proofs.talk.Talk.go_on.Goals as goal

pub returns-in_err-send-clause-goes : goal.returns-in_err-send-clause-goes
returns-in_err-send-clause-goes g c = λ call first h.
    let p = err_from_is_err_and c.from_residual.result c.from_residual.ensures.1 in
    went_unsent call first (told g.P.Port.heard g.P.Port.sent g.P.Port.over g.P.Port.port_faults c.send.new.port) c.send.new.self c.in_err-send.field-0.0 c.send.result c.from_residual.result c.in_err-send.was (p.1 ∙ ap Err p.2)
    (c.send.ensures.sends call first (c.loop-self.invariant.goes call first h))

pub returns-in_err-wait-clause-goes : goal.returns-in_err-wait-clause-goes
returns-in_err-wait-clause-goes g c = λ call first h.
    let p = err_from_is_err_and c.from_residual-in_err-wait.result c.from_residual-in_err-wait.ensures.1 in
    went_unheard call first (told g.P.Port.heard g.P.Port.sent g.P.Port.over g.P.Port.port_faults c.wait.new.port) c.wait.new.self c.in_err-wait.field-0.0 c.wait.result c.from_residual-in_err-wait.result c.in_err-wait.was (p.1 ∙ ap Err p.2)
    (c.wait.ensures.waits call first (c.in_ok-send.ensures.sends call first (c.loop-self.invariant.goes call first h)))

pub returns-in_err-acknowledge-clause-goes : goal.returns-in_err-acknowledge-clause-goes
returns-in_err-acknowledge-clause-goes g c = λ call first h.
    let p = err_from_is_err_and c.from_residual-in_err-acknowledge.result c.from_residual-in_err-acknowledge.ensures.1 in
    let heard = heard_at call first (told g.P.Port.heard g.P.Port.sent g.P.Port.over g.P.Port.port_faults c.wait.new.port) c.wait.new.self c.wait.result c.in_ok-wait.field-0 c.in_ok-wait.was c.if-not-branch.false (c.wait.ensures.waits call first (c.in_ok-send.ensures.sends call first (c.loop-self.invariant.goes call first h))) in
    went_unacknowledged call first (told g.P.Port.heard g.P.Port.sent g.P.Port.over g.P.Port.port_faults c.acknowledge.new.port) c.acknowledge.new.self c.in_err-acknowledge.field-0.0 c.acknowledge.result c.from_residual-in_err-acknowledge.result c.in_err-acknowledge.was (p.1 ∙ ap Err p.2) c.acknowledge.ensures.memory
    (c.acknowledge.ensures.ends call first (c.take.ensures.goes call first (told g.P.Port.heard g.P.Port.sent g.P.Port.over g.P.Port.port_faults c.wait.new.port) heard))

pub returns-then-take-clause-goes : goal.returns-then-take-clause-goes
returns-then-take-clause-goes g c = λ call first h.
    let heard = heard_at call first (told g.P.Port.heard g.P.Port.sent g.P.Port.over g.P.Port.port_faults c.wait.new.port) c.wait.new.self c.wait.result c.in_ok-wait.field-0 c.in_ok-wait.was c.if-not-branch.false (c.wait.ensures.waits call first (c.in_ok-send.ensures.sends call first (c.loop-self.invariant.goes call first h))) in
    c.in_ok-acknowledge.ensures.ends call first (c.take.ensures.goes call first (told g.P.Port.heard g.P.Port.sent g.P.Port.over g.P.Port.port_faults c.wait.new.port) heard)
