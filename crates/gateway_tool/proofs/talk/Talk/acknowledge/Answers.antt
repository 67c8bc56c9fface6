use Rattle.std.proofs.Common.{sym, subst, ◌∙◌}
use Rattle.std.specs.Prelude.{Result}
use Rattle.gateway_core.specs.of_ec_outside.declared.port.PortErr.{PortErr}
use Rattle.gateway_tool.specs.Told.{told}
use Rattle.gateway_tool.specs.Talk.{EndsSo}
use Rattle.gateway_tool.proofs.Talks.{ends_so, never_failed}
use Rattle.gateway_tool.proofs.talk.Talk.acknowledge.Goals as goal

pub returns-clause-ends : goal.returns-clause-ends
returns-clause-ends g c = λ call first h.
    subst (λ (r : Result (Unit {0}) PortErr). EndsSo call first (told g.P.Port.heard g.P.Port.sent g.P.Port.over g.P.Port.port_faults c.send-sent.new.port) c.send-sent.new.self r) (sym c.forgiven.ensures)
    (ends_so call first (told g.P.Port.heard g.P.Port.sent g.P.Port.over g.P.Port.port_faults c.send-sent.new.port) c.send-sent.new.self c.send-sent.result (c.send-sent.ensures.sends call first h))

pub returns-clause-memory : goal.returns-clause-memory
returns-clause-memory g c = λ e. never_failed c.send-sent.result (sym c.forgiven.ensures ∙ e)
