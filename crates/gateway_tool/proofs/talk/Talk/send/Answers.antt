use Rattle.std.proofs.Common.{List, ℕ, subst}
use Rattle.gateway_core.specs.of_ec_outside.Port.{Sends}
use Rattle.gateway_tool.specs.Told.{told}
use Rattle.gateway_tool.proofs.Talks.{sends_nothing, sends_laid}
use Rattle.gateway_tool.proofs.talk.Talk.send.Goals as goal

pub returns-then-not-lay_next-clause-sends : goal.returns-then-not-lay_next-clause-sends
returns-then-not-lay_next-clause-sends g c = λ call first h. sends_nothing call first (told g.P.Port.heard g.P.Port.sent g.P.Port.over g.P.Port.port_faults c.args.port.now) c.args.self.now c.lay_next.new.self h (λ s mails k. c.if-not-lay_next.ensures.lays call s mails k)

pub returns-clause-sends : goal.returns-clause-sends
returns-clause-sends g c = λ call first h.
    sends_laid call first (told g.P.Port.heard g.P.Port.sent g.P.Port.over g.P.Port.port_faults c.args.port.now) (told g.P.Port.heard g.P.Port.sent g.P.Port.over g.P.Port.port_faults c.send.new.self) c.args.self.now c.lay_next.new.self c.send.result h
    (λ s mails k. c.if-not-lay_next.ensures.lays call s mails k) c.send.ensures.hears c.send.ensures.later c.send.ensures.cause
    (subst (λ (o : List ℕ). Sends (g.P.Port.sent c.args.port.now) (g.P.Port.sent c.send.new.self) c.lay_next.new.self.to o c.send.result) c.as_slice.ensures.value c.send.ensures.sends)
