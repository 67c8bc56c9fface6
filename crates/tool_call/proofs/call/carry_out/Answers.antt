use Rattle.ecmbx_words.specs.declared.status.Status.TheVariants as statuses
use Rattle.ecmbx_words.proofs.Loads.{said}
use Rattle.gateway_tool.specs.Told.{told}
use Rattle.tool_call.specs.Lines.{answer_line, no_answer_line, port_fault_line}
use Rattle.tool_call.specs.Course.{call_of, CallCourse}
use Rattle.tool_call.proofs.call.carry_out.Goals as goal

pub returns-in-Reply-clause-course : goal.returns-in-Reply-clause-course
returns-in-Reply-clause-course g c =
    said (CallCourse (call_of c.args.slave c.args.service.now) (told g.P.Port.heard g.P.Port.sent g.P.Port.over g.P.Port.port_faults c.args.port.now) (told g.P.Port.heard g.P.Port.sent g.P.Port.over g.P.Port.port_faults c.ask.new.port)) statuses.Done (answer_line c.ask.new.value)
    (g.O.Sink.written c.args.out.now) (g.O.Sink.written c.tell.new.out) c.tell.result (CallCourse.replied c.ask.new.value c.in-Reply.ensures.ended) c.tell.ensures.put

pub returns-in-NoAnswer-clause-course : goal.returns-in-NoAnswer-clause-course
returns-in-NoAnswer-clause-course g c =
    let put = rw c.no_answer.ensures at c.say.ensures.put in
    said (CallCourse (call_of c.args.slave c.args.service.now) (told g.P.Port.heard g.P.Port.sent g.P.Port.over g.P.Port.port_faults c.args.port.now) (told g.P.Port.heard g.P.Port.sent g.P.Port.over g.P.Port.port_faults c.ask.new.port)) statuses.NoAnswer no_answer_line
    (g.O.Sink.written c.args.out.now) (g.O.Sink.written c.say.new.out) c.say.result (CallCourse.unanswered c.ask.new.value c.in-NoAnswer.ensures.ended) put

pub returns-in-PortFault-clause-course : goal.returns-in-PortFault-clause-course
returns-in-PortFault-clause-course g c =
    let put = rw c.port_fault.ensures at c.say-in-PortFault.ensures.put in
    said (CallCourse (call_of c.args.slave c.args.service.now) (told g.P.Port.heard g.P.Port.sent g.P.Port.over g.P.Port.port_faults c.args.port.now) (told g.P.Port.heard g.P.Port.sent g.P.Port.over g.P.Port.port_faults c.ask.new.port)) statuses.PortFault port_fault_line
    (g.O.Sink.written c.args.out.now) (g.O.Sink.written c.say-in-PortFault.new.out) c.say-in-PortFault.result (CallCourse.failed c.ask.new.value c.in-PortFault.ensures.ended) put
