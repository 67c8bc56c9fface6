use Rattle.run_report.specs.Report.{report_lines}
use Rattle.promised_run.specs.of_gateway_run.Serving.{told}
use Rattle.tool_call.specs.of_ecmbx_words.Ends.{text_of}
use Rattle.ecmbx_call.specs.Course.{status_of}
use Rattle.ecmbx_call.specs.Serving.{ServeCourse}
use Rattle.ecmbx_call.specs.Serving.ServeCourse.{served}
use Rattle.tool_call.proofs.of_ecmbx_words.Loads.{said}
use Rattle.ecmbx_call.proofs.Servings.{serve_unread, has_served}
use Rattle.ecmbx_call.proofs.serving.serve_octets.Goals as goal

pub returns-in-Err-clause-course : goal.returns-in-Err-clause-course
returns-in-Err-clause-course g c =
    serve_unread c.args.count (told g.P.Port.heard g.P.Port.sent g.P.Port.over g.P.Port.port_faults c.args.port.now) (told g.P.Port.heard g.P.Port.sent g.P.Port.over g.P.Port.port_faults c.args.port.now) c.args.book.now c.args.octets (g.O.Sink.written c.args.out.now) (g.O.Sink.written c.plan_in.new.out) c.in-Err.status c.requires.new c.in-Err.ensures.failed

pub returns-clause-course : goal.returns-clause-course
returns-clause-course g c =
    let put = rw c.in-Ok.ensures.quiet at c.tell.ensures.put in
    said (ServeCourse c.args.count (told g.P.Port.heard g.P.Port.sent g.P.Port.over g.P.Port.port_faults c.args.port.now) (told g.P.Port.heard g.P.Port.sent g.P.Port.over g.P.Port.port_faults c.serve.new.port) c.serve.new.book c.args.octets) (status_of c.serve.new.book.ending) (text_of (report_lines c.in-Ok.plan c.serve.new.book))
    (g.O.Sink.written c.args.out.now) (g.O.Sink.written c.tell.new.out) c.tell.result
    (served c.in-Ok.plan c.in-Ok.ensures.found (has_served c.in-Ok.plan c.args.count (told g.P.Port.heard g.P.Port.sent g.P.Port.over g.P.Port.port_faults c.args.port.now) (told g.P.Port.heard g.P.Port.sent g.P.Port.over g.P.Port.port_faults c.serve.new.port) c.serve.new.book c.serve.result c.serve.ensures.frames c.serve.ensures.served c.serve.ensures.through c.serve.ensures.whole c.serve.ensures.ports c.serve.ensures.sends c.serve.ensures.visits c.serve.ensures.booked c.serve.ensures.due c.serve.ensures.written c.serve.ensures.given c.serve.ensures.replied c.serve.ensures.rests c.serve.ensures.left c.serve.ensures.bounded c.serve.ensures.ending)) put
