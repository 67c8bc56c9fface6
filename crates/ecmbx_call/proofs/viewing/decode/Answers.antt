use Rattle.std.proofs.Common.{sym}
use Rattle.capture_audit.specs.of_capture_view.View.{view_text}
use Rattle.tool_call.specs.of_ecmbx_words.declared.status.Status.TheVariants as statuses
use Rattle.ecmbx_call.specs.Course.{ViewCourse}
use Rattle.ecmbx_call.specs.Course.ViewCourse.{shown, refused}
use Rattle.tool_call.proofs.of_ecmbx_words.Loads.{said}
use Rattle.ecmbx_call.proofs.Courses.{capture_refused}
use Rattle.ecmbx_call.proofs.viewing.decode.Goals as goal

pub returns-in-Ok-clause-course : goal.returns-in-Ok-clause-course
returns-in-Ok-clause-course g c =
    said (ViewCourse c.args.octets.now) statuses.Done (view_text c.args.octets.now c.in-Ok.capture) (g.O.Sink.written c.args.out.now) (g.O.Sink.written c.show.new.out) c.show.result (shown c.in-Ok.capture (sym c.in-Ok.ensures.exact)) c.show.ensures.put

pub returns-in-Err-clause-course : goal.returns-in-Err-clause-course
returns-in-Err-clause-course g c =
    capture_refused c.args.octets.now (ViewCourse c.args.octets.now) (λ fault is. refused fault is) c.read.result c.in-Err.fault (g.O.Sink.written c.args.out.now) (g.O.Sink.written c.refuse.new.out) c.refuse.result c.in-Err.is c.read.ensures.exact c.refuse.ensures.put c.refuse.ensures.memory
