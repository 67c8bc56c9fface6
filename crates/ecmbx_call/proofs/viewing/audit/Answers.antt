use Rattle.std.proofs.Common.{sym}
use Rattle.capture_audit.specs.Audit.{verdict_of}
use Rattle.ecmbx_call.specs.Audits.{verdict_status, verdict_text, AuditCourse}
use Rattle.ecmbx_call.specs.Audits.AuditCourse.{audited, refused}
use Rattle.tool_call.proofs.of_ecmbx_words.Loads.{said}
use Rattle.ecmbx_call.proofs.Courses.{capture_refused}
use Rattle.ecmbx_call.proofs.viewing.audit.Goals as goal

pub returns-in-Ok-clause-course : goal.returns-in-Ok-clause-course
returns-in-Ok-clause-course g c =
    let v = verdict_of c.args.octets.now c.in-Ok.capture in
    said (AuditCourse c.args.octets.now) (verdict_status v) (verdict_text v) (g.O.Sink.written c.args.out.now) (g.O.Sink.written c.audit_capture.new.out) c.audit_capture.result (audited c.in-Ok.capture (sym c.in-Ok.ensures.exact)) c.audit_capture.ensures.put

pub returns-in-Err-clause-course : goal.returns-in-Err-clause-course
returns-in-Err-clause-course g c =
    capture_refused c.args.octets.now (AuditCourse c.args.octets.now) (λ fault is. refused fault is) c.read.result c.in-Err.fault (g.O.Sink.written c.args.out.now) (g.O.Sink.written c.refuse.new.out) c.refuse.result c.in-Err.is c.read.ensures.exact c.refuse.ensures.put c.refuse.ensures.memory
