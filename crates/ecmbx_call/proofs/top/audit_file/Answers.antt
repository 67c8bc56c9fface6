use Rattle.gateway_stream.specs.of_ec_outside.Faults.{Rose}
use Rattle.ecmbx_call.specs.Audits.{AuditCourse}
use Rattle.tool_call.proofs.of_ecmbx_words.Loads.{loaded, unloaded}
use Rattle.ecmbx_call.specs.Files.{limit}
use Rattle.ecmbx_call.proofs.top.audit_file.Goals as goal

pub returns-in-Ok-clause-course : goal.returns-in-Ok-clause-course
returns-in-Ok-clause-course g c =
    let course = rw (c.bytes.ensures, c.in-Ok.ensures.quiet) at c.audit.ensures.course in
    loaded limit c.args.name.now (g.F.Files.table c.args.files.now) (Rose (g.F.Files.file_faults c.args.files.now) (g.F.Files.file_faults c.load.new.files)) (Unit {0}) AuditCourse c.in-Ok.octets
    (g.O.Sink.written c.args.out.now) (g.O.Sink.written c.audit.new.out) c.audit.result c.in-Ok.ensures.found course

pub returns-in-Err-clause-course : goal.returns-in-Err-clause-course
returns-in-Err-clause-course g c =
    unloaded limit c.args.name.now (g.F.Files.table c.args.files.now) (Rose (g.F.Files.file_faults c.args.files.now) (g.F.Files.file_faults c.load.new.files)) (Unit {0}) AuditCourse
    (g.O.Sink.written c.args.out.now) (g.O.Sink.written c.load.new.out) c.in-Err.status tt c.in-Err.ensures.failed
