use Rattle.std.proofs.Common.{◌≡◌, refl}
use Rattle.ecmbx_words.specs.of_ec_outside.Faults.{Rose}
use Rattle.gateway_tool.specs.of_segment_plan.declared.service.Service.{Service}
use Rattle.gateway_tool.specs.Told.{told}
use Rattle.ecmbx_words.proofs.Loads.{loaded, unloaded}
use Rattle.tool_call.specs.Course.{limit, call_of, CallCourse}
use Rattle.tool_call.proofs.call.write_file.Goals as goal

pub returns-in-Ok-clause-course : goal.returns-in-Ok-clause-course
returns-in-Ok-clause-course g c =
    let course = rw c.in-Ok.ensures.quiet at c.carry_out.ensures.course in
    loaded limit c.args.file.now (g.F.Files.table c.args.files.now) (Rose (g.F.Files.file_faults c.args.files.now) (g.F.Files.file_faults c.load.new.files)) (c.carry_out.new.port ≡ c.args.port.now)
    (λ octets. CallCourse (call_of c.args.slave (Service.WriteFile c.args.name 0 octets)) (told g.P.Port.heard g.P.Port.sent g.P.Port.over g.P.Port.port_faults c.args.port.now) (told g.P.Port.heard g.P.Port.sent g.P.Port.over g.P.Port.port_faults c.carry_out.new.port)) c.in-Ok.bytes
    (g.O.Sink.written c.args.out.now) (g.O.Sink.written c.carry_out.new.out) c.carry_out.result c.in-Ok.ensures.found course

pub returns-in-Err-clause-course : goal.returns-in-Err-clause-course
returns-in-Err-clause-course g c =
    unloaded limit c.args.file.now (g.F.Files.table c.args.files.now) (Rose (g.F.Files.file_faults c.args.files.now) (g.F.Files.file_faults c.load.new.files)) (c.args.port.now ≡ c.args.port.now)
    (λ octets. CallCourse (call_of c.args.slave (Service.WriteFile c.args.name 0 octets)) (told g.P.Port.heard g.P.Port.sent g.P.Port.over g.P.Port.port_faults c.args.port.now) (told g.P.Port.heard g.P.Port.sent g.P.Port.over g.P.Port.port_faults c.args.port.now))
    (g.O.Sink.written c.args.out.now) (g.O.Sink.written c.load.new.out) c.in-Err.status refl c.in-Err.ensures.failed
