use Rattle.std.proofs.Common.{◌≡◌, map, string_bytes, refl}
use Rattle.ec_outside.specs.Faults.{Rose}
use Rattle.gateway_tool.specs.Told.{told}
use Rattle.segment_plan.specs.declared.service.Service.{Service}
use Rattle.entry_act.specs.Words.{last_in}
use Rattle.entry_call.specs.Service.{ServiceCourse}
use Rattle.entry_call.specs.Course.{file_limit, WriteCourse}
use Rattle.entry_call.proofs.Followed.{turned, unloaded, unloaded_fault, rose_from}
use Rattle.entry_call.proofs.call.write_file.Goals as goal

pub returns-in-Ok-clause-course : goal.returns-in-Ok-clause-course
returns-in-Ok-clause-course g c =
    let words = map string_bytes c.args.words.now in
    let quiet = rw c.in-Ok.ensures.quiet at c.carry_out.ensures.course in
    let course = rw c.in-Ok.ensures.same at quiet in
    let loaded = rw c.last_word.ensures at c.in-Ok.ensures.found in
    turned (ServiceCourse words c.args.task c.args.slave.now (Service.WriteFile c.args.name c.args.pass c.in-Ok.bytes) (g.F.Files.table c.args.files.now) (g.F.Files.table c.carry_out.new.files) (c.carry_out.new.port ≡ c.args.port.now)
    (told g.P.Port.heard g.P.Port.sent g.P.Port.over g.P.Port.port_faults c.args.port.now) (told g.P.Port.heard g.P.Port.sent g.P.Port.over g.P.Port.port_faults c.carry_out.new.port))
    (WriteCourse words c.args.task c.args.slave.now c.args.name c.args.pass (g.F.Files.table c.args.files.now) (g.F.Files.table c.carry_out.new.files) (c.carry_out.new.port ≡ c.args.port.now)
    (told g.P.Port.heard g.P.Port.sent g.P.Port.over g.P.Port.port_faults c.args.port.now) (told g.P.Port.heard g.P.Port.sent g.P.Port.over g.P.Port.port_faults c.carry_out.new.port))
    (λ planned text came. WriteCourse.written c.in-Ok.bytes planned text loaded came)
    (g.O.Sink.written c.args.out.now) (g.O.Sink.written c.carry_out.new.out) c.carry_out.result course

pub returns-in-Ok-clause-file : goal.returns-in-Ok-clause-file
returns-in-Ok-clause-file g c is =
    rose_from (g.F.Files.file_faults c.args.files.now) (g.F.Files.file_faults c.load.new.files) (g.F.Files.file_faults c.carry_out.new.files) c.in-Ok.ensures.later c.carry_out.ensures.later (c.carry_out.ensures.file is)

pub returns-in-Err-clause-course : goal.returns-in-Err-clause-course
returns-in-Err-clause-course g c =
    let words = map string_bytes c.args.words.now in
    let lost = rw c.last_word.ensures at c.in-Err.ensures.failed in
    unloaded file_limit (last_in words) (g.F.Files.table c.args.files.now) (Rose (g.F.Files.file_faults c.args.files.now) (g.F.Files.file_faults c.load.new.files))
    (WriteCourse words c.args.task c.args.slave.now c.args.name c.args.pass (g.F.Files.table c.args.files.now) (g.F.Files.table c.load.new.files) (c.args.port.now ≡ c.args.port.now)
    (told g.P.Port.heard g.P.Port.sent g.P.Port.over g.P.Port.port_faults c.args.port.now) (told g.P.Port.heard g.P.Port.sent g.P.Port.over g.P.Port.port_faults c.args.port.now))
    (λ planned text gone. WriteCourse.unread planned text gone c.in-Err.ensures.same refl) (WriteCourse.starved c.in-Err.ensures.same refl)
    (g.O.Sink.written c.args.out.now) (g.O.Sink.written c.load.new.out) c.in-Err.status lost

pub returns-in-Err-clause-file : goal.returns-in-Err-clause-file
returns-in-Err-clause-file g c is =
    unloaded_fault file_limit c.last_word.result.now (g.F.Files.table c.args.files.now) (Rose (g.F.Files.file_faults c.args.files.now) (g.F.Files.file_faults c.load.new.files))
    (g.O.Sink.written c.args.out.now) (g.O.Sink.written c.load.new.out) c.in-Err.status c.in-Err.ensures.failed is
