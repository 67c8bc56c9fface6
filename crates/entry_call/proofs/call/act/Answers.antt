use Rattle.std.proofs.Common.{◌≡◌, map, string_bytes, [], refl, inl}
use Rattle.ecmbx_words.specs.declared.status.Status.TheVariants as statuses
use Rattle.gateway_tool.specs.Told.{told}
use Rattle.people_words.specs.declared.ended.Ended.{Ended}
use Rattle.entry_act.specs.declared.acts.Act.{Act}
use Rattle.entry_call.specs.Course.{NothingCourse, SlaveCourse}
use Rattle.entry_call.proofs.Acts.{acted_at}
use Rattle.entry_call.proofs.Followed.{no_file_fault, told_among}
use Rattle.entry_call.proofs.call.act.Goals as goal

pub returns-in-Ok-Whole-clause-course : goal.returns-in-Ok-Whole-clause-course
returns-in-Ok-Whole-clause-course g c =
    let found = rw c.in-Ok-Whole.field-0-is at c.in-Ok-Whole.ensures in
    acted_at (map string_bytes c.args.words.now) c.args.task c.args.slave.now (g.F.Files.table c.args.files.now) (g.F.Files.table c.carry_out.new.files) (c.carry_out.new.port ≡ c.args.port.now)
    (told g.P.Port.heard g.P.Port.sent g.P.Port.over g.P.Port.port_faults c.args.port.now) (told g.P.Port.heard g.P.Port.sent g.P.Port.over g.P.Port.port_faults c.carry_out.new.port)
    (g.O.Sink.written c.args.out.now) (g.O.Sink.written c.carry_out.new.out) c.carry_out.result (Act.Whole c.in-Ok-Whole.service) found.value c.carry_out.ensures.course

pub returns-in-Ok-Write-clause-course : goal.returns-in-Ok-Write-clause-course
returns-in-Ok-Write-clause-course g c =
    let found = rw c.in-Ok-Write.field-0-is at c.in-Ok-Write.ensures in
    acted_at (map string_bytes c.args.words.now) c.args.task c.args.slave.now (g.F.Files.table c.args.files.now) (g.F.Files.table c.write_file.new.files) (c.write_file.new.port ≡ c.args.port.now)
    (told g.P.Port.heard g.P.Port.sent g.P.Port.over g.P.Port.port_faults c.args.port.now) (told g.P.Port.heard g.P.Port.sent g.P.Port.over g.P.Port.port_faults c.write_file.new.port)
    (g.O.Sink.written c.args.out.now) (g.O.Sink.written c.write_file.new.out) c.write_file.result (Act.Write c.in-Ok-Write.name c.in-Ok-Write.pass) found.value c.write_file.ensures.course

pub returns-in-Ok-Nothing-clause-course : goal.returns-in-Ok-Nothing-clause-course
returns-in-Ok-Nothing-clause-course g c =
    let found = rw c.in-Ok-Nothing.field-0-is at c.in-Ok-Nothing.ensures in
    let line = rw c.bytes.ensures at c.tell.ensures.put in
    acted_at (map string_bytes c.args.words.now) c.args.task c.args.slave.now (g.F.Files.table c.args.files.now) (g.F.Files.table c.args.files.now) (c.args.port.now ≡ c.args.port.now)
    (told g.P.Port.heard g.P.Port.sent g.P.Port.over g.P.Port.port_faults c.args.port.now) (told g.P.Port.heard g.P.Port.sent g.P.Port.over g.P.Port.port_faults c.args.port.now)
    (g.O.Sink.written c.args.out.now) (g.O.Sink.written c.tell.new.out) c.tell.result (Act.Nothing c.in-Ok-Nothing.line) found.value
    (Ended.As statuses.Usage, c.in-Ok-Nothing.line, NothingCourse.nothing refl refl, line)

pub returns-in-Ok-Nothing-clause-file : goal.returns-in-Ok-Nothing-clause-file
returns-in-Ok-Nothing-clause-file g c is =
    no_file_fault (Ended.As statuses.Usage) c.tell.result (told_among (Ended.As statuses.Usage) c.bytes.result.now (g.O.Sink.written c.args.out.now) (g.O.Sink.written c.tell.new.out) c.tell.result c.tell.ensures.put) (λ same. absurd cc) is

pub returns-in-Err-clause-course : goal.returns-in-Err-clause-course
returns-in-Err-clause-course g c = (Ended.As statuses.NoMemory, [], SlaveCourse.starved refl refl, inl refl)
