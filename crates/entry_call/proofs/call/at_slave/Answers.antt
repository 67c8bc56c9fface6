use Rattle.std.proofs.Common.{◌≡◌, map, string_bytes, refl, sym}
use Rattle.ecmbx_words.specs.declared.status.Status.TheVariants as statuses
use Rattle.gateway_tool.specs.Told.{told}
use Rattle.people_words.specs.declared.ended.Ended.{Ended}
use Rattle.entry_lines.specs.Slaves.{no_slave_line}
use Rattle.entry_act.specs.Words.{slave_in}
use Rattle.entry_call.specs.Course.{SlaveCourse, PlanCourse}
use Rattle.entry_call.proofs.Followed.{turned, no_file_fault}
use Rattle.entry_call.proofs.call.at_slave.Goals as goal

pub returns-in-Some-clause-course : goal.returns-in-Some-clause-course
returns-in-Some-clause-course g c =
    let words = map string_bytes c.args.words.now in
    let here = rw c.as_slice-slaves.ensures at c.in-Some.ensures.value in
    let meant = rw c.slave_word-word.ensures at here in
    turned (SlaveCourse words c.args.task c.in-Some.slave.now (g.F.Files.table c.args.files.now) (g.F.Files.table c.act.new.files) (c.act.new.port ≡ c.args.port.now)
    (told g.P.Port.heard g.P.Port.sent g.P.Port.over g.P.Port.port_faults c.args.port.now) (told g.P.Port.heard g.P.Port.sent g.P.Port.over g.P.Port.port_faults c.act.new.port))
    (PlanCourse words c.args.task c.args.plan.now.slaves (g.F.Files.table c.args.files.now) (g.F.Files.table c.act.new.files) (c.act.new.port ≡ c.args.port.now)
    (told g.P.Port.heard g.P.Port.sent g.P.Port.over g.P.Port.port_faults c.args.port.now) (told g.P.Port.heard g.P.Port.sent g.P.Port.over g.P.Port.port_faults c.act.new.port))
    (λ planned text came. PlanCourse.known c.in-Some.slave.now planned text (sym meant) came)
    (g.O.Sink.written c.args.out.now) (g.O.Sink.written c.act.new.out) c.act.result c.act.ensures.course

pub returns-in-None-clause-course : goal.returns-in-None-clause-course
returns-in-None-clause-course g c =
    let here = rw c.as_slice-slaves.ensures at c.in-None.ensures.value in
    let meant = rw c.slave_word-word.ensures at here in
    let there = rw c.as_slice-slaves.ensures at c.no_slave.ensures in
    let line = rw c.slave_word-word.ensures at there in
    let text = no_slave_line c.args.plan.now.slaves (slave_in (map string_bytes c.args.words.now)) in
    (Ended.As statuses.Usage, text, PlanCourse.unknown (sym meant) refl refl, c.put.ensures.put text line)

pub returns-in-None-clause-file : goal.returns-in-None-clause-file
returns-in-None-clause-file g c is = no_file_fault (Ended.As statuses.Usage) c.put.result c.put.ensures.among (λ same. absurd cc) is
