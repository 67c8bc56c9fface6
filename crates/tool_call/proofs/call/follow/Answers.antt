use Rattle.std.proofs.Common.{◌≡◌, map, string_bytes, refl, sym}
use Rattle.ecmbx_words.specs.of_ec_outside.Faults.{Rose}
use Rattle.gateway_tool.specs.Told.{told}
use Rattle.ecmbx_words.specs.declared.status.Status.TheVariants as statuses
use Rattle.ecmbx_words.specs.Texts.{usage_line}
use Rattle.ecmbx_words.proofs.Loads.{said}
use Rattle.tool_call.specs.Course.{AskCourse}
use Rattle.tool_call.proofs.Causes.{asked_course}
use Rattle.tool_call.proofs.call.follow.Goals as goal

pub returns-in-Ok-Some-clause-course : goal.returns-in-Ok-Some-clause-course
returns-in-Ok-Some-clause-course g c =
    let found = rw c.in-Ok-Some.field-0-is at c.in-Ok-Some.ensures in
    asked_course (map string_bytes c.args.words.now) (g.F.Files.table c.args.files.now) (Rose (g.F.Files.file_faults c.args.files.now) (g.F.Files.file_faults c.act_on.new.files)) (c.act_on.new.port ≡ c.args.port.now)
    (told g.P.Port.heard g.P.Port.sent g.P.Port.over g.P.Port.port_faults c.args.port.now) (told g.P.Port.heard g.P.Port.sent g.P.Port.over g.P.Port.port_faults c.act_on.new.port)
    c.in-Ok-Some.asked c.file_of.result.now (g.O.Sink.written c.args.out.now) (g.O.Sink.written c.act_on.new.out) c.act_on.result (sym found.value) c.file_of.ensures c.act_on.ensures.course

pub returns-in-Ok-None-clause-course : goal.returns-in-Ok-None-clause-course
returns-in-Ok-None-clause-course g c =
    let none = rw c.in-Ok-None.field-0-is at c.in-Ok-None.ensures in
    let put = rw c.usage.ensures at c.say.ensures.put in
    said (AskCourse (map string_bytes c.args.words.now) (g.F.Files.table c.args.files.now) (Rose (g.F.Files.file_faults c.args.files.now) (g.F.Files.file_faults c.args.files.now)) (c.args.port.now ≡ c.args.port.now)
    (told g.P.Port.heard g.P.Port.sent g.P.Port.over g.P.Port.port_faults c.args.port.now) (told g.P.Port.heard g.P.Port.sent g.P.Port.over g.P.Port.port_faults c.args.port.now)) statuses.Usage usage_line
    (g.O.Sink.written c.args.out.now) (g.O.Sink.written c.say.new.out) c.say.result (AskCourse.usage (sym none.value) refl) put
