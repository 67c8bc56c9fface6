use Rattle.std.proofs.Common.{◌≡◌, map, string_bytes, refl}
use Rattle.ec_outside.specs.Faults.{Rose}
use Rattle.gateway_tool.specs.Told.{told}
use Rattle.entry_act.specs.Words.{scenario_in}
use Rattle.entry_call.specs.Course.{scenario_limit, OctetsCourse, EntryCourse}
use Rattle.entry_call.proofs.Followed.{turned, unloaded, unloaded_fault, rose_from}
use Rattle.entry_call.proofs.call.by_scenario.Goals as goal

pub returns-in-Ok-clause-course : goal.returns-in-Ok-clause-course
returns-in-Ok-clause-course g c =
    let words = map string_bytes c.args.words.now in
    let quiet = rw c.in-Ok.ensures.quiet at c.in_scenario.ensures.course in
    let course = rw c.in-Ok.ensures.same at quiet in
    let loaded = rw c.scenario_word.ensures at c.in-Ok.ensures.found in
    turned (OctetsCourse words c.args.task c.in-Ok.octets (g.F.Files.table c.args.files.now) (g.F.Files.table c.in_scenario.new.files) (c.in_scenario.new.port ≡ c.args.port.now)
    (told g.P.Port.heard g.P.Port.sent g.P.Port.over g.P.Port.port_faults c.args.port.now) (told g.P.Port.heard g.P.Port.sent g.P.Port.over g.P.Port.port_faults c.in_scenario.new.port))
    (EntryCourse words (g.F.Files.table c.args.files.now) (g.F.Files.table c.in_scenario.new.files) (c.in_scenario.new.port ≡ c.args.port.now)
    (told g.P.Port.heard g.P.Port.sent g.P.Port.over g.P.Port.port_faults c.args.port.now) (told g.P.Port.heard g.P.Port.sent g.P.Port.over g.P.Port.port_faults c.in_scenario.new.port))
    (λ planned text came. EntryCourse.read c.args.task c.in-Ok.octets planned text c.requires loaded came)
    (g.O.Sink.written c.args.out.now) (g.O.Sink.written c.in_scenario.new.out) c.in_scenario.result course

pub returns-in-Ok-clause-file : goal.returns-in-Ok-clause-file
returns-in-Ok-clause-file g c is =
    rose_from (g.F.Files.file_faults c.args.files.now) (g.F.Files.file_faults c.load.new.files) (g.F.Files.file_faults c.in_scenario.new.files) c.in-Ok.ensures.later c.in_scenario.ensures.later (c.in_scenario.ensures.file is)

pub returns-in-Err-clause-course : goal.returns-in-Err-clause-course
returns-in-Err-clause-course g c =
    let words = map string_bytes c.args.words.now in
    let lost = rw c.scenario_word.ensures at c.in-Err.ensures.failed in
    unloaded scenario_limit (scenario_in words) (g.F.Files.table c.args.files.now) (Rose (g.F.Files.file_faults c.args.files.now) (g.F.Files.file_faults c.load.new.files))
    (EntryCourse words (g.F.Files.table c.args.files.now) (g.F.Files.table c.load.new.files) (c.args.port.now ≡ c.args.port.now)
    (told g.P.Port.heard g.P.Port.sent g.P.Port.over g.P.Port.port_faults c.args.port.now) (told g.P.Port.heard g.P.Port.sent g.P.Port.over g.P.Port.port_faults c.args.port.now))
    (λ planned text gone. EntryCourse.unread c.args.task planned text c.requires gone c.in-Err.ensures.same refl) (EntryCourse.starved c.in-Err.ensures.same refl)
    (g.O.Sink.written c.args.out.now) (g.O.Sink.written c.load.new.out) c.in-Err.status lost

pub returns-in-Err-clause-file : goal.returns-in-Err-clause-file
returns-in-Err-clause-file g c is =
    unloaded_fault scenario_limit c.scenario_word.result.now (g.F.Files.table c.args.files.now) (Rose (g.F.Files.file_faults c.args.files.now) (g.F.Files.file_faults c.load.new.files))
    (g.O.Sink.written c.args.out.now) (g.O.Sink.written c.load.new.out) c.in-Err.status c.in-Err.ensures.failed is
