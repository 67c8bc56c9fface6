use Rattle.std.proofs.Common.{◌≡◌, map, string_bytes}
use Rattle.ecmbx_words.specs.of_ec_outside.Faults.{Rose}
use Rattle.gateway_tool.specs.Told.{told}
use Rattle.tool_call.proofs.Causes.{usage_cause, absent_cause, long_cause, no_answer_cause, port_cause, file_cause}
use Rattle.tool_call.proofs.call.ask_call.Goals as goal

pub returns-clause-usage : goal.returns-clause-usage
returns-clause-usage g c =
    usage_cause (map string_bytes c.args.words.now) (g.F.Files.table c.args.files.now) (Rose (g.F.Files.file_faults c.args.files.now) (g.F.Files.file_faults c.follow.new.files)) (c.follow.new.port ≡ c.args.port.now)
    (told g.P.Port.heard g.P.Port.sent g.P.Port.over g.P.Port.port_faults c.args.port.now) (told g.P.Port.heard g.P.Port.sent g.P.Port.over g.P.Port.port_faults c.follow.new.port)
    (g.O.Sink.written c.args.out.now) (g.O.Sink.written c.follow.new.out) c.follow.result c.follow.ensures.course

pub returns-clause-absent : goal.returns-clause-absent
returns-clause-absent g c =
    absent_cause (map string_bytes c.args.words.now) (g.F.Files.table c.args.files.now) (Rose (g.F.Files.file_faults c.args.files.now) (g.F.Files.file_faults c.follow.new.files)) (c.follow.new.port ≡ c.args.port.now)
    (told g.P.Port.heard g.P.Port.sent g.P.Port.over g.P.Port.port_faults c.args.port.now) (told g.P.Port.heard g.P.Port.sent g.P.Port.over g.P.Port.port_faults c.follow.new.port)
    (g.O.Sink.written c.args.out.now) (g.O.Sink.written c.follow.new.out) c.follow.result c.follow.ensures.course

pub returns-clause-too_long : goal.returns-clause-too_long
returns-clause-too_long g c =
    long_cause (map string_bytes c.args.words.now) (g.F.Files.table c.args.files.now) (Rose (g.F.Files.file_faults c.args.files.now) (g.F.Files.file_faults c.follow.new.files)) (c.follow.new.port ≡ c.args.port.now)
    (told g.P.Port.heard g.P.Port.sent g.P.Port.over g.P.Port.port_faults c.args.port.now) (told g.P.Port.heard g.P.Port.sent g.P.Port.over g.P.Port.port_faults c.follow.new.port)
    (g.O.Sink.written c.args.out.now) (g.O.Sink.written c.follow.new.out) c.follow.result c.follow.ensures.course

pub returns-clause-no_answer : goal.returns-clause-no_answer
returns-clause-no_answer g c =
    no_answer_cause (map string_bytes c.args.words.now) (g.F.Files.table c.args.files.now) (Rose (g.F.Files.file_faults c.args.files.now) (g.F.Files.file_faults c.follow.new.files)) (c.follow.new.port ≡ c.args.port.now)
    (told g.P.Port.heard g.P.Port.sent g.P.Port.over g.P.Port.port_faults c.args.port.now) (told g.P.Port.heard g.P.Port.sent g.P.Port.over g.P.Port.port_faults c.follow.new.port)
    (g.O.Sink.written c.args.out.now) (g.O.Sink.written c.follow.new.out) c.follow.result c.follow.ensures.course

pub returns-clause-port_fault : goal.returns-clause-port_fault
returns-clause-port_fault g c =
    port_cause (map string_bytes c.args.words.now) (g.F.Files.table c.args.files.now) (Rose (g.F.Files.file_faults c.args.files.now) (g.F.Files.file_faults c.follow.new.files)) (c.follow.new.port ≡ c.args.port.now)
    (told g.P.Port.heard g.P.Port.sent g.P.Port.over g.P.Port.port_faults c.args.port.now) (told g.P.Port.heard g.P.Port.sent g.P.Port.over g.P.Port.port_faults c.follow.new.port)
    (g.O.Sink.written c.args.out.now) (g.O.Sink.written c.follow.new.out) c.follow.result c.follow.ensures.course

pub returns-clause-file_fault : goal.returns-clause-file_fault
returns-clause-file_fault g c =
    file_cause (map string_bytes c.args.words.now) (g.F.Files.table c.args.files.now) (Rose (g.F.Files.file_faults c.args.files.now) (g.F.Files.file_faults c.follow.new.files)) (c.follow.new.port ≡ c.args.port.now)
    (told g.P.Port.heard g.P.Port.sent g.P.Port.over g.P.Port.port_faults c.args.port.now) (told g.P.Port.heard g.P.Port.sent g.P.Port.over g.P.Port.port_faults c.follow.new.port)
    (g.O.Sink.written c.args.out.now) (g.O.Sink.written c.follow.new.out) c.follow.result c.follow.ensures.course
