use Rattle.std.proofs.Common.{◌≡◌}
use Rattle.ecmbx_words.specs.of_ec_outside.Faults.{Rose}
use Rattle.gateway_tool.specs.Told.{told}
use Rattle.tool_call.specs.declared.asked.Act.{Act}
use Rattle.tool_call.proofs.Causes.{acted_at}
use Rattle.tool_call.proofs.call.act_on.Goals as goal

pub returns-in-Whole-clause-course : goal.returns-in-Whole-clause-course
returns-in-Whole-clause-course g c =
    acted_at c.args.asked.slave c.args.asked.act (Act.Whole c.in-Whole.service) c.args.file.now (g.F.Files.table c.args.files.now) (Rose (g.F.Files.file_faults c.args.files.now) (g.F.Files.file_faults c.args.files.now)) (c.carry_out.new.port ≡ c.args.port.now)
    (told g.P.Port.heard g.P.Port.sent g.P.Port.over g.P.Port.port_faults c.args.port.now) (told g.P.Port.heard g.P.Port.sent g.P.Port.over g.P.Port.port_faults c.carry_out.new.port)
    (g.O.Sink.written c.args.out.now) (g.O.Sink.written c.carry_out.new.out) c.carry_out.result c.in-Whole.is c.carry_out.ensures.course

pub returns-in-Write-clause-course : goal.returns-in-Write-clause-course
returns-in-Write-clause-course g c =
    acted_at c.args.asked.slave c.args.asked.act (Act.Write c.in-Write.name) c.args.file.now (g.F.Files.table c.args.files.now) (Rose (g.F.Files.file_faults c.args.files.now) (g.F.Files.file_faults c.write_file.new.files)) (c.write_file.new.port ≡ c.args.port.now)
    (told g.P.Port.heard g.P.Port.sent g.P.Port.over g.P.Port.port_faults c.args.port.now) (told g.P.Port.heard g.P.Port.sent g.P.Port.over g.P.Port.port_faults c.write_file.new.port)
    (g.O.Sink.written c.args.out.now) (g.O.Sink.written c.write_file.new.out) c.write_file.result c.in-Write.is c.write_file.ensures.course
