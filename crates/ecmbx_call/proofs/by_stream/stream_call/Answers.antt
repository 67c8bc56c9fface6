use Rattle.gateway_stream.specs.of_ec_outside.Faults.{Rose}
use Rattle.tool_call.specs.of_ecmbx_words.Form.{as_serve, saved_in}
use Rattle.ecmbx_call.specs.Course.{words_of}
use Rattle.ecmbx_call.proofs.Calls.{calls_of}
use Rattle.ecmbx_call.proofs.Kept.{leaves_all}
use Rattle.ecmbx_call.specs.Linked.{told_first, told_last}
use Rattle.ecmbx_call.proofs.by_stream.stream_call.Goals as goal

pub returns-clause-calls : goal.returns-clause-calls
returns-clause-calls g c =
    calls_of (as_serve (words_of c.args.words.now)) (g.F.Files.table c.args.files.now) (g.F.Files.table c.carry_out.new.files) (Rose (g.F.Files.file_faults c.args.files.now) (g.F.Files.file_faults c.carry_out.new.files)) (Rose (g.O.Sink.sink_faults c.args.out.now) (g.O.Sink.sink_faults c.carry_out.new.out)) (told_first g.L.Link.given g.L.Link.sent g.L.Link.over g.L.Link.link_faults c.args.link) (told_last g.L.Link.given g.L.Link.sent g.L.Link.over g.L.Link.link_faults c.args.link c.carry_out.result.1) c.carry_out.new.book
    (g.O.Sink.written c.args.out.now) (g.O.Sink.written c.carry_out.new.out) c.carry_out.result.0 c.carry_out.ensures.course c.carry_out.ensures.sink c.carry_out.ensures.book (λ other. c.carry_out.ensures.same)
    (leaves_all (saved_in (as_serve (words_of c.args.words.now))) (g.F.Files.table c.args.files.now) (g.F.Files.table c.carry_out.new.files) c.carry_out.new.book c.carry_out.result.0 (Rose (g.F.Files.file_faults c.args.files.now) (g.F.Files.file_faults c.carry_out.new.files)) c.carry_out.ensures.same)
