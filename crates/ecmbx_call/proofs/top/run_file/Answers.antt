use Rattle.gateway_stream.specs.of_ec_outside.Faults.{Rose}
use Rattle.run_report.specs.of_run_book.Book.{IsNew}
use Rattle.ecmbx_call.specs.Course.{RunCourse}
use Rattle.tool_call.proofs.of_ecmbx_words.Loads.{loaded, unloaded}
use Rattle.ecmbx_call.specs.Files.{limit}
use Rattle.ecmbx_call.proofs.top.run_file.Goals as goal

pub returns-in-Ok-clause-course : goal.returns-in-Ok-clause-course
returns-in-Ok-clause-course g c =
    let course = rw c.in-Ok.ensures.quiet at c.run_octets.ensures.course in
    loaded limit c.args.name.now (g.F.Files.table c.args.files.now) (Rose (g.F.Files.file_faults c.args.files.now) (g.F.Files.file_faults c.load.new.files)) (IsNew c.run_octets.new.book) (RunCourse c.run_octets.new.book) c.in-Ok.octets
    (g.O.Sink.written c.args.out.now) (g.O.Sink.written c.run_octets.new.out) c.run_octets.result c.in-Ok.ensures.found course

pub returns-in-Err-clause-course : goal.returns-in-Err-clause-course
returns-in-Err-clause-course g c =
    unloaded limit c.args.name.now (g.F.Files.table c.args.files.now) (Rose (g.F.Files.file_faults c.args.files.now) (g.F.Files.file_faults c.load.new.files)) (IsNew c.args.book.now) (RunCourse c.args.book.now)
    (g.O.Sink.written c.args.out.now) (g.O.Sink.written c.load.new.out) c.in-Err.status c.requires c.in-Err.ensures.failed
