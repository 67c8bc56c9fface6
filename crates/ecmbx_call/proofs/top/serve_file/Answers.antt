use Rattle.gateway_stream.specs.of_ec_outside.Faults.{Rose}
use Rattle.run_report.specs.of_run_book.Book.{IsNew}
use Rattle.promised_run.specs.of_gateway_run.Serving.{told}
use Rattle.ecmbx_call.specs.Serving.{ServeCourse}
use Rattle.tool_call.proofs.of_ecmbx_words.Loads.{loaded, unloaded}
use Rattle.ecmbx_call.specs.Files.{limit}
use Rattle.ecmbx_call.proofs.Servings.{served_in_file}
use Rattle.ecmbx_call.proofs.top.serve_file.Goals as goal

pub returns-in-Ok-clause-course : goal.returns-in-Ok-clause-course
returns-in-Ok-clause-course g c =
    let course = rw c.in-Ok.ensures.quiet at c.serve_octets.ensures.course in
    loaded limit c.args.name.now (g.F.Files.table c.args.files.now) (Rose (g.F.Files.file_faults c.args.files.now) (g.F.Files.file_faults c.load.new.files)) (IsNew c.serve_octets.new.book)
    (ServeCourse c.args.count (told g.P.Port.heard g.P.Port.sent g.P.Port.over g.P.Port.port_faults c.args.port.now) (told g.P.Port.heard g.P.Port.sent g.P.Port.over g.P.Port.port_faults c.serve_octets.new.port) c.serve_octets.new.book) c.in-Ok.octets
    (g.O.Sink.written c.args.out.now) (g.O.Sink.written c.serve_octets.new.out) c.serve_octets.result c.in-Ok.ensures.found course

pub returns-in-Ok-clause-book : goal.returns-in-Ok-clause-book
returns-in-Ok-clause-book g c =
    served_in_file c.args.name.now c.in-Ok.octets (g.F.Files.table c.args.files.now) c.args.count (told g.P.Port.heard g.P.Port.sent g.P.Port.over g.P.Port.port_faults c.args.port.now) (told g.P.Port.heard g.P.Port.sent g.P.Port.over g.P.Port.port_faults c.serve_octets.new.port) c.serve_octets.new.book c.in-Ok.ensures.found c.serve_octets.ensures.book

pub returns-in-Err-clause-course : goal.returns-in-Err-clause-course
returns-in-Err-clause-course g c =
    unloaded limit c.args.name.now (g.F.Files.table c.args.files.now) (Rose (g.F.Files.file_faults c.args.files.now) (g.F.Files.file_faults c.load.new.files)) (IsNew c.args.book.now) (ServeCourse c.args.count (told g.P.Port.heard g.P.Port.sent g.P.Port.over g.P.Port.port_faults c.args.port.now) (told g.P.Port.heard g.P.Port.sent g.P.Port.over g.P.Port.port_faults c.args.port.now) c.args.book.now)
    (g.O.Sink.written c.args.out.now) (g.O.Sink.written c.load.new.out) c.in-Err.status c.requires.new c.in-Err.ensures.failed
