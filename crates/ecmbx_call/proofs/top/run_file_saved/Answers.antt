use Rattle.gateway_stream.specs.of_ec_outside.Faults.{Rose}
use Rattle.run_report.specs.of_run_book.Book.{IsNew}
use Rattle.tool_call.proofs.of_ecmbx_words.Put.{rose_from}
use Rattle.tool_call.specs.of_ecmbx_words.Files.{Followed}
use Rattle.ecmbx_call.specs.Course.{SavedCourse}
use Rattle.tool_call.proofs.of_ecmbx_words.Loads.{loaded, unloaded}
use Rattle.ecmbx_call.specs.Files.{limit, LeavesFiles}
use Rattle.ecmbx_call.proofs.Courses.{saved_later}
use Rattle.ecmbx_call.proofs.Kept.{leaves_all, leaves_later}
use Rattle.ecmbx_call.proofs.top.run_file_saved.Goals as goal

pub returns-in-Ok-clause-course : goal.returns-in-Ok-clause-course
returns-in-Ok-clause-course g c =
    let raw : Followed (SavedCourse c.args.capture.now (g.F.Files.table c.load.new.files) (g.F.Files.table c.run_saved.new.files) (Rose (g.F.Files.file_faults c.load.new.files) (g.F.Files.file_faults c.run_saved.new.files)) c.run_saved.new.book c.in-Ok.octets)
    (g.O.Sink.written c.load.new.out) (g.O.Sink.written c.run_saved.new.out) c.run_saved.result = c.run_saved.ensures.course in
    let course = rw (c.in-Ok.ensures.quiet, c.load.ensures.same) at raw in
    let later = saved_later c.args.capture.now (g.F.Files.table c.args.files.now) (g.F.Files.table c.run_saved.new.files) (Rose (g.F.Files.file_faults c.load.new.files) (g.F.Files.file_faults c.run_saved.new.files))
    (Rose (g.F.Files.file_faults c.args.files.now) (g.F.Files.file_faults c.run_saved.new.files))
    (rose_from (g.F.Files.file_faults c.args.files.now) (g.F.Files.file_faults c.load.new.files) (g.F.Files.file_faults c.run_saved.new.files) c.load.ensures.later c.run_saved.ensures.later) c.run_saved.new.book c.in-Ok.octets
    (g.O.Sink.written c.args.out.now) (g.O.Sink.written c.run_saved.new.out) c.run_saved.result course in
    loaded limit c.args.name.now (g.F.Files.table c.args.files.now) (Rose (g.F.Files.file_faults c.args.files.now) (g.F.Files.file_faults c.run_saved.new.files)) (IsNew c.run_saved.new.book)
    (SavedCourse c.args.capture.now (g.F.Files.table c.args.files.now) (g.F.Files.table c.run_saved.new.files) (Rose (g.F.Files.file_faults c.args.files.now) (g.F.Files.file_faults c.run_saved.new.files)) c.run_saved.new.book) c.in-Ok.octets
    (g.O.Sink.written c.args.out.now) (g.O.Sink.written c.run_saved.new.out) c.run_saved.result c.in-Ok.ensures.found later

pub returns-in-Err-clause-course : goal.returns-in-Err-clause-course
returns-in-Err-clause-course g c =
    unloaded limit c.args.name.now (g.F.Files.table c.args.files.now) (Rose (g.F.Files.file_faults c.args.files.now) (g.F.Files.file_faults c.load.new.files)) (IsNew c.args.book.now)
    (SavedCourse c.args.capture.now (g.F.Files.table c.args.files.now) (g.F.Files.table c.load.new.files) (Rose (g.F.Files.file_faults c.args.files.now) (g.F.Files.file_faults c.load.new.files)) c.args.book.now)
    (g.O.Sink.written c.args.out.now) (g.O.Sink.written c.load.new.out) c.in-Err.status c.requires c.in-Err.ensures.failed

pub returns-in-Ok-clause-files : goal.returns-in-Ok-clause-files
returns-in-Ok-clause-files g c =
    let raw : LeavesFiles c.args.capture.now (g.F.Files.table c.load.new.files) (g.F.Files.table c.run_saved.new.files) (Rose (g.F.Files.file_faults c.load.new.files) (g.F.Files.file_faults c.run_saved.new.files)) c.run_saved.new.book c.run_saved.result = c.run_saved.ensures.files in
    let files = rw c.load.ensures.same at raw in
    leaves_later c.args.capture.now (g.F.Files.table c.args.files.now) (g.F.Files.table c.run_saved.new.files) c.run_saved.new.book c.run_saved.result (Rose (g.F.Files.file_faults c.load.new.files) (g.F.Files.file_faults c.run_saved.new.files))
    (Rose (g.F.Files.file_faults c.args.files.now) (g.F.Files.file_faults c.run_saved.new.files))
    (rose_from (g.F.Files.file_faults c.args.files.now) (g.F.Files.file_faults c.load.new.files) (g.F.Files.file_faults c.run_saved.new.files) c.load.ensures.later c.run_saved.ensures.later) files

pub returns-in-Err-clause-files : goal.returns-in-Err-clause-files
returns-in-Err-clause-files g c =
    leaves_all c.args.capture.now (g.F.Files.table c.args.files.now) (g.F.Files.table c.load.new.files) c.args.book.now c.in-Err.status (Rose (g.F.Files.file_faults c.args.files.now) (g.F.Files.file_faults c.load.new.files)) c.load.ensures.same
