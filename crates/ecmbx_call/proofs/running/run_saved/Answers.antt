use Rattle.std.proofs.Common.{refl}
use Rattle.gateway_stream.specs.of_ec_outside.Faults.{Rose}
use Rattle.run_report.specs.Report.{report_lines}
use Rattle.tool_call.specs.of_ecmbx_words.Ends.{text_of}
use Rattle.ecmbx_call.specs.Course.{status_of, SavedCourse}
use Rattle.ecmbx_call.specs.Course.SavedCourse.{ran}
use Rattle.ecmbx_call.specs.Files.{LeavesFiles}
use Rattle.tool_call.proofs.of_ecmbx_words.Loads.{said}
use Rattle.ecmbx_call.proofs.Courses.{save_unread, save_failed, has_run}
use Rattle.ecmbx_call.proofs.Ended.{run_ended}
use Rattle.ecmbx_call.proofs.Kept.{leaves_all, leaves_failed}
use Rattle.ecmbx_call.proofs.running.run_saved.Goals as goal

pub returns-in-Err-clause-course : goal.returns-in-Err-clause-course
returns-in-Err-clause-course g c =
    save_unread c.args.name.now (g.F.Files.table c.args.files.now) (g.F.Files.table c.args.files.now) (Rose (g.F.Files.file_faults c.args.files.now) (g.F.Files.file_faults c.args.files.now)) c.args.book.now c.args.octets (g.O.Sink.written c.args.out.now)
    (g.O.Sink.written c.plan_in.new.out) c.in-Err.status c.requires c.in-Err.ensures.failed

pub returns-in-Ok-save-clause-course : goal.returns-in-Ok-save-clause-course
returns-in-Ok-save-clause-course g c =
    let put = rw c.in-Ok.ensures.quiet at c.tell.ensures.put in
    said (SavedCourse c.args.name.now (g.F.Files.table c.args.files.now) (g.F.Files.table c.save.new.files) (Rose (g.F.Files.file_faults c.args.files.now) (g.F.Files.file_faults c.save.new.files)) c.run.new.book c.args.octets) (status_of c.run.new.book.ending)
    (text_of (report_lines c.in-Ok.plan c.run.new.book)) (g.O.Sink.written c.args.out.now) (g.O.Sink.written c.tell.new.out) c.tell.result
    (ran c.in-Ok.plan c.in-Ok.ensures.found (has_run c.in-Ok.plan c.run.new.book c.run.result c.run.ensures.frames c.run.ensures.promise c.run.ensures.bounded c.run.ensures.ends c.run.ensures.ending c.run.ensures.serving c.run.ensures.unheard c.run.ensures.unsent) c.in-Ok-save.ensures.saved) put

pub returns-clause-course : goal.returns-clause-course
returns-clause-course g c =
    rw (c.in-Ok.ensures.quiet)
    (save_failed c.args.name.now (g.F.Files.table c.args.files.now) (g.F.Files.table c.save.new.files) (Rose (g.F.Files.file_faults c.args.files.now) (g.F.Files.file_faults c.save.new.files)) c.in-Ok.plan c.run.new.book c.args.octets
    (g.O.Sink.written c.args.out.now) c.in-Err-save.status c.in-Ok.ensures.found (has_run c.in-Ok.plan c.run.new.book c.run.result c.run.ensures.frames c.run.ensures.promise c.run.ensures.bounded c.run.ensures.ends c.run.ensures.ending c.run.ensures.serving c.run.ensures.unheard c.run.ensures.unsent) c.in-Err-save.ensures.failed)

pub returns-in-Err-clause-files : goal.returns-in-Err-clause-files
returns-in-Err-clause-files g c =
    leaves_all c.args.name.now (g.F.Files.table c.args.files.now) (g.F.Files.table c.args.files.now) c.args.book.now c.in-Err.status (Rose (g.F.Files.file_faults c.args.files.now) (g.F.Files.file_faults c.args.files.now)) refl

pub returns-in-Ok-save-clause-files : goal.returns-in-Ok-save-clause-files
returns-in-Ok-save-clause-files g c =
    LeavesFiles.stored
    (run_ended c.in-Ok.plan c.run.new.book (has_run c.in-Ok.plan c.run.new.book c.run.result c.run.ensures.frames c.run.ensures.promise c.run.ensures.bounded c.run.ensures.ends c.run.ensures.ending c.run.ensures.serving c.run.ensures.unheard c.run.ensures.unsent))
    c.in-Ok-save.ensures.saved

pub returns-clause-files : goal.returns-clause-files
returns-clause-files g c =
    leaves_failed c.args.name.now (g.F.Files.table c.args.files.now) (g.F.Files.table c.save.new.files) c.run.new.book c.in-Err-save.status (Rose (g.F.Files.file_faults c.args.files.now) (g.F.Files.file_faults c.save.new.files))
    (run_ended c.in-Ok.plan c.run.new.book (has_run c.in-Ok.plan c.run.new.book c.run.result c.run.ensures.frames c.run.ensures.promise c.run.ensures.bounded c.run.ensures.ends c.run.ensures.ending c.run.ensures.serving c.run.ensures.unheard c.run.ensures.unsent))
    c.in-Err-save.ensures.failed
