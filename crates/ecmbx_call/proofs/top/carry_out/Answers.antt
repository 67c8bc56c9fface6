use Rattle.std.proofs.Common.{refl, sym, subst, ◌∙◌, inl, inr, []}
use Rattle.gateway_stream.specs.of_ec_outside.Faults.{Rose}
use Rattle.promised_run.specs.of_gateway_run.Serving.{told}
use Rattle.scenario_made.specs.Made.{text_of}
use Rattle.tool_call.specs.of_ecmbx_words.declared.status.Status.TheVariants as statuses
use Rattle.tool_call.specs.of_ecmbx_words.Texts.{usage_line}
use Rattle.tool_call.specs.of_ecmbx_words.Form.{saved_in}
use Rattle.ecmbx_call.specs.Course.{words_of, Course}
use Rattle.ecmbx_call.specs.Files.{LeavesFiles}
use Rattle.tool_call.proofs.of_ecmbx_words.Loads.{said}
use Rattle.ecmbx_call.proofs.Courses.{run_course, decode_course, audit_course, serve_course, saved_words, name_at, saved_at, run_other, saved_other, decode_other, audit_other, serve_other}
use Rattle.ecmbx_call.proofs.Kept.{leaves_all}
use Rattle.ecmbx_call.proofs.Servings.{some_served}
use Rattle.ecmbx_call.proofs.Streams.{began_words, ran_words}
use Rattle.ecmbx_call.proofs.top.carry_out.Goals as goal

pub returns-in-Run-clause-course : goal.returns-in-Run-clause-course
returns-in-Run-clause-course g c =
    run_course (words_of c.args.words.now) (g.F.Files.table c.args.files.now) (g.F.Files.table c.run_file.new.files) (Rose (g.F.Files.file_faults c.args.files.now) (g.F.Files.file_faults c.run_file.new.files)) (told g.P.Port.heard g.P.Port.sent g.P.Port.over g.P.Port.port_faults c.args.port.now) (told g.P.Port.heard g.P.Port.sent g.P.Port.over g.P.Port.port_faults c.args.port.now) c.run_file.new.book c.as_str.result.now
    (g.O.Sink.written c.args.out.now) (g.O.Sink.written c.run_file.new.out) c.run_file.result (sym c.in-Run.ensures) (c.as_str.ensures.value ∙ name_at c.args.words.now c.index-words-1.result c.index-words-1.is (λ other. absurd (run_other (sym other ∙ sym c.in-Run.ensures)))) c.run_file.ensures.course

pub returns-in-RunSaved-clause-course : goal.returns-in-RunSaved-clause-course
returns-in-RunSaved-clause-course g c =
    saved_words (words_of c.args.words.now) (g.F.Files.table c.args.files.now) (g.F.Files.table c.run_file_saved.new.files) (Rose (g.F.Files.file_faults c.args.files.now) (g.F.Files.file_faults c.run_file_saved.new.files)) (told g.P.Port.heard g.P.Port.sent g.P.Port.over g.P.Port.port_faults c.args.port.now) (told g.P.Port.heard g.P.Port.sent g.P.Port.over g.P.Port.port_faults c.args.port.now) c.run_file_saved.new.book c.as_str-in-RunSaved.result.now
    (g.O.Sink.written c.args.out.now) (g.O.Sink.written c.run_file_saved.new.out) c.run_file_saved.result c.as_str-in-RunSaved-2.result.now (sym c.in-RunSaved.ensures) (c.as_str-in-RunSaved.ensures.value ∙ name_at c.args.words.now c.index-words-1-in-RunSaved.result c.index-words-1-in-RunSaved.is (λ other. absurd (saved_other (sym other ∙ sym c.in-RunSaved.ensures))))
    (c.as_str-in-RunSaved-2.ensures.value ∙ saved_at c.args.words.now c.index-words-2.result c.index-words-2.is (sym c.in-RunSaved.ensures)) c.run_file_saved.ensures.course

pub returns-in-Decode-clause-course : goal.returns-in-Decode-clause-course
returns-in-Decode-clause-course g c =
    decode_course (words_of c.args.words.now) (g.F.Files.table c.args.files.now) (g.F.Files.table c.decode_file.new.files) (Rose (g.F.Files.file_faults c.args.files.now) (g.F.Files.file_faults c.decode_file.new.files)) (told g.P.Port.heard g.P.Port.sent g.P.Port.over g.P.Port.port_faults c.args.port.now) (told g.P.Port.heard g.P.Port.sent g.P.Port.over g.P.Port.port_faults c.args.port.now) c.args.book.now c.as_str-in-Decode.result.now
    (g.O.Sink.written c.args.out.now) (g.O.Sink.written c.decode_file.new.out) c.decode_file.result (sym c.in-Decode.ensures) (c.as_str-in-Decode.ensures.value ∙ name_at c.args.words.now c.index-words-1-in-Decode.result c.index-words-1-in-Decode.is (λ other. absurd (decode_other (sym other ∙ sym c.in-Decode.ensures)))) c.requires c.decode_file.ensures.course

pub returns-in-Audit-clause-course : goal.returns-in-Audit-clause-course
returns-in-Audit-clause-course g c =
    audit_course (words_of c.args.words.now) (g.F.Files.table c.args.files.now) (g.F.Files.table c.audit_file.new.files) (Rose (g.F.Files.file_faults c.args.files.now) (g.F.Files.file_faults c.audit_file.new.files)) (told g.P.Port.heard g.P.Port.sent g.P.Port.over g.P.Port.port_faults c.args.port.now) (told g.P.Port.heard g.P.Port.sent g.P.Port.over g.P.Port.port_faults c.args.port.now) c.args.book.now c.as_str-in-Audit.result.now
    (g.O.Sink.written c.args.out.now) (g.O.Sink.written c.audit_file.new.out) c.audit_file.result (sym c.in-Audit.ensures) (c.as_str-in-Audit.ensures.value ∙ name_at c.args.words.now c.index-words-1-in-Audit.result c.index-words-1-in-Audit.is (λ other. absurd (audit_other (sym other ∙ sym c.in-Audit.ensures)))) c.requires c.audit_file.ensures.course

pub returns-in-Make-clause-course : goal.returns-in-Make-clause-course
returns-in-Make-clause-course g c =
    said (Course (words_of c.args.words.now) (g.F.Files.table c.args.files.now) (g.F.Files.table c.args.files.now) (Rose (g.F.Files.file_faults c.args.files.now) (g.F.Files.file_faults c.args.files.now)) (told g.P.Port.heard g.P.Port.sent g.P.Port.over g.P.Port.port_faults c.args.port.now) (told g.P.Port.heard g.P.Port.sent g.P.Port.over g.P.Port.port_faults c.args.port.now) c.args.book.now) statuses.Done (text_of [] c.in-Make.seed c.in-Make.size)
    (g.O.Sink.written c.args.out.now) (g.O.Sink.written c.make.new.out) c.make.result (Course.make c.in-Make.seed c.in-Make.size (sym c.in-Make.ensures) c.requires) c.make.ensures.put

pub returns-in-Other-clause-course : goal.returns-in-Other-clause-course
returns-in-Other-clause-course g c =
    let put = rw c.usage.ensures at c.say.ensures.put in
    said (Course (words_of c.args.words.now) (g.F.Files.table c.args.files.now) (g.F.Files.table c.args.files.now) (Rose (g.F.Files.file_faults c.args.files.now) (g.F.Files.file_faults c.args.files.now)) (told g.P.Port.heard g.P.Port.sent g.P.Port.over g.P.Port.port_faults c.args.port.now) (told g.P.Port.heard g.P.Port.sent g.P.Port.over g.P.Port.port_faults c.args.port.now) c.args.book.now) statuses.Usage usage_line
    (g.O.Sink.written c.args.out.now) (g.O.Sink.written c.say.new.out) c.say.result (Course.usage (sym c.in-Other.ensures) c.requires) put

pub serve_file-requires-clause-some : goal.serve_file-requires-clause-some
serve_file-requires-clause-some g c = some_served (words_of c.args.words.now) c.in-Serve.count (sym c.in-Serve.ensures)

pub returns-in-Serve-clause-course : goal.returns-in-Serve-clause-course
returns-in-Serve-clause-course g c =
    serve_course (words_of c.args.words.now) (g.F.Files.table c.args.files.now) (g.F.Files.table c.serve_file.new.files) (Rose (g.F.Files.file_faults c.args.files.now) (g.F.Files.file_faults c.serve_file.new.files)) (told g.P.Port.heard g.P.Port.sent g.P.Port.over g.P.Port.port_faults c.args.port.now) (told g.P.Port.heard g.P.Port.sent g.P.Port.over g.P.Port.port_faults c.serve_file.new.port) c.serve_file.new.book c.as_str-in-Serve.result.now
    (g.O.Sink.written c.args.out.now) (g.O.Sink.written c.serve_file.new.out) c.serve_file.result c.in-Serve.count (sym c.in-Serve.ensures) (c.as_str-in-Serve.ensures.value ∙ name_at c.args.words.now c.index-words-1-in-Serve.result c.index-words-1-in-Serve.is (λ other. absurd (serve_other c.in-Serve.count (sym other ∙ sym c.in-Serve.ensures)))) c.serve_file.ensures.course

pub returns-in-Run-clause-book : goal.returns-in-Run-clause-book
returns-in-Run-clause-book g c =
    ran_words (words_of c.args.words.now) (g.F.Files.table c.args.files.now) (told g.P.Port.heard g.P.Port.sent g.P.Port.over g.P.Port.port_faults c.args.port.now) (told g.P.Port.heard g.P.Port.sent g.P.Port.over g.P.Port.port_faults c.args.port.now) c.run_file.new.book c.as_str.result.now
    (c.as_str.ensures.value ∙ name_at c.args.words.now c.index-words-1.result c.index-words-1.is (λ other. absurd (run_other (sym other ∙ sym c.in-Run.ensures)))) c.run_file.ensures.book

pub returns-in-RunSaved-clause-book : goal.returns-in-RunSaved-clause-book
returns-in-RunSaved-clause-book g c =
    ran_words (words_of c.args.words.now) (g.F.Files.table c.args.files.now) (told g.P.Port.heard g.P.Port.sent g.P.Port.over g.P.Port.port_faults c.args.port.now) (told g.P.Port.heard g.P.Port.sent g.P.Port.over g.P.Port.port_faults c.args.port.now) c.run_file_saved.new.book c.as_str-in-RunSaved.result.now
    (c.as_str-in-RunSaved.ensures.value ∙ name_at c.args.words.now c.index-words-1-in-RunSaved.result c.index-words-1-in-RunSaved.is (λ other. absurd (saved_other (sym other ∙ sym c.in-RunSaved.ensures)))) c.run_file_saved.ensures.book

pub returns-in-Serve-clause-book : goal.returns-in-Serve-clause-book
returns-in-Serve-clause-book g c =
    began_words (words_of c.args.words.now) (g.F.Files.table c.args.files.now) (told g.P.Port.heard g.P.Port.sent g.P.Port.over g.P.Port.port_faults c.args.port.now) (told g.P.Port.heard g.P.Port.sent g.P.Port.over g.P.Port.port_faults c.serve_file.new.port) c.serve_file.new.book c.in-Serve.count c.as_str-in-Serve.result.now (sym c.in-Serve.ensures)
    (c.as_str-in-Serve.ensures.value ∙ name_at c.args.words.now c.index-words-1-in-Serve.result c.index-words-1-in-Serve.is (λ other. absurd (serve_other c.in-Serve.count (sym other ∙ sym c.in-Serve.ensures)))) c.serve_file.ensures.book

pub returns-in-Run-clause-files : goal.returns-in-Run-clause-files
returns-in-Run-clause-files g c =
    leaves_all (saved_in (words_of c.args.words.now)) (g.F.Files.table c.args.files.now) (g.F.Files.table c.run_file.new.files) c.run_file.new.book c.run_file.result (Rose (g.F.Files.file_faults c.args.files.now) (g.F.Files.file_faults c.run_file.new.files)) c.run_file.ensures.same

pub returns-in-Decode-clause-files : goal.returns-in-Decode-clause-files
returns-in-Decode-clause-files g c =
    leaves_all (saved_in (words_of c.args.words.now)) (g.F.Files.table c.args.files.now) (g.F.Files.table c.decode_file.new.files) c.args.book.now c.decode_file.result (Rose (g.F.Files.file_faults c.args.files.now) (g.F.Files.file_faults c.decode_file.new.files)) c.decode_file.ensures.same

pub returns-in-Audit-clause-files : goal.returns-in-Audit-clause-files
returns-in-Audit-clause-files g c =
    leaves_all (saved_in (words_of c.args.words.now)) (g.F.Files.table c.args.files.now) (g.F.Files.table c.audit_file.new.files) c.args.book.now c.audit_file.result (Rose (g.F.Files.file_faults c.args.files.now) (g.F.Files.file_faults c.audit_file.new.files)) c.audit_file.ensures.same

pub returns-in-Serve-clause-files : goal.returns-in-Serve-clause-files
returns-in-Serve-clause-files g c =
    leaves_all (saved_in (words_of c.args.words.now)) (g.F.Files.table c.args.files.now) (g.F.Files.table c.serve_file.new.files) c.serve_file.new.book c.serve_file.result (Rose (g.F.Files.file_faults c.args.files.now) (g.F.Files.file_faults c.serve_file.new.files)) c.serve_file.ensures.same

pub returns-in-Make-clause-files : goal.returns-in-Make-clause-files
returns-in-Make-clause-files g c =
    leaves_all (saved_in (words_of c.args.words.now)) (g.F.Files.table c.args.files.now) (g.F.Files.table c.args.files.now) c.args.book.now c.make.result (Rose (g.F.Files.file_faults c.args.files.now) (g.F.Files.file_faults c.args.files.now)) refl

pub returns-in-Other-clause-files : goal.returns-in-Other-clause-files
returns-in-Other-clause-files g c =
    leaves_all (saved_in (words_of c.args.words.now)) (g.F.Files.table c.args.files.now) (g.F.Files.table c.args.files.now) c.args.book.now c.say.result (Rose (g.F.Files.file_faults c.args.files.now) (g.F.Files.file_faults c.args.files.now)) refl

pub returns-in-RunSaved-clause-files : goal.returns-in-RunSaved-clause-files
returns-in-RunSaved-clause-files g c =
    subst (λ name. LeavesFiles name (g.F.Files.table c.args.files.now) (g.F.Files.table c.run_file_saved.new.files) (Rose (g.F.Files.file_faults c.args.files.now) (g.F.Files.file_faults c.run_file_saved.new.files)) c.run_file_saved.new.book c.run_file_saved.result)
    (c.as_str-in-RunSaved-2.ensures.value ∙ saved_at c.args.words.now c.index-words-2.result c.index-words-2.is (sym c.in-RunSaved.ensures)) c.run_file_saved.ensures.files

pub returns-in-Serve-clause-port : goal.returns-in-Serve-clause-port
returns-in-Serve-clause-port g c = λ none. elim none [ inl other ↦ absurd (other (c.in-Serve.count, sym c.in-Serve.ensures)) | inr fresh ↦ c.serve_file.ensures.port fresh ]
