use Rattle.std.proofs.Common.{◌≡◌, true, false, map, string_bytes, refl, sym, ◌∙◌}
use Rattle.people_words.specs.declared.ended.Ended.{Ended}
use Rattle.entry_texts.specs.Replies.{end_of, reply_line}
use Rattle.entry_call.specs.Service.{saves, SaveCourse, ReplyCourse}
use Rattle.entry_call.proofs.Followed.{turned, no_file_fault}
use Rattle.entry_call.proofs.Saves.{end_of_no_sink, end_of_no_file}
use Rattle.entry_call.proofs.asking.follow.Goals as goal

pub returns-then-saves-clause-course : goal.returns-then-saves-clause-course
returns-then-saves-clause-course g c =
    let words = map string_bytes c.args.words.now in
    let course = rw c.bytes.ensures at c.save.ensures.course in
    turned (SaveCourse words c.args.slave.now c.args.service.now c.args.reply.now.value (g.F.Files.table c.args.files.now) (g.F.Files.table c.save.new.files))
    (ReplyCourse words c.args.task c.args.slave.now c.args.service.now c.args.reply.now (g.F.Files.table c.args.files.now) (g.F.Files.table c.save.new.files))
    (λ planned text came. ReplyCourse.saved planned text (sym c.saves.ensures ∙ c.if-saves.true) came)
    (g.O.Sink.written c.args.out.now) (g.O.Sink.written c.save.new.out) c.save.result course

pub put-requires : goal.put-requires
put-requires g c is = end_of_no_sink c.args.reply.now.kind (sym c.end_of.ensures ∙ is)

pub returns-else-saves-clause-course : goal.returns-else-saves-clause-course
returns-else-saves-clause-course g c =
    let line = reply_line c.args.slave.now c.args.service.now c.args.reply.now in
    let put = c.put.ensures.put line c.reply_line.ensures in
    let told = rw c.end_of.ensures at put in
    (end_of c.args.reply.now.kind, line, ReplyCourse.told (sym c.saves.ensures ∙ c.if-saves.false) refl, told)

pub returns-else-saves-clause-file : goal.returns-else-saves-clause-file
returns-else-saves-clause-file g c is = no_file_fault c.end_of.result c.put.result c.put.ensures.among (λ same. end_of_no_file c.args.reply.now.kind (sym c.end_of.ensures ∙ same)) is
