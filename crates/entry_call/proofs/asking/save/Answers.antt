use Rattle.std.proofs.Common.{map, string_bytes, refl}
use Rattle.ecmbx_words.specs.declared.status.Status.TheVariants as statuses
use Rattle.people_words.specs.declared.ended.Ended.{Ended}
use Rattle.entry_texts.specs.Replies.{saved_line}
use Rattle.entry_call.proofs.Followed.{no_file_fault}
use Rattle.entry_call.proofs.Saves.{saved_in, unsaved_in, starved_in}
use Rattle.entry_call.proofs.asking.save.Goals as goal

pub returns-in-Ok-clause-course : goal.returns-in-Ok-clause-course
returns-in-Ok-clause-course g c =
    saved_in (map string_bytes c.args.words.now) c.args.slave.now c.args.service.now c.args.octets.now c.last_word-file.result.now (g.F.Files.table c.args.files.now) (g.F.Files.table c.save.new.self)
    (g.O.Sink.written c.args.out.now) (g.O.Sink.written c.put.new.out) c.put.result c.last_word-file.ensures c.in-Ok.ensures.saved
    (c.put.ensures.put (saved_line c.args.slave.now c.args.service.now c.args.octets.now c.last_word-file.result.now) c.saved_line.ensures)

pub returns-in-Ok-clause-file : goal.returns-in-Ok-clause-file
returns-in-Ok-clause-file g c is = no_file_fault (Ended.As statuses.Done) c.put.result c.put.ensures.among (λ same. absurd cc) is

pub returns-in-Err-Failed-clause-course : goal.returns-in-Err-Failed-clause-course
returns-in-Err-Failed-clause-course g c =
    let why = rw c.in-Err-Failed.field-0-is at c.in-Err-Failed.ensures in
    let line = rw c.file_fault.ensures at c.tell.ensures.put in
    unsaved_in (map string_bytes c.args.words.now) c.args.slave.now c.args.service.now c.args.octets.now c.last_word-file.result.now (g.F.Files.table c.args.files.now) (g.F.Files.table c.save.new.self)
    (g.O.Sink.written c.args.out.now) (g.O.Sink.written c.tell.new.out) c.tell.result c.last_word-file.ensures why.saved line

pub returns-in-Err-NoMemory-clause-course : goal.returns-in-Err-NoMemory-clause-course
returns-in-Err-NoMemory-clause-course g c =
    let why = rw c.in-Err-NoMemory.field-0-is at c.in-Err-NoMemory.ensures in
    starved_in (map string_bytes c.args.words.now) c.args.slave.now c.args.service.now c.args.octets.now c.last_word-file.result.now (g.F.Files.table c.args.files.now) (g.F.Files.table c.save.new.self)
    (g.O.Sink.written c.args.out.now) (g.O.Sink.written c.args.out.now) (Ended.As statuses.NoMemory) c.last_word-file.ensures why.saved refl
