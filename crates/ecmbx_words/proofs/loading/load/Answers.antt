use Rattle.std.proofs.Common.{refl}
use Rattle.ec_outside.specs.Faults.{Rose}
use Rattle.ecmbx_words.specs.declared.status.Status.TheVariants as statuses
use Rattle.ecmbx_words.specs.Texts.{absent_line, long_line, fault_line}
use Rattle.ecmbx_words.specs.Files.{FileCourse}
use Rattle.ecmbx_words.specs.Files.FileCourse.{fault, absent, long}
use Rattle.ecmbx_words.proofs.Loads.{said, is_loaded, holds_absent, holds_long}
use Rattle.ecmbx_words.proofs.loading.load.Goals as goal

pub returns-in-Ok-Found-clause-found : goal.returns-in-Ok-Found-clause-found
returns-in-Ok-Found-clause-found g c =
    let found = rw c.in-Ok-Found.field-0-is at c.in-Ok-Found.ensures in
    is_loaded c.args.limit c.args.name.now c.load.new.into (g.F.Files.table c.args.files.now) found.loaded

pub returns-in-Ok-Absent-clause-failed : goal.returns-in-Ok-Absent-clause-failed
returns-in-Ok-Absent-clause-failed g c =
    let found = rw c.in-Ok-Absent.field-0-is at c.in-Ok-Absent.ensures in
    let put = rw c.absent.ensures at c.say.ensures.put in
    said (FileCourse c.args.limit c.args.name.now (g.F.Files.table c.args.files.now) (Rose (g.F.Files.file_faults c.args.files.now) (g.F.Files.file_faults c.load.new.self)) (Unit {0}) (λ octets planned text. ⊥)) statuses.Absent absent_line
    (g.O.Sink.written c.args.out.now) (g.O.Sink.written c.say.new.out) c.say.result (absent (holds_absent c.args.limit c.args.name.now c.load.new.into (g.F.Files.table c.args.files.now) found.loaded) tt) put

pub returns-in-Ok-TooLong-clause-failed : goal.returns-in-Ok-TooLong-clause-failed
returns-in-Ok-TooLong-clause-failed g c =
    let found = rw c.in-Ok-TooLong.field-0-is at c.in-Ok-TooLong.ensures in
    let put = rw c.too_long.ensures at c.say-in-Ok-TooLong.ensures.put in
    said (FileCourse c.args.limit c.args.name.now (g.F.Files.table c.args.files.now) (Rose (g.F.Files.file_faults c.args.files.now) (g.F.Files.file_faults c.load.new.self)) (Unit {0}) (λ octets planned text. ⊥)) statuses.TooLong long_line
    (g.O.Sink.written c.args.out.now) (g.O.Sink.written c.say-in-Ok-TooLong.new.out) c.say-in-Ok-TooLong.result (long (holds_long c.args.limit c.args.name.now c.load.new.into (g.F.Files.table c.args.files.now) found.loaded) tt) put

pub returns-in-Err-Failed-clause-failed : goal.returns-in-Err-Failed-clause-failed
returns-in-Err-Failed-clause-failed g c =
    let failed = rw c.in-Err-Failed.field-0-is at c.in-Err-Failed.ensures in
    let put = rw c.file_fault.ensures at c.say-in-Err-Failed.ensures.put in
    said (FileCourse c.args.limit c.args.name.now (g.F.Files.table c.args.files.now) (Rose (g.F.Files.file_faults c.args.files.now) (g.F.Files.file_faults c.load.new.self)) (Unit {0}) (λ octets planned text. ⊥)) statuses.FileFault fault_line
    (g.O.Sink.written c.args.out.now) (g.O.Sink.written c.say-in-Err-Failed.new.out) c.say-in-Err-Failed.result (fault (failed.cause refl) tt) put
