use Rattle.std.proofs.Common.{◌≡◌, map, string_bytes, refl, sym}
use Rattle.ecmbx_words.specs.declared.status.Status.TheVariants as statuses
use Rattle.people_words.specs.declared.ended.Ended.{Ended}
use Rattle.entry_act.specs.Words.{usage_in}
use Rattle.entry_call.specs.Course.{EntryCourse}
use Rattle.entry_call.proofs.Followed.{no_file_fault, told_among}
use Rattle.entry_call.proofs.call.get_or_put.Goals as goal

pub returns-in-None-clause-course : goal.returns-in-None-clause-course
returns-in-None-clause-course g c =
    let line = rw c.usage_of.ensures at c.tell.ensures.put in
    (Ended.As statuses.Usage, usage_in (map string_bytes c.args.words.now), EntryCourse.misfit (sym c.in-None.ensures) refl refl, line)

pub returns-in-None-clause-file : goal.returns-in-None-clause-file
returns-in-None-clause-file g c is =
    no_file_fault (Ended.As statuses.Usage) c.tell.result (told_among (Ended.As statuses.Usage) c.usage_of.result.now (g.O.Sink.written c.args.out.now) (g.O.Sink.written c.tell.new.out) c.tell.result c.tell.ensures.put) (λ same. absurd cc) is
