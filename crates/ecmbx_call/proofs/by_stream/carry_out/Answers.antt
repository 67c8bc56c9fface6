use Rattle.gateway_stream.specs.of_ec_outside.Faults.{Rose}
use Rattle.std.proofs.Common.{◌∙◌, refl, inl, inr}
use Rattle.tool_call.specs.of_ecmbx_words.declared.status.Status.TheVariants as statuses
use Rattle.tool_call.specs.of_ecmbx_words.Form.{as_serve}
use Rattle.tool_call.specs.of_ecmbx_words.Texts.{usage_line}
use Rattle.ecmbx_call.specs.Course.{words_of, Course}
use Rattle.tool_call.proofs.of_ecmbx_words.Loads.{said}
use Rattle.ecmbx_call.proofs.Courses.{serve_course}
use Rattle.ecmbx_call.proofs.Servings.{some_served}
use Rattle.ecmbx_call.specs.Linked.{told_first, told_last}
use Rattle.ecmbx_call.proofs.Puts.{puts_still}
use Rattle.ecmbx_call.proofs.Streams.{began_words, name_at}
use Rattle.ecmbx_call.proofs.by_stream.carry_out.Goals as goal

pub stream_file-requires-clause-some : goal.stream_file-requires-clause-some
stream_file-requires-clause-some g c = some_served (as_serve (words_of c.args.words.now)) c.in-Some.count c.in-Some.ensures

pub returns-in-Some-clause-course : goal.returns-in-Some-clause-course
returns-in-Some-clause-course g c =
    serve_course (as_serve (words_of c.args.words.now)) (g.F.Files.table c.args.files.now) (g.F.Files.table c.stream_file.new.files) (Rose (g.F.Files.file_faults c.args.files.now) (g.F.Files.file_faults c.stream_file.new.files)) (told_first g.L.Link.given g.L.Link.sent g.L.Link.over g.L.Link.link_faults c.args.link) (told_last g.L.Link.given g.L.Link.sent g.L.Link.over g.L.Link.link_faults c.args.link c.stream_file.result.1) c.stream_file.new.book c.as_str.result.now
    (g.O.Sink.written c.args.out.now) (g.O.Sink.written c.stream_file.new.out) c.stream_file.result.0 c.in-Some.count c.in-Some.ensures (c.as_str.ensures.value ∙ name_at c.args.words.now c.index-words-1.result c.in-Some.count c.index-words-1.is c.in-Some.ensures) c.stream_file.ensures.course

pub returns-in-Some-clause-book : goal.returns-in-Some-clause-book
returns-in-Some-clause-book g c =
    began_words (as_serve (words_of c.args.words.now)) (g.F.Files.table c.args.files.now) (told_first g.L.Link.given g.L.Link.sent g.L.Link.over g.L.Link.link_faults c.args.link) (told_last g.L.Link.given g.L.Link.sent g.L.Link.over g.L.Link.link_faults c.args.link c.stream_file.result.1) c.stream_file.new.book c.in-Some.count c.as_str.result.now c.in-Some.ensures (c.as_str.ensures.value ∙ name_at c.args.words.now c.index-words-1.result c.in-Some.count c.index-words-1.is c.in-Some.ensures) c.stream_file.ensures.book

pub returns-in-Some-clause-link : goal.returns-in-Some-clause-link
returns-in-Some-clause-link g c = λ none. elim none [ inl other ↦ absurd (other (c.in-Some.count, c.in-Some.ensures)) | inr fresh ↦ c.stream_file.ensures.link fresh ]

pub returns-in-None-clause-course : goal.returns-in-None-clause-course
returns-in-None-clause-course g c =
    let put = rw c.usage.ensures at c.say.ensures.put in
    said (Course (as_serve (words_of c.args.words.now)) (g.F.Files.table c.args.files.now) (g.F.Files.table c.args.files.now) (Rose (g.F.Files.file_faults c.args.files.now) (g.F.Files.file_faults c.args.files.now)) (told_first g.L.Link.given g.L.Link.sent g.L.Link.over g.L.Link.link_faults c.args.link) (told_last g.L.Link.given g.L.Link.sent g.L.Link.over g.L.Link.link_faults c.args.link c.args.link) c.args.book.now) statuses.Usage usage_line
    (g.O.Sink.written c.args.out.now) (g.O.Sink.written c.say.new.out) c.say.result (Course.usage c.in-None.ensures c.requires) put

pub returns-in-None-clause-puts : goal.returns-in-None-clause-puts
returns-in-None-clause-puts g c = λ memory. puts_still (g.L.Link.link_faults c.args.link) (g.L.Link.sent c.args.link) (g.L.Link.sent c.args.link) refl
