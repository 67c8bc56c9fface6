use Rattle.std.proofs.Common.{◌≡◌, refl, true, rules}
use Rattle.gateway_stream.specs.of_ec_outside.Faults.{Rose}
use Rattle.promised_run.specs.of_gateway_run.Serving.{told}
use Rattle.ecmbx_call.specs.Course.{words_of}
use Rattle.ecmbx_call.proofs.Calls.{calls_of}
use Rattle.ecmbx_call.specs.First.{is_stream}
use Rattle.ecmbx_call.proofs.Puts.{puts_still}
use Rattle.ecmbx_call.proofs.Words.{one_first}
use Rattle.ecmbx_call.proofs.by_word.program.Goals as goal

pub returns-then-is_stream-clause-asks : goal.returns-then-is_stream-clause-asks
returns-then-is_stream-clause-asks g c =
    let is : is_stream (words_of c.args.words.now) ≡ true = search rules in
    λ asks. absurd (one_first (words_of c.args.words.now) is asks)

pub returns-then-is_stream-clause-new : goal.returns-then-is_stream-clause-new
returns-then-is_stream-clause-new g c =
    let is : is_stream (words_of c.args.words.now) ≡ true = search rules in
    λ asks. absurd (one_first (words_of c.args.words.now) is asks)

pub returns-then-is_ask-clause-asks : goal.returns-then-is_ask-clause-asks
returns-then-is_ask-clause-asks g c =
    let said = c.ask_call.ensures in
    λ asks. record {
      course = said.course;
      usage = said.usage;
      absent = said.absent;
      too_long = said.too_long;
      no_answer = said.no_answer;
      port_fault = said.port_fault;
      file_fault = said.file_fault;
      sink_fault = said.sink_fault;
      same = said.same;
    }

pub returns-else-is_ask-clause-calls : goal.returns-else-is_ask-clause-calls
returns-else-is_ask-clause-calls g c =
    λ streams asks. calls_of (words_of c.args.words.now) (g.F.Files.table c.args.files.now) (g.F.Files.table c.ecmbx.new.files) (Rose (g.F.Files.file_faults c.args.files.now) (g.F.Files.file_faults c.ecmbx.new.files)) (Rose (g.O.Sink.sink_faults c.args.out.now) (g.O.Sink.sink_faults c.ecmbx.new.out)) (told g.P.Port.heard g.P.Port.sent g.P.Port.over g.P.Port.port_faults c.args.port.now) (told g.P.Port.heard g.P.Port.sent g.P.Port.over g.P.Port.port_faults c.ecmbx.new.port) c.ecmbx.new.book
    (g.O.Sink.written c.args.out.now) (g.O.Sink.written c.ecmbx.new.out) c.ecmbx.result c.ecmbx.ensures.course c.ecmbx.ensures.sink_fault c.ecmbx.ensures.book c.ecmbx.ensures.same c.ecmbx.ensures.files

pub returns-then-is_ask-clause-puts : goal.returns-then-is_ask-clause-puts
returns-then-is_ask-clause-puts g c = λ memory. puts_still (g.L.Link.link_faults c.args.link) (g.L.Link.sent c.args.link) (g.L.Link.sent c.args.link) refl

pub returns-else-is_ask-clause-puts : goal.returns-else-is_ask-clause-puts
returns-else-is_ask-clause-puts g c = λ memory. puts_still (g.L.Link.link_faults c.args.link) (g.L.Link.sent c.args.link) (g.L.Link.sent c.args.link) refl
